-- The entries behind a head, moved one at a time, against the definition; and remap. Assumes nothing.
use Rattle.std.specs.Prelude.{Option, Some, None}
use Prim.Native.Nat.{Ordering, ℕ, zero, suc, ◌+◌, ◌-◌, ◌≤◌, ◌<◌}
use native.Mathlib.Omega.{arith}
use mathlib.Core.Path.{◌≡◌, refl, sym, ap, ◌∙◌, subst}
use mathlib.Core.List.{List, [], ◌∷◌, ◌++◌, append-nil}
use mathlib.Core.Bool.{Bool, true, false, not, false≢true}
use lib.Dec.{leb}
use lib.ListN.{length}
use borrow.Author.Tests.{eq-eqb, ne_eqb}
use Rattle.model.specs.Seam.{ResourceId}
use Rattle.model.specs.Calls.{Notice, Effect}
use Rattle.model.specs.State.{Map, Pending, Queue, SyncState, with_aliases}
use Rattle.model.specs.Limits.{document01}
use Rattle.model.specs.Edits.{Operation}
use Rattle.model.specs.Maps.{is_some_and, when◌then◌else◌, same_text, by_name, insert, map, filter, is_empty}
use Rattle.model.specs.Machine.{Machine, Run, ok, with_state, within, tell, set_aliases, queue_of, set_queue, set_edits}
use Rattle.model.specs.Sync.{is_create, move_to, move_behind, remap, start_edit, start_queue}
use Rattle.model.proofs.Tables.{same_self, by_name_same, name_order}
use Rattle.state.specs.Setters.{with_edits}
use Rattle.state.specs.Contract.{Keeps, HasState, Reads, Edits, Tries}
use Rattle.waiting.specs.Queues.{queue, put_queue, renamed, nth, moved}
use Rattle.waiting.specs.declared.readers.OperationCase.{OperationCase}
use Rattle.waiting.specs.declared.readers.OperationCase.TheVariants as Case
use Rattle.waiting.specs.Reading.{case_of, operation_case_of}
use Rattle.waiting.proofs.Bridge.{queue_is, set_queue_is}
use Rattle.waiting.proofs.Splices.{rows_count}
use Rattle.machine.specs.declared.Progress.{Progress}
use Rattle.machine.specs.Contract.{Does, Changes, Pushes}
use Rattle.machine.specs.Steps.{tried_by}
use Rattle.machine.proofs.Runs as runs
use Rattle.machine.proofs.Steps as steps
use Rattle.writes.specs.Moves.{stays_at, one_moved, place_after, MovesOne, sweep, swept}
use Rattle.writes.proofs.Inserts.{insert_there}
use Rattle.writes.proofs.Moves.{form, sweep_form, at_form, queue_there, queue_other, put_some}

abbrev kept : Queue → Queue
kept R = filter (λ q. is_create q.edit.operation) R

abbrev left : Queue → Queue
left R = filter (λ q. not (is_create q.edit.operation)) R

module _ (from to : ResourceId) (d : by_name from to ≡ Ordering.eq → ⊥) (d' : by_name to from ≡ Ordering.eq → ⊥) where
  -- what is moved, as a map
  swept_is : (s : SyncState) (p : Pending) (R : Queue) → queue from s ≡ p ∷ R
      → swept from to s ≡ with_edits (form from to d d' p s.edits (kept R) (map (renamed to) (left R)) []) s
  unfolding at_form form
  swept_is s p R e =
      let n : length (queue from s) - 1 ≡ length R = ap (λ (q : Queue). length q - 1) e ∙ (let z : suc (length R) - 1 ≡ length R = omega arith in z) in
      let f : s ≡ at_form from to d d' p s.edits s [] [] R = ap (λ (E : Map ResourceId Queue). with_edits E s) (sym (insert_there by_name name_order from (p ∷ R) s.edits (queue_there from p R s.edits e))) in
      ap (λ (k : ℕ). sweep from to k 1 s) n ∙ ap (sweep from to (length R) 1) f ∙ sweep_form from to d d' p s.edits s R [] []

  -- fewer than two entries: nothing moves
  swept_few : (s : SyncState) → length (queue from s) ≤ 1 → swept from to s ≡ s
  unfolding sweep
  swept_few s l = ap (λ (k : ℕ). sweep from to k 1 s) (let z : length (queue from s) - 1 ≡ 0 = omega arith in z)

  abbrev then_start : Queue → Machine → Run
  then_start t n = when is_empty t then start_edit to n else ok n

  -- a start where nothing waits
  quiet : (n : Machine) (t : Queue) → queue to n.state ≡ t → ok n ≡ then_start t n
  unfolding is_empty when◌then◌else◌ start_edit start_queue
  quiet n [] e = sym (ap (λ (q : Queue). start_queue to q n) (queue_is to n ∙ e))
  quiet n (x ∷ t) e = refl

  module _ (m : Machine) (p : Pending) (R : Queue) (e : queue from m.state ≡ p ∷ R) where
    abbrev s : SyncState
    s = m.state

    abbrev E : Map ResourceId Queue
    E = insert by_name from (p ∷ kept R) s.edits

    -- nothing goes
    none_go : left R ≡ [] → ok (with_state (with_edits E s) m) ≡ then_start (queue to s) (with_state (swept from to s) m)
    unfolding form map
    none_go l =
        let f : with_edits E s ≡ swept from to s =
        ap (λ (q : Queue). with_edits (insert by_name from (p ∷ q) s.edits) s) (sym (append-nil (kept R)))
        ∙ ap (λ (M : Queue). with_edits (form from to d d' p s.edits (kept R) (map (renamed to) M) []) s) (sym l)
        ∙ sym (swept_is s p R e) in
        let g : queue to (with_edits E s) ≡ queue to s = queue_other to from (p ∷ kept R) s.edits d' in
        ap (λ (x : SyncState). ok (with_state x m)) f ∙ quiet (with_state (swept from to s) m) (queue to s) (ap (queue to) (sym f) ∙ g)

    -- some go
    some_go : (b : Pending) (B : Queue) → left R ≡ b ∷ B
        → move_to to (b ∷ B) (with_state (with_edits E s) m) ≡ then_start (queue to s) (with_state (swept from to s) m)
    unfolding move_to form map renamed
    some_go b B l =
        let m₁ : Machine = with_state (with_edits E s) m in
        let t : queue_of to m₁ ≡ queue to s = queue_is to m₁ ∙ queue_other to from (p ∷ kept R) s.edits d' in
        let f : put_queue to (queue to s ++ map (renamed to) (b ∷ B)) m₁.state ≡ swept from to s =
        ap (λ (G : Map ResourceId Queue). with_edits G s) (put_some to (queue to s) (renamed to b) (map (renamed to) B) E)
        ∙ ap (λ (q : Queue). with_edits (insert by_name to (queue to s ++ map (renamed to) (b ∷ B)) (insert by_name from (p ∷ q) s.edits)) s) (sym (append-nil (kept R)))
        ∙ ap (λ (M : Queue). with_edits (form from to d d' p s.edits (kept R) (map (renamed to) M) []) s) (sym l)
        ∙ sym (swept_is s p R e) in
        ap (λ (q : Queue). then_start q (set_queue to (q ++ map (renamed to) (b ∷ B)) m₁)) t
        ∙ ap (then_start (queue to s)) (set_queue_is to (queue to s ++ map (renamed to) (b ∷ B)) m₁ ∙ ap (λ (x : SyncState). with_state x m) f)

    gone : (l : Queue) → left R ≡ l → move_to to l (with_state (with_edits E s) m) ≡ then_start (queue to s) (with_state (swept from to s) m)
    unfolding move_to
    gone [] e = none_go e
    gone (b ∷ B) e = some_go b B e

  pub behind_is : (m : Machine) → move_behind from to (queue_of from m) m ≡ then_start (queue to m.state) (with_state (swept from to m.state) m)
  unfolding move_behind set_queue set_edits
  behind_is m = ap (λ (q : Queue). move_behind from to q m) (queue_is from m) ∙ go (queue from m.state) refl
    where
      same : length (queue from m.state) ≤ 1 → ok m ≡ then_start (queue to m.state) (with_state (swept from to m.state) m)
      same l = quiet m (queue to m.state) refl ∙ ap (λ (x : SyncState). then_start (queue to m.state) (with_state x m)) (sym (swept_few m.state l))

      go : (q : Queue) → queue from m.state ≡ q → move_behind from to q m ≡ then_start (queue to m.state) (with_state (swept from to m.state) m)
      go [] e = same (omega (arith, ap length e))
      go (p ∷ []) e = same (omega (arith, ap length e))
      go (p ∷ q ∷ R) e = gone m p (q ∷ R) e (left (q ∷ R)) refl

-- ---- the functions

-- whether a case is that of a create
abbrev pub case_creates : Option OperationCase → Bool
case_creates None = false
case_creates (Some Case.Create) = true
case_creates (Some Case.Update) = false
case_creates (Some Case.Delete) = false

stays_by : (x : Option Pending) (b : Bool) → b ≡ case_creates (operation_case_of x) → is_some_and (λ p. is_create p.edit.operation) x ≡ b
unfolding operation_case_of is_some_and is_create
stays_by None b e = sym e
stays_by (Some p) b e = go p.edit.operation b e
  where
    go : (o : Operation) (b : Bool) → b ≡ case_creates (Some (case_of o)) → is_create o ≡ b
    go (Operation.Create event) b e = sym e
    go (Operation.Update base ours) b e = sym e
    go Operation.Delete b e = sym e

pub one_stays : {from to : ResourceId} {w : List ℕ} {j : ℕ} {c : Option OperationCase} → Reads (λ s. operation_case_of (nth j (queue from s))) w c → true ≡ case_creates c → MovesOne from j to w (j + 1) w
unfolding stays_at one_moved place_after when◌then◌else◌
one_stays {from} {to} {w} {j} {c} R z =
    let t : (s : SyncState) → Keeps s w → stays_at from j s ≡ true = λ s h. stays_by (nth j (queue from s)) true (z ∙ ap case_creates (R.is s h)) in
    record { next = λ s h. rw (t s h); makes = λ s h. rw (t s h) h }

pub one_moves : {from to : ResourceId} {w w' : List ℕ} {j : ℕ} {c : Option OperationCase} → Reads (λ s. operation_case_of (nth j (queue from s))) w c → false ≡ case_creates c → Edits (moved from j to) w w' → MovesOne from j to w j w'
unfolding stays_at one_moved place_after when◌then◌else◌
one_moves {from} {to} {w} {j = j} R z E =
    let t : (s : SyncState) → Keeps s w → stays_at from j s ≡ false = λ s h. stays_by (nth j (queue from s)) false (z ∙ ap case_creates (R.is s h)) in
    record { next = λ s h. rw (t s h); makes = λ s h. rw (t s h) (E.makes s h) }

-- no queue has more than all entries
few : (r : ResourceId) {w : List ℕ} {n : ℕ} → Reads (λ s. length (queue r s)) w n → HasState w → n ≤ 6
unfolding document01
few r R H =
    let a = R.is H.state H.keeps in
    let b = rows_count r H.keeps in
    let c = H.keeps.fits.edits.small in
    omega arith

-- the loop: the whole sweep is what is left of it
pub record Sweeping (from to : ResourceId) (w₀ w : List ℕ) (left j : ℕ) : Type 0 where
  pub low : j + left ≤ 6
  pub is : (s₀ : SyncState) → Keeps s₀ w₀ → (s : SyncState) × (Keeps s w) × (swept from to s₀ ≡ sweep from to left j s)

pub sweep_start : {from to : ResourceId} {w : List ℕ} {n : ℕ} → Reads (λ s. length (queue from s)) w n → HasState w → Sweeping from to w w (n - 1) 1
sweep_start {from} {to} {w} {n} R H = record {
  low = let l = few from R H in omega arith;
  is = λ s h. (s, h, ap (λ (k : ℕ). sweep from to (k - 1) 1 s) (sym (R.is s h)));
}

pub sweep_low : {from to : ResourceId} {w₀ w : List ℕ} {left j : ℕ} → Sweeping from to w₀ w left j → 0 < left → j < 6
sweep_low S z = let l = S.low in omega arith

pub sweep_has : {from to : ResourceId} {w₀ w : List ℕ} {left j : ℕ} → HasState w₀ → Sweeping from to w₀ w left j → HasState w
sweep_has H S = let x = S.is H.state H.keeps in record { state = x.0; keeps = x.1 }

sweep_turn : {from to : ResourceId} {w₀ w w' : List ℕ} {left j r : ℕ} → HasState w₀ → Sweeping from to w₀ w left j → 0 < left → MovesOne from j to w r w' → Sweeping from to w₀ w' (left - 1) r
unfolding sweep place_after when◌then◌else◌
sweep_turn {from} {to} {w₀} {w} {w'} {left} {j} {r} H S z M = record {
  low =
      let x = S.is H.state H.keeps in
      low_of x.0 x.1;
  is = λ s₀ h.
      let x = S.is s₀ h in
      (one_moved from j to x.0, M.makes x.0 x.1, x.2 ∙ turn left z x.0 ∙ ap (λ (k : ℕ). sweep from to (left - 1) k (one_moved from j to x.0)) (sym (M.next x.0 x.1)));
}
  where
    at_most : (b : Bool) → (when b then j + 1 else j) ≤ j + 1
    at_most true = omega arith
    at_most false = omega arith

    low_of : (s : SyncState) → Keeps s w → r + (left - 1) ≤ 6
    low_of s h =
        let a = M.next s h in
        let b : place_after from j s ≤ j + 1 = at_most (stays_at from j s) in
        let c = S.low in
        omega arith

    turn : (k : ℕ) → 0 < k → (s : SyncState) → sweep from to k j s ≡ sweep from to (k - 1) (place_after from j s) (one_moved from j to s)
    turn zero y s = absurd (omega arith)
    turn (suc k) y s = ap (λ (i : ℕ). sweep from to i (place_after from j s) (one_moved from j to s)) (let e : k ≡ suc k - 1 = omega arith in e)

-- the loop counts up to n
pub sweep_next : (from to : ResourceId) {w₀ w w' : List ℕ} (n i : ℕ) {j r : ℕ} → HasState w₀ → Sweeping from to w₀ w (n - i) j → i < n → MovesOne from j to w r w' → Sweeping from to w₀ w' (n - (i + 1)) r
sweep_next from to {w₀} {w' = w'} n i {r = r} H S z M =
    subst (λ (k : ℕ). Sweeping from to w₀ w' k r) (let e : n - i - 1 ≡ n - (i + 1) = omega arith in e) (sweep_turn H S (omega arith) M)

pub sweep_end : {from to : ResourceId} {w₀ w : List ℕ} {left j : ℕ} → left ≤ 0 → Sweeping from to w₀ w left j → Edits (swept from to) w₀ w
unfolding sweep
sweep_end {from} {to} {w₀} {w} {left} {j} z S = record {
  makes = λ s₀ h.
      let x = S.is s₀ h in
      let e : swept from to s₀ ≡ x.0 = x.2 ∙ ap (λ (k : ℕ). sweep from to k j x.0) (let y : left ≡ 0 = omega arith in y) in
      subst (λ (s : SyncState). Keeps s w) (sym e) x.1;
}

-- names that are not the same
apart : (a b : ResourceId) → same_text a b ≡ false → by_name a b ≡ Ordering.eq → ⊥
apart a b e q = false≢true (sym e ∙ (ap (same_text a) (sym (by_name_same a b q)) ∙ same_self a))

apart' : (a b : ResourceId) → same_text a b ≡ false → by_name b a ≡ Ordering.eq → ⊥
apart' a b e q = false≢true (sym e ∙ (ap (same_text a) (by_name_same b a q) ∙ same_self a))

no_entries : (n : ℕ) (q : Queue) → n ≡ length q → n ≡ 0 → is_empty q ≡ true
unfolding is_empty
no_entries n [] a b = refl
no_entries n (x ∷ q) a b = absurd (omega arith)

some_entries : (n : ℕ) (q : Queue) → n ≡ length q → (n ≡ 0 → ⊥) → is_empty q ≡ false
unfolding is_empty
some_entries n [] a b = absurd (b a)
some_entries n (x ∷ q) a b = refl

module _ (from to : ResourceId) {w w₁ : List ℕ} {n : ℕ} (c : same_text from to ≡ false) (R : Reads (λ s. length (queue to s)) w n) (E : Edits (swept from to) w w₁) where
  pub behind_starts : {o w₂ o₂ : List ℕ} {p q : Progress} → n ≡ 0 → Does (start_edit to) w₁ o p q w₂ o₂ → Does (λ m. move_behind from to (queue_of from m) m) w o p q w₂ o₂
  unfolding when◌then◌else◌
  behind_starts z D = runs.is_held (λ m. move_behind from to (queue_of from m) m)
      (λ m h. sym (behind_is from to (apart from to c) (apart' from to c) m
      ∙ ap (λ (b : Bool). when b then start_edit to (with_state (swept from to m.state) m) else ok (with_state (swept from to m.state) m)) (no_entries n (queue to m.state) (R.is m.state h.keeps) z)))
      (runs.edit E D)

  pub behind_waits : {o : List ℕ} {p : Progress} → (n ≡ 0 → ⊥) → Does (λ m. move_behind from to (queue_of from m) m) w o p p w₁ o
  unfolding when◌then◌else◌
  behind_waits z = runs.is_held (λ m. move_behind from to (queue_of from m) m)
      (λ m h. sym (behind_is from to (apart from to c) (apart' from to c) m
      ∙ ap (λ (b : Bool). when b then start_edit to (with_state (swept from to m.state) m) else ok (with_state (swept from to m.state) m)) (some_entries n (queue to m.state) (R.is m.state h.keeps) z)))
      (runs.last_edit E)

-- ---- remap

pub remap_same : (from to : ResourceId) {w o : List ℕ} {p : Progress} {b : Bool} → b ≡ same_text from to → b ≡ true → Does (remap from to) w o p p w o
unfolding remap when◌then◌else◌
remap_same from to e t = runs.is (remap from to) (λ m. rw (sym e ∙ t)) runs.nothing

alias : {w w' : List ℕ} {b : Bool} (p : Progress) (from to : ResourceId)
    → Tries (λ s. leb (length (insert by_name from to s.aliases)) 8) (λ s. with_aliases (insert by_name from to s.aliases) s) w b w'
    → Changes (λ m. within m.limits.aliases (insert by_name from to m.state.aliases) set_aliases m) w p (tried_by p b) w'
unfolding within set_aliases document01
alias p from to T = steps.tries (λ m. within m.limits.aliases (insert by_name from to m.state.aliases) set_aliases m) p T (λ m l h. rw l)

pub alias_state : {f : SyncState → SyncState} {t : SyncState → Bool} {w w' : List ℕ} {b : Bool} → Tries t f w b w' → HasState w → HasState w'
alias_state {f} {w' = w'} {b} T H = go b refl
  where
    go : (c : Bool) → b ≡ c → HasState w'
    go true k = record { state = f H.state; keeps = T.makes H.state H.keeps k }
    go false k = record { state = H.state; keeps = T.stays H.state H.keeps k }

pub remaps : (from to : ResourceId) {w o w₁ o₁ w₂ o₂ : List ℕ} {p q r t : Progress} {b c : Bool} → b ≡ same_text from to → b ≡ false
    → Tries (λ s. leb (length (insert by_name from to s.aliases)) 8) (λ s. with_aliases (insert by_name from to s.aliases) s) w c w₁
    → q ≡ tried_by p c → Pushes (Effect.Notify (Notice.Remapped from to)) o q r o₁ → Does (λ m. move_behind from to (queue_of from m) m) w₁ o₁ r t w₂ o₂
    → Does (remap from to) w o p t w₂ o₂
unfolding remap when◌then◌else◌ tell
remaps from to {o = o} {w₁} {p = p} e f T k P D =
    runs.is (remap from to) (λ m. rw (sym e ∙ f)) (runs.next ((steps.changed k (alias p from to T)).does o) (runs.next (P.does w₁) D))
