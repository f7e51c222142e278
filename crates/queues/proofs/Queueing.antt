-- `enqueue`: an entry appended, folded into or cancelled, and the resource that an edit is for. Assumes nothing.
use Rattle.std.specs.Prelude.{Option, Some, None}
use Rattle.format.proofs.Options.{None-ne-Some}
use Prim.Native.Nat.{ℕ, suc, ◌-◌, ◌≤◌}
use native.Mathlib.Omega.{arith}
use mathlib.Core.Path.{◌≡◌, refl, sym, ap, ap₂, ◌∙◌, subst}
use mathlib.Core.List.{List, [], ◌∷◌, ◌++◌}
use mathlib.Core.Bool.{Bool, true, false}
use lib.Dec.{leb}
use lib.Signed.{le_z}
use lib.ListN.{length, take, drop}
use Rattle.format.specs.Format.{option, stamp, list}
use Rattle.model.specs.Event.{Text}
use Rattle.model.specs.Seam.{ResourceId}
use Rattle.model.specs.Edits.{Operation, Edit}
use Rattle.model.specs.Calls.{Notice, Effect}
use Rattle.model.specs.Formats.{short_text, conflicts_f, refusals_f, operation_f, role_f, edit_f}
use Rattle.model.specs.Limits.{document01}
use Rattle.model.specs.State.{Pending, Queue, SyncState}
use Rattle.model.specs.Maps.{when◌then◌else◌, is_some_and, is_empty, by_name, get}
use Rattle.model.specs.Machine.{Machine, Run, refused, ok, ◌>>=◌, match◌none:◌some:◌, tell, with_state, queue_of, set_queue, entries}
use Rattle.model.specs.Sync.{Coalesced, is_create, with_resource, new_pending, notify, start_edit, due, expired, follow_alias, absorb, fold_in, cancel, append, foldable, coalesced_with, coalesce, place, enqueue_live, enqueue, back, without_back}
use Rattle.model.proofs.Holds as model
use Rattle.model.proofs.InFlight.{notify_state}
use Rattle.model.proofs.Mutual.{bind_same}
use Rattle.model.proofs.Flights.{foldable_back}
use Rattle.frame.specs.Meaning.{meant_operation}
use Rattle.frame.specs.declared.Operation as places
use Rattle.frame.specs.declared.Operation.TheVariants as place_of
use Rattle.std.specs.Option.{unwrap_or}
use Rattle.names.specs.declared.Name.{Name}
use Rattle.state.specs.Values.{name_of, name_in}
use Rattle.state.specs.Contract.{Keeps, HasState, Reads, Edits, Tries}
use Rattle.waiting.specs.Queues.{queue, put_queue, all_entries, nth, without, change_last, may_absorb}
use Rattle.waiting.specs.Entries.{EditBytes, FoldBytes}
use Rattle.waiting.proofs.Bridge.{queue_is, entries_is, set_queue_is}
use Rattle.waiting.proofs.Lists.{nth_back}
use Rattle.machine.specs.declared.Progress.{Progress}
use Rattle.machine.specs.Contract.{Ran, Does, Changes, Pushes}
use Rattle.machine.specs.Steps.{tried_by}
use Rattle.machine.proofs.Runs as runs
use Rattle.machine.proofs.Steps as steps
use Rattle.queues.specs.declared.coalescing.Folded.{Folded}
use Rattle.queues.specs.declared.coalescing.Folded.TheVariants.{Apart, Into, Cancelled}
use Rattle.queues.specs.Parts.{Filled, part_of}
use Rattle.queues.specs.Heads.{notify_at}
use Rattle.queues.specs.Folding.{FoldedInto, Folds, FoldedAs}
use Rattle.queues.specs.Enqueue.{append_entry, append_to, fold_last, cancel_last, target_of}
use Rattle.queues.proofs.Parts.{part_in, take_short}
use Rattle.queues.proofs.Starts.{notify_apart, bind_assoc}
use Rattle.queues.proofs.Folding.{edit_parts}

pub resource_is : (r : ResourceId) (e : Edit) → (with_resource r e).resource ≡ r
unfolding with_resource
resource_is r e = refl

pub id_is : (r : ResourceId) (e : Edit) → e.id ≡ (with_resource r e).id
unfolding with_resource
id_is r e = refl

-- ---- the bytes of an edit

pub edit_bytes : (r : ResourceId) (e : Edit) → edit_f.Ok e → {i o x t : List ℕ} {a b c d : ℕ} → Filled (short_text.enc e.id) i a → Filled (operation_f.enc e.operation) o b → Filled (role_f.enc e.role) x c
    → Filled ((option stamp).enc e.expires_at) t d → EditBytes (with_resource r e) r (take a i) (take b o) (take c x) (take d t)
unfolding with_resource
edit_bytes r e k I O X T =
    let K = edit_parts e k in
    record {
      resource = refl;
      id_ok = K.id;
      id_is = I.bytes;
      operation_ok = K.operation;
      operation_is = O.bytes;
      role_ok = K.role;
      role_is = X.bytes;
      expires_ok = K.expires_at;
      expires_is = T.bytes;
    }

pub fold_bytes : (r : ResourceId) (e : Edit) → edit_f.Ok e → (p : Operation) → operation_f.Ok p → {o t i : List ℕ} {d a : ℕ} → o ≡ operation_f.enc p → Filled ((option stamp).enc e.expires_at) t d → Filled (short_text.enc e.id) i a
    → FoldBytes p (with_resource r e) o (take d t) (take a i)
unfolding with_resource
fold_bytes r e k p j q T I =
    let K = edit_parts e k in
    record { operation_ok = j; operation_is = q; expires_ok = K.expires_at; expires_is = T.bytes; id_ok = K.id; id_is = I.bytes }

-- ---- append

pub appended : (r : ResourceId) (e : Edit) (p : Progress) {w w' : List ℕ} {b : Bool} {q : Progress} → e.resource ≡ r
    → Tries (λ s. leb (all_entries (put_queue r (queue r s ++ (new_pending e ∷ [])) s)) 6) (λ s. put_queue r (queue r s ++ (new_pending e ∷ [])) s) w b w' → q ≡ tried_by p b → Changes (append_entry e) w p q w'
unfolding append_entry document01
appended r e p {w} {w'} {b} f T a = steps.changed a (steps.tries (append_entry e) p T (λ m l h.
    let g : set_queue e.resource (queue_of e.resource m ++ new_pending e ∷ []) m ≡ with_state (put_queue r (queue r m.state ++ (new_pending e ∷ [])) m.state) m =
    ap (λ (x : ResourceId). set_queue x (queue_of x m ++ new_pending e ∷ []) m) f ∙ ap (λ (x : Queue). set_queue r (x ++ new_pending e ∷ []) m) (queue_is r m) ∙ set_queue_is r (queue r m.state ++ (new_pending e ∷ [])) m in
    ap (λ (x : Machine). when leb (entries x) x.limits.waiting then ok x else refused 5) g
    ∙ ap₂ (λ (x y : ℕ). when leb x y then ok (with_state (put_queue r (queue r m.state ++ (new_pending e ∷ [])) m.state) m) else refused 5)
    (entries_is (with_state (put_queue r (queue r m.state ++ (new_pending e ∷ [])) m.state) m)) (ap (λ x. x.waiting) l)))

append_is : (r : ResourceId) (e : Edit) (m : Machine) → e.resource ≡ r → append_to e m ≡ (append_entry e m >>= λ m'. when is_empty (queue r m.state) then start_edit r m' else ok m')
unfolding append_to append append_entry
append_is r e m f = subst (λ (x : ResourceId). append (queue_of e.resource m) e m ≡ (append_entry e m >>= λ m'. when is_empty (queue x m.state) then start_edit x m' else ok m')) f
    (ap (λ (x : Queue). append_entry e m >>= λ m'. when is_empty x then start_edit e.resource m' else ok m') (queue_is e.resource m))

empty_is : (q : Queue) (n : ℕ) → n ≡ length q → n ≡ 0 → is_empty q ≡ true
unfolding is_empty
empty_is [] n e z = refl
empty_is (p ∷ q) n e z = absurd (omega arith)

full_is : (q : Queue) (n : ℕ) → n ≡ length q → (n ≡ 0 → ⊥) → is_empty q ≡ false
unfolding is_empty
full_is [] n e z = absurd (z e)
full_is (p ∷ q) n e z = refl

module _ (r : ResourceId) (e : Edit) (f : e.resource ≡ r) {w w₁ o : List ℕ} {p q : Progress} {n : ℕ} (N : Reads (λ s. length (queue r s)) w n) (C : Changes (append_entry e) w p q w₁) where
  pub append_start : {w₂ o₂ : List ℕ} {s : Progress} → n ≡ 0 → Does (start_edit r) w₁ o q s w₂ o₂ → Does (append_to e) w o p s w₂ o₂
  unfolding when◌then◌else◌
  append_start z D = runs.is_held (append_to e)
      (λ m h. ap (λ (b : Bool). append_entry e m >>= λ m'. when b then start_edit r m' else ok m') (sym (empty_is (queue r m.state) n (N.is m.state h.keeps) z)) ∙ sym (append_is r e m f))
      (runs.next (C.does o) D)

  pub append_more : (n ≡ 0 → ⊥) → Does (append_to e) w o p q w₁ o
  unfolding when◌then◌else◌
  append_more z = runs.is_held (append_to e)
      (λ m h. ap (λ (b : Bool). append_entry e m >>= λ m'. when b then start_edit r m' else ok m') (sym (full_is (queue r m.state) n (N.is m.state h.keeps) z)) ∙ sym (append_is r e m f))
      (runs.next (C.does o) runs.nothing)

-- ---- fold

pub folded_in : (r : ResourceId) (e : Edit) (p : Progress) (op : Operation) {w w' : List ℕ} {b : Bool} {q : Progress} → e.resource ≡ r
    → Tries (λ s. may_absorb op e (queue r s)) (λ s. put_queue r (change_last (absorb op e) (queue r s)) s) w b w' → q ≡ tried_by p b → Changes (fold_last op e) w p q w'
unfolding fold_last
folded_in r e p op f T a = steps.changed a (steps.tries (fold_last op e) p T (λ m l h.
    ap (λ (x : ResourceId). when may_absorb op e (queue_of x m) then ok (set_queue x (change_last (absorb op e) (queue_of x m)) m) else refused 5) f
    ∙ ap (λ (x : Queue). when may_absorb op e x then ok (set_queue r (change_last (absorb op e) x) m) else refused 5) (queue_is r m)
    ∙ ap (λ (x : Machine). when may_absorb op e (queue r m.state) then ok x else refused 5) (set_queue_is r (change_last (absorb op e) (queue r m.state)) m)))

-- ---- cancel

back_out : (q : Queue) → without (length q - 1) q ≡ without_back q
unfolding without without_back
back_out [] = refl
back_out (p ∷ []) = refl
back_out (p ∷ q ∷ qs) =
    let k : length (p ∷ q ∷ qs) - 1 ≡ suc (length (q ∷ qs) - 1) = omega arith in
    ap (λ (i : ℕ). take i (p ∷ q ∷ qs) ++ drop (suc i) (p ∷ q ∷ qs)) k ∙ ap (λ (x : Queue). p ∷ x) (back_out (q ∷ qs))

back_some : (q : Queue) → (length q ≡ 0 → ⊥) → (p : Pending) × (back q ≡ Some p)
unfolding back
back_some [] n = absurd (n refl)
back_some (p ∷ []) n = (p, refl)
back_some (p ∷ q ∷ qs) n = back_some (q ∷ qs) (λ z. omega arith)

-- notices, and then an assignment: the other way round
notify_first_then : (p : Pending) (m : Machine) (s : SyncState → SyncState) (g : Machine → Run) → (notify p None m >>= λ m'. g (with_state (s m'.state) m')) ≡ (notify p None (with_state (s m.state) m) >>= g)
notify_first_then p m s g =
    bind_same (model.weaken (notify_state p None m) (λ m' y. ap (λ (x : SyncState). g (with_state (s x) m')) y))
    ∙ sym (ap (λ (x : Run). x >>= g) (notify_apart p None (s m.state) m) ∙ bind_assoc (notify p None m) (λ m'. s m.state) g)

cancels : (r : ResourceId) (e : Edit) (m : Machine) (n : ℕ) → e.resource ≡ r → n ≡ length (queue r m.state) → (n ≡ 0 → ⊥)
    → (notify_at (n - 1) r None m >>= λ m'. tell (Notice.Applied e.id [] []) (with_state (put_queue r (without (n - 1) (queue r m'.state)) m'.state) m')) ≡ cancel_last e m
unfolding notify_at cancel_last cancel match◌none:◌some:◌
cancels r e m n f k z =
    let Q : Queue = queue r m.state in
    let B = back_some (queue r m.state) (λ y. z (k ∙ y)) in
    let P : Pending = B.0 in
    let g : Machine → Run = tell (Notice.Applied e.id [] []) in
    let i : nth (n - 1) (queue_of r m) ≡ Some B.0 = ap (nth (n - 1)) (queue_is r m) ∙ ap (λ (j : ℕ). nth (j - 1) (queue r m.state)) k ∙ nth_back (queue r m.state) ∙ B.1 in
    let a : (notify_at (n - 1) r None m >>= λ m'. tell (Notice.Applied e.id [] []) (with_state (put_queue r (without (n - 1) (queue r m'.state)) m'.state) m'))
    ≡ (notify B.0 None m >>= λ m'. tell (Notice.Applied e.id [] []) (with_state (put_queue r (without (n - 1) (queue r m'.state)) m'.state) m')) =
    ap (λ (x : Option Pending). (match x none: ok m some: (λ p. notify p None m)) >>= λ m'. tell (Notice.Applied e.id [] []) (with_state (put_queue r (without (n - 1) (queue r m'.state)) m'.state) m')) i in
    let b : with_state (put_queue r (without (n - 1) (queue r m.state)) m.state) m ≡ set_queue r (without_back (queue r m.state)) m =
    ap (λ (x : Queue). with_state (put_queue r x m.state) m) (ap (λ (j : ℕ). without (j - 1) (queue r m.state)) k ∙ back_out (queue r m.state)) ∙ sym (set_queue_is r (without_back (queue r m.state)) m) in
    a ∙ notify_first_then B.0 m (λ s. put_queue r (without (n - 1) (queue r s)) s) (tell (Notice.Applied e.id [] []))
    ∙ ap (λ (x : Machine). notify B.0 None x >>= tell (Notice.Applied e.id [] [])) b
    ∙ sym (ap (λ (x : ResourceId). match back (queue_of x m) none: ok m some: (λ p. notify p None (set_queue x (without_back (queue_of x m)) m) >>= tell (Notice.Applied e.id [] []))) f
    ∙ ap (λ (x : Queue). match back x none: ok m some: (λ p. notify p None (set_queue r (without_back x) m) >>= tell (Notice.Applied e.id [] []))) (queue_is r m)
    ∙ ap (λ (x : Option Pending). match x none: ok m some: (λ p. notify p None (set_queue r (without_back (queue r m.state)) m) >>= tell (Notice.Applied e.id [] []))) B.1)

module _ (r : ResourceId) (e : Edit) (f : e.resource ≡ r) {w : List ℕ} {n : ℕ} (N : Reads (λ s. length (queue r s)) w n) where
  cancel_empty : (m : Machine) → 0 ≡ length (queue r m.state) → ok m ≡ cancel_last e m
  unfolding cancel_last match◌none:◌some:◌ back
  cancel_empty m z = sym (ap (λ (x : ResourceId). match back (queue_of x m) none: ok m some: (λ p. cancel p (without_back (queue_of x m)) e m)) f
      ∙ ap (λ (x : Queue). match back x none: ok m some: (λ p. cancel p (without_back x) e m)) (queue_is r m ∙ nil (queue r m.state) z))
    where
      nil : (q : Queue) → 0 ≡ length q → q ≡ []
      nil [] e = refl
      nil (p ∷ q) e = absurd (omega arith)

  pub cancel_none : {o : List ℕ} {p : Progress} → n ≡ 0 → Does (cancel_last e) w o p p w o
  cancel_none z = runs.is_held (cancel_last e) (λ m h. cancel_empty m (sym z ∙ N.is m.state h.keeps)) runs.nothing

  pub cancel_next : {o o₁ w₁ o₂ : List ℕ} {p q s : Progress} → (n ≡ 0 → ⊥) → Does (notify_at (n - 1) r None) w o p q w o₁ → Edits (λ s. put_queue r (without (n - 1) (queue r s)) s) w w₁ → (i : Text) → i ≡ e.id → Pushes (Effect.Notify (Notice.Applied i [] [])) o₁ q s o₂
      → Does (cancel_last e) w o p s w₁ o₂
  unfolding tell
  cancel_next {w₁ = w₁} z D E i j P₀ =
      let P = steps.sends (Effect.Notify (Notice.Applied e.id [] [])) (ap (λ (x : Text). Effect.Notify (Notice.Applied x [] [])) j) P₀ in
      runs.is_held (cancel_last e) (λ m h. cancels r e m n f (N.is m.state h.keeps) z)
      (runs.next D (runs.edit {f = λ s. put_queue r (without (n - 1) (queue r s)) s} {g = tell (Notice.Applied e.id [] [])} E (P.does w₁)))

pub empty_conflicts : 0 ∷ [] ≡ conflicts_f.enc []
unfolding conflicts_f list
empty_conflicts = refl

pub empty_refused : 0 ∷ [] ≡ refusals_f.enc []
unfolding refusals_f list
empty_refused = refl

-- ---- an edit that has not expired

same_folding : (x : Option Pending) (r : ResourceId) (e : Edit) → coalesced_with x (with_resource r e) ≡ coalesced_with x e
unfolding coalesced_with coalesce with_resource
same_folding None r e = refl
same_folding (Some p) r e = refl

place_none : (q : Queue) (x : Option Pending) (e : Edit) (m : Machine) → place q x None e m ≡ append q e m
unfolding place
place_none q None e m = refl
place_none q (Some p) e m = refl

some_foldable : (x : Option Pending) (e : Edit) (c : Coalesced) → coalesced_with x e ≡ Some c → (p : Pending) × (x ≡ Some p)
unfolding coalesced_with
some_foldable None e c k = absurd (None-ne-Some c k)
some_foldable (Some p) e c k = (p, refl)

folds_so : (q : Queue) (p : Pending) (op : Operation) (e : Edit) (m : Machine) → m.limits ≡ document01 → queue_of e.resource m ≡ q → back q ≡ Some p → fold_last op e m ≡ fold_in op p (without_back q) e m
unfolding fold_last fold_in may_absorb change_last match◌none:◌some:◌ document01
folds_so q p op e m l k b = rw (k, b, l)

short_part : (b x : List ℕ) (n : ℕ) → x ≡ part_of b 0 n → length b ≡ 1469 → length x ≤ 1469
unfolding when◌then◌else◌
short_part b x n e l = subst (λ (y : List ℕ). length y ≤ 1469) (sym e) (go (leb 0 n) (leb n (length b)))
  where
    go : (s t : Bool) → length (when s then (when t then take (n - 0) (drop 0 b) else []) else []) ≤ 1469
    go true true = let h = take_short (n - 0) (drop 0 b) in omega arith
    go true false = omega arith
    go false t = omega arith

module _ (r : ResourceId) (e : Edit) {w c : List ℕ} {x : Folded} (C : (s : SyncState) → Keeps s w → FoldedAs x c (coalesced_with (foldable (queue r s)) e)) where
  abbrev E : Edit
  E = with_resource r e

  folding : (s : SyncState) → Keeps s w → (y : Folded) → x ≡ y → Folds y c (coalesced_with (foldable (queue r s)) (with_resource r e))
  folding s h y q = subst (Folds y c) (sym (same_folding (foldable (queue r s)) r e)) (subst (λ (z : Folded). Folds z c (coalesced_with (foldable (queue r s)) e)) q (C s h).is)

  live : (m : Machine) → enqueue_live E m ≡ place (queue r m.state) (foldable (queue r m.state)) (coalesced_with (foldable (queue r m.state)) E) E m
  unfolding enqueue_live with_resource
  live m = ap (λ (q : Queue). place q (foldable q) (coalesced_with (foldable q) E) E m) (queue_is r m)

  apart_so : (m : Machine) → Keeps m.state w → x ≡ Apart → append_to E m ≡ enqueue_live E m
  unfolding append_to Folds with_resource
  apart_so m h q = ap (λ (z : Queue). append z E m) (queue_is r m)
      ∙ sym (place_none (queue r m.state) (foldable (queue r m.state)) E m)
      ∙ ap (λ (z : Option Coalesced). place (queue r m.state) (foldable (queue r m.state)) z E m) (sym (folding m.state h Apart q))
      ∙ sym (live m)

  cancelled_so : (m : Machine) → Keeps m.state w → x ≡ Cancelled → cancel_last E m ≡ enqueue_live E m
  unfolding cancel_last Folds with_resource place match◌none:◌some:◌
  cancelled_so m h q =
      let k : coalesced_with (foldable (queue r m.state)) E ≡ Some Coalesced.Cancelled = folding m.state h Cancelled q in
      let P = some_foldable (foldable (queue r m.state)) E Coalesced.Cancelled k in
      let b : back (queue r m.state) ≡ Some P.0 = foldable_back (queue r m.state) P.0 P.1 in
      ap (λ (z : Queue). match back z none: ok m some: (λ p. cancel p (without_back z) E m)) (queue_is r m)
      ∙ ap (λ (z : Option Pending). match z none: ok m some: (λ p. cancel p (without_back (queue r m.state)) E m)) b
      ∙ sym (live m ∙ ap (λ (z : Option Coalesced). place (queue r m.state) (foldable (queue r m.state)) z E m) k ∙ ap (λ (z : Option Pending). place (queue r m.state) z (Some Coalesced.Cancelled) E m) P.1)

  into_so : (m : Machine) → m.limits ≡ document01 → Keeps m.state w → (n : ℕ) → (q : x ≡ Into n) → (I : FoldedInto n c (coalesced_with (foldable (queue r m.state)) E)) → fold_last I.operation E m ≡ enqueue_live E m
  unfolding place
  into_so m l h n q I =
      let k : queue_of E.resource m ≡ queue r m.state = ap (λ (x : ResourceId). queue_of x m) (resource_is r e) ∙ queue_is r m in
      let P = some_foldable (foldable (queue r m.state)) E (Coalesced.Into I.operation) I.is in
      let b : back (queue r m.state) ≡ Some P.0 = foldable_back (queue r m.state) P.0 P.1 in
      folds_so (queue r m.state) P.0 I.operation E m l k b
      ∙ sym (live m ∙ ap (λ (z : Option Coalesced). place (queue r m.state) (foldable (queue r m.state)) z E m) I.is ∙ ap (λ (z : Option Pending). place (queue r m.state) z (Some (Coalesced.Into I.operation)) E m) P.1)

  pub live_apart : {o w' o' : List ℕ} {p q : Progress} → x ≡ Apart → Does (append_to E) w o p q w' o' → Does (enqueue_live E) w o p q w' o'
  live_apart k D = runs.is_held (enqueue_live E) (λ m h. apart_so m h.keeps k) D

  pub live_cancelled : {o w' o' : List ℕ} {p q : Progress} → x ≡ Cancelled → Does (cancel_last E) w o p q w' o' → Does (enqueue_live E) w o p q w' o'
  live_cancelled k D = runs.is_held (enqueue_live E) (λ m h. cancelled_so m h.keeps k) D

  into_of : (n : ℕ) → x ≡ Into n → (s : SyncState) → Keeps s w → FoldedInto n c (coalesced_with (foldable (queue r s)) E)
  unfolding Folds
  into_of n q s h = folding s h (Into n) q

  pub live_into : {w' : List ℕ} {p q : Progress} (o : List ℕ) (n : ℕ) {y : List ℕ} → x ≡ Into n → HasState w → y ≡ part_of c 0 n → ((op : Operation) → operation_f.Ok op → y ≡ operation_f.enc op → Changes (fold_last op E) w p q w') → Does (enqueue_live E) w o p q w' o
  live_into {w'} {p} {q} o n {y} k H d D = record {
    run = λ z m h.
        let I = into_of n k m.state h.keeps in
        subst (λ (u : Run). Ran u q w' o) (into_so m h.limits h.keeps n k I) ((does I).run z m h);
    stays = (does (into_of n k H.state H.keeps)).stays;
    state = λ h. (does (into_of n k h.state h.keeps)).state h;
  }
    where
      does : {u : Option Coalesced} (I : FoldedInto n c u) → Does (fold_last I.operation E) w o p q w' o
      does I =
          let b = I.bytes in
          let j : n - 0 ≡ n = omega arith in
          (D I.operation I.ok (d ∙ sym (part_in c 0 n (omega arith) b.fits) ∙ ap (λ (i : ℕ). take i c) j ∙ b.bytes)).does o

  pub live_short : (n : ℕ) {y : List ℕ} → y ≡ part_of c 0 n → length c ≡ 1469 → length y ≤ 1469
  live_short n {y} d l = short_part c y n d l

-- ---- the resource that an edit is for

module _ (e : Edit) {w : List ℕ} {b : Bool} (B : b ≡ is_create e.operation) where
  pub target_create : {t : List ℕ} → b ≡ true → t ≡ e.resource → Reads (target_of e) w t
  unfolding target_of when◌then◌else◌
  target_create z q = record { is = λ s h. q ∙ sym (ap (λ (c : Bool). when c then e.resource else (match get by_name e.resource s.aliases none: e.resource some: (λ to. to))) (sym B ∙ z)) }

  pub target_other : (n : Name) (x : Option Name) → b ≡ false → name_of n.bytes ≡ e.resource → Reads (λ s. get by_name (name_of n.bytes) s.aliases) w (name_in x) → Reads (target_of e) w (name_of (unwrap_or x n).bytes)
  unfolding target_of when◌then◌else◌ match◌none:◌some:◌
  target_other n x z q A = record {
    is = λ s h. followed x q ∙ sym (ap (λ (c : Bool). when c then e.resource else (match get by_name e.resource s.aliases none: e.resource some: (λ to. to))) (sym B ∙ z)
        ∙ ap (λ y. match y none: e.resource some: (λ to. to)) (ap (λ (k : List ℕ). get by_name k s.aliases) (sym q) ∙ sym (A.is s h)));
  }
    where
      followed : (x : Option Name) → name_of n.bytes ≡ e.resource → name_of (unwrap_or x n).bytes ≡ (match name_in x none: e.resource some: (λ to. to))
      followed None q = q
      followed (Some to) q = refl

pub creates : (s : List ℕ) {o : places.Operation} (event : ℕ) → o ≡ place_of.Create event → true ≡ is_create (meant_operation s o)
unfolding is_create
creates s event e = rw e

pub updates : (s : List ℕ) {o : places.Operation} (base ours : ℕ) → o ≡ place_of.Update base ours → false ≡ is_create (meant_operation s o)
unfolding is_create
updates s base ours e = rw e

pub deletes : (s : List ℕ) {o : places.Operation} → o ≡ place_of.Delete → false ≡ is_create (meant_operation s o)
unfolding is_create
deletes s e = rw e

-- ---- enqueue

follows : (e : Edit) (m : Machine) → follow_alias e m ≡ with_resource (target_of e m.state) e
unfolding follow_alias target_of with_resource when◌then◌else◌ match◌none:◌some:◌
follows e m = go (is_create e.operation) (get by_name e.resource m.state.aliases)
  where
    go : (b : Bool) (x : Option ResourceId) → (when b then e else (match x none: e some: (λ to. with_resource to e))) ≡ with_resource (when b then e.resource else (match x none: e.resource some: (λ to. to))) e
    go true x = refl
    go false None = refl
    go false (Some to) = refl

module _ (e : Edit) {w : List ℕ} {b : Bool} (R : Reads (λ s. is_some_and (λ now. is_some_and (λ at. le_z at now) e.expires_at) s.now) w b) where
  expiry_is : (m : Machine) → Keeps m.state w → b ≡ expired e m
  unfolding expired due
  expiry_is m h = R.is m.state h

  pub enqueue_expired : {o : List ℕ} {p q : Progress} {o' : List ℕ} → b ≡ true → Pushes (Effect.Notify (Notice.Expired e.id)) o p q o' → Does (enqueue e) w o p q w o'
  unfolding enqueue when◌then◌else◌ tell
  enqueue_expired z P = runs.is_held (enqueue e) (λ m h. ap (λ (c : Bool). when c then tell (Notice.Expired e.id) m else enqueue_live (follow_alias e m) m) (sym z ∙ expiry_is m h.keeps)) (P.does w)

  pub enqueue_on : {o : List ℕ} {p q : Progress} {w' o' : List ℕ} {t : ResourceId} → b ≡ false → Reads (target_of e) w t → Does (enqueue_live (with_resource t e)) w o p q w' o' → Does (enqueue e) w o p q w' o'
  unfolding enqueue when◌then◌else◌
  enqueue_on z T D = runs.is_held (enqueue e)
      (λ m h. ap (λ (x : Edit). enqueue_live x m) (ap (λ (x : ResourceId). with_resource x e) (T.is m.state h.keeps) ∙ sym (follows e m))
      ∙ ap (λ (c : Bool). when c then tell (Notice.Expired e.id) m else enqueue_live (follow_alias e m) m) (sym z ∙ expiry_is m h.keeps))
      D
