-- `forget_settled` and `forget_aliases`. Assumes nothing.
use Rattle.std.specs.Prelude.{Option, Some, None, Result, Ok, Err, is_ok, is_some as option_is_some}
use Rattle.format.proofs.Options.{Some-injective, None-ne-Some}
use Prim.Native.Nat.{ℕ, ◌+◌, ◌-◌, ◌≤◌, ◌<◌, Ordering}
use native.Mathlib.Omega.{arith}
use mathlib.Core.Path.{◌≡◌, refl, sym, ap, ap₂, ◌∙◌, subst}
use mathlib.Core.List.{List, [], ◌∷◌, ◌++◌}
use mathlib.Core.Bool.{Bool, true, false, ◌||◌}
use mathlib.Core.Logic.{inl, inr}
use lib.ListN.{length, get_or}
use lib.Dec.{T, leb}
use lib.Seq.{get_or-append_seam}
use borrow.Author.Tests.{le-leb, lt-leb}
use Rattle.format.specs.Format.{All}
use Rattle.tables.specs.Table.{Table, Sized, enc_table, text, place}
use Rattle.lent.specs.Lent.{part}
use Rattle.model.specs.Event.{Text}
use Rattle.model.specs.Seam.{ResourceId}
use Rattle.model.specs.State.{Map, Pass, Queue, SyncState}
use Rattle.model.specs.Limits.{document01}
use Rattle.model.specs.Maps.{when◌then◌else◌, by, by_name, any, first, get, remove, keys, values, retain, has, is_some, is_some_and}
use Rattle.model.specs.Formats.{resource_id}
use Rattle.model.specs.WellFormed.{rising}
use Rattle.model.specs.Machine.{Machine, match◌none:◌some:◌, with_state, set_learned, set_learned_all, set_aliases}
use Rattle.model.specs.Sync.{asks_about, in_flight_any, forget_all, forget_before, forget_settled, held_anywhere, forget_aliases}
use Rattle.model.proofs.Tables as orders
use Rattle.state.specs.Layout.{name_slot, pass_of, no_pass}
use Rattle.state.specs.Setters.{with_learned, with_learned_all, with_aliases}
use Rattle.state.specs.Fits.{QueueFits}
use Rattle.state.specs.Contract.{Keeps, HasState, Reads, Edits}
use Rattle.state.specs.Values.{name_of, Named}
use Rattle.state.proofs.Padded.{text_name_only}
use Rattle.state.proofs.Columns as columns
use Rattle.state.proofs.Ops as ops
use Rattle.state.proofs.Retaining as retaining
use Rattle.staged.specs.Staging.{staged_of}
use Rattle.staged.proofs.Laws as staged
use Rattle.waiting.specs.Queues.{queue, queue_in}
use Rattle.records.specs.Events.{RecordAt, RecordIs, FindsRecord}
use Rattle.observe.specs.Forgetting.{learned_after, settled_before, settled, held_in_pass, held_in, with_held_aliases, Tested}

-- ---- the model's words

pub forget_settled_is : (m : Machine) → with_state (settled m.state) m ≡ forget_settled m
unfolding forget_settled forget_all forget_before set_learned set_learned_all retain match◌none:◌some:◌ when◌then◌else◌
forget_settled_is m = go (first (keys m.state.in_flight))
  where
    two : (n : ℕ) (b : Bool) → with_state (when b then with_learned_all 0 (learned_after n m.state) else learned_after n m.state) m
        ≡ (when b then set_learned_all 0 (with_state (learned_after n m.state) m) else with_state (learned_after n m.state) m)
    two n true = refl
    two n false = refl

    go : (o : Option ℕ) → with_state (match o none: with_learned_all 0 (with_learned [] m.state) some: (λ oldest. settled_before oldest m.state)) m ≡ (match o none: forget_all m some: (λ oldest. forget_before oldest m))
    go None = refl
    go (Some n) = two n (leb m.state.learned_all n)

pub forget_aliases_is : (m : Machine) → with_state (with_held_aliases m.state) m ≡ forget_aliases m
unfolding forget_aliases held_anywhere in_flight_any retain set_aliases
forget_aliases_is m = refl

-- ---- forget_settled

pub before_left : (n : ℕ) {w w₁ : List ℕ} {a : ℕ} → Edits (learned_after n) w w₁ → Reads (λ s. s.learned_all) w₁ a → n < a → Edits (settled_before n) w w₁
unfolding when◌then◌else◌
before_left n {w} {w₁} {a} E R l = record {
  makes = λ s h.
      let k = E.makes s h in
      let z : leb s.learned_all n ≡ false = ap (λ (x : ℕ). leb x n) (sym (R.is (learned_after n s) k)) ∙ lt-leb a n l in
      subst (λ (b : Bool). Keeps (when b then with_learned_all 0 (learned_after n s) else learned_after n s) w₁) (sym z) k;
}

pub before_all : (n : ℕ) {w w₁ w₂ : List ℕ} {a : ℕ} → Edits (learned_after n) w w₁ → Reads (λ s. s.learned_all) w₁ a → a ≤ n → Edits (with_learned_all 0) w₁ w₂ → Edits (settled_before n) w w₂
unfolding when◌then◌else◌
before_all n {w} {w₁} {w₂} {a} E R l F = record {
  makes = λ s h.
      let k = E.makes s h in
      let z : leb s.learned_all n ≡ true = ap (λ (x : ℕ). leb x n) (sym (R.is (learned_after n s) k)) ∙ le-leb a n l in
      subst (λ (b : Bool). Keeps (when b then with_learned_all 0 (learned_after n s) else learned_after n s) w₂) (sym z) (F.makes (learned_after n s) k);
}

pub settled_none : {w w₁ w₂ : List ℕ} {r : Option ℕ} → Reads (λ s. first (keys s.in_flight)) w r → r ≡ None → Edits (with_learned []) w w₁ → Edits (with_learned_all 0) w₁ w₂ → Edits settled w w₂
unfolding match◌none:◌some:◌
settled_none {w} {w₁} {w₂} R z E F = record {
  makes = λ s h.
      let e : first (keys s.in_flight) ≡ None = sym (R.is s h) ∙ z in
      subst (λ (o : Option ℕ). Keeps (match o none: with_learned_all 0 (with_learned [] s) some: (λ oldest. settled_before oldest s)) w₂) (sym e) (F.makes (with_learned [] s) (E.makes s h));
}

pub settled_some : (n : ℕ) {w w₁ : List ℕ} {r : Option ℕ} → Reads (λ s. first (keys s.in_flight)) w r → r ≡ Some n → Edits (settled_before n) w w₁ → Edits settled w w₁
unfolding match◌none:◌some:◌
settled_some n {w} {w₁} R z E = record {
  makes = λ s h.
      let e : first (keys s.in_flight) ≡ Some n = sym (R.is s h) ∙ z in
      subst (λ (o : Option ℕ). Keeps (match o none: with_learned_all 0 (with_learned [] s) some: (λ oldest. settled_before oldest s)) w₁) (sym e) (E.makes s h);
}

-- ---- whether a resource is held

pub has_found : (r : Text) (w : List ℕ) (pl : Option ℕ) → FindsRecord r w pl → Reads (λ s. is_some (get by_name r s.records)) w (option_is_some pl)
unfolding RecordIs is_some
has_found r w (Some at) F = record { is = λ s h. let R : RecordAt r w s at = F.is s h in sym (ap is_some R.got) }
has_found r w None F = record { is = λ s h. sym (ap is_some (F.is s h)) }

pub staged_found : (b w : List ℕ) (r : Result ℕ ℕ) → Named b → ((t : Table) → Sized 916 t → part 9221 9161 w ≡ enc_table 9161 t → r ≡ place 916 b t 1) → Reads (λ s. is_some (get by_name (name_of b) (staged_of s))) w (is_ok r)
unfolding is_some
staged_found b w (Ok p) N g = record { is = λ s h. sym (ap is_some (columns.there staged.staged_column b w (name_of b) p N.ok refl s h g).got) }
staged_found b w (Err p) N g = record { is = λ s h. sym (ap is_some (columns.not_there staged.staged_column b w (name_of b) p N.ok refl s h g)) }

in_pass_is : (r : ResourceId) (s : SyncState) → (is_some (get by_name r (staged_of s)) || has r (pass_of s.pass).observed) ≡ held_in_pass r s
unfolding is_some is_some_and pass_of no_pass get has any
in_pass_is r s = go s.pass
  where
    go : (o : Option Pass) → (is_some (get by_name r (pass_of o).staged) || has r (pass_of o).observed) ≡ is_some_and (λ pass. is_some (get by_name r pass.staged) || has r pass.observed) o
    go None = refl
    go (Some p) = refl

pub in_pass_staged : (r : ResourceId) {w : List ℕ} {a : Bool} → Reads (λ s. is_some (get by_name r (staged_of s))) w a → a ≡ true → Reads (held_in_pass r) w true
in_pass_staged r A z = record { is = λ s h. sym (ap (λ (x : Bool). x || has r (pass_of s.pass).observed) (sym (A.is s h) ∙ z)) ∙ in_pass_is r s }

pub in_pass_observed : (r : ResourceId) {w : List ℕ} {a b : Bool} → Reads (λ s. is_some (get by_name r (staged_of s))) w a → a ≡ false → Reads (λ s. has r (pass_of s.pass).observed) w b → Reads (held_in_pass r) w b
in_pass_observed r A z B = record { is = λ s h. B.is s h ∙ sym (ap (λ (x : Bool). x || has r (pass_of s.pass).observed) (sym (A.is s h) ∙ z)) ∙ in_pass_is r s }

or_first : (a b c d : Bool) → a ≡ true → true ≡ (a || b || c || d)
or_first a b c d z = sym (ap (λ (x : Bool). x || b || c || d) z)

or_second : (a b c d : Bool) → b ≡ true → true ≡ (a || b || c || d)
or_second true b c d z = refl
or_second false b c d z = sym (ap (λ (x : Bool). x || c || d) z)

or_third : (a b c d : Bool) → c ≡ true → true ≡ (a || b || c || d)
or_third true b c d z = refl
or_third false true c d z = refl
or_third false false c d z = sym (ap (λ (x : Bool). x || d) z)

or_last : (a b c d : Bool) → a ≡ false → b ≡ false → c ≡ false → d ≡ (a || b || c || d)
or_last a b c d x y z = sym (ap (λ (x : Bool). x || b || c || d) x ∙ ap (λ (x : Bool). x || c || d) y ∙ ap (λ (x : Bool). x || d) z)

queue_some : (r : ResourceId) (s : SyncState) (n : ℕ) → n ≡ length (queue r s) → (n ≡ 0 → ⊥) → is_some (get by_name r s.edits) ≡ true
unfolding queue_in match◌none:◌some:◌ is_some
queue_some r s n e z = go (get by_name r s.edits) e
  where
    go : (o : Option Queue) → n ≡ length (match o none: [] some: (λ q. q)) → is_some o ≡ true
    go None e = absurd (z e)
    go (Some q) e = refl

module _ (r : ResourceId) {w : List ℕ} {a : Bool} (A : Reads (λ s. is_some (get by_name r s.records)) w a) where
  pub held_record : a ≡ true → Reads (held_in r) w true
  held_record z = record { is = λ s h. or_first (is_some (get by_name r s.records)) (is_some (get by_name r s.edits)) (any (asks_about r) (values s.in_flight)) (held_in_pass r s) (sym (A.is s h) ∙ z) }

pub held_queue : (r : ResourceId) {w : List ℕ} (n : ℕ) → Reads (λ s. length (queue r s)) w n → (n ≡ 0 → ⊥) → Reads (held_in r) w true
held_queue r n N z = record {
  is = λ s h. or_second (is_some (get by_name r s.records)) (is_some (get by_name r s.edits)) (any (asks_about r) (values s.in_flight)) (held_in_pass r s) (queue_some r s n (N.is s h) z);
}

pub held_asked : (r : ResourceId) {w : List ℕ} {c : Bool} → Reads (λ s. any (asks_about r) (values s.in_flight)) w c → c ≡ true → Reads (held_in r) w true
held_asked r C z = record {
  is = λ s h. or_third (is_some (get by_name r s.records)) (is_some (get by_name r s.edits)) (any (asks_about r) (values s.in_flight)) (held_in_pass r s) (sym (C.is s h) ∙ z);
}

-- no queue is empty
queue_long : (r : ResourceId) (m : Map ResourceId Queue) → All (QueueFits document01) m → (q : Queue) → get by_name r m ≡ Some q → 0 < length q
unfolding get by
queue_long r [] a q e = absurd (None-ne-Some q e)
queue_long r (x ∷ m) a q e = go (by_name r x.0) e (λ d. queue_long r m a.1 q d)
  where
    go : (o : Ordering) → by o None (Some x.1) (get by_name r m) ≡ Some q → (get by_name r m ≡ Some q → 0 < length q) → 0 < length q
    go Ordering.lt e f = absurd (None-ne-Some q e)
    go Ordering.eq e f = subst (λ (y : Queue). 0 < length y) (Some-injective x.1 q e) a.0.some
    go Ordering.gt e f = f e

queue_none : (r : ResourceId) (s : SyncState) (n : ℕ) → All (QueueFits document01) s.edits → n ≡ length (queue r s) → n ≡ 0 → is_some (get by_name r s.edits) ≡ false
unfolding queue_in match◌none:◌some:◌ is_some
queue_none r s n a e z = go (get by_name r s.edits) refl e
  where
    go : (o : Option Queue) → get by_name r s.edits ≡ o → n ≡ length (match o none: [] some: (λ q. q)) → is_some o ≡ false
    go None g e = refl
    go (Some q) g e = absurd (let l : 0 < length q = queue_long r s.edits a q g in let k : n ≡ length q = e in omega arith)

pub held_pass : (r : ResourceId) {w : List ℕ} {a c d : Bool} {n : ℕ} → Reads (λ s. is_some (get by_name r s.records)) w a → a ≡ false → Reads (λ s. length (queue r s)) w n → n ≡ 0
    → Reads (λ s. any (asks_about r) (values s.in_flight)) w c → c ≡ false → Reads (held_in_pass r) w d → Reads (held_in r) w d
held_pass r {n = n} A x N y C z D = record {
  is = λ s h. D.is s h
      ∙ or_last (is_some (get by_name r s.records)) (is_some (get by_name r s.edits)) (any (asks_about r) (values s.in_flight)) (held_in_pass r s)
      (sym (A.is s h) ∙ x) (queue_none r s n h.fits.edits.each (N.is s h) y) (sym (C.is s h) ∙ z);
}

-- ---- alias i

abbrev Rows : Type 0
Rows = Map ResourceId ResourceId

abbrev Entry : Type 0
Entry = ResourceId × ResourceId

abbrev alias_at : ℕ → SyncState → Entry
alias_at i s = get_or s.aliases i ([], [])

pub few : (w : List ℕ) (i : ℕ) → HasState w → i < get_or w 58014 0 → i < 8
unfolding document01
few w i K l =
    let c = columns.counted ops.alias_column K.state w K.keeps in
    let k = K.keeps.fits.aliases.small in
    omega arith

fit : (w : List ℕ) (i : ℕ) (s : SyncState) → Keeps s w → i < get_or w 58014 0 → resource_id.Ok (alias_at i s).0 × resource_id.Ok (alias_at i s).1
fit w i s h l = let c = columns.counted ops.alias_column s w h in (columns.nth ops.alias_column ([], []) i s w h (omega arith)).2

pub to_named : (w b : List ℕ) (i : ℕ) → HasState w → i < get_or w 58014 0 → Reads (λ s. name_slot (get_or s.aliases i ([], [])).1) w b → Named b
to_named w b i K l R = (ops.slot_named b (alias_at i K.state).1 (fit w i K.state K.keeps l).1 (R.is K.state K.keeps)).1

pub from_named : (w b : List ℕ) (i : ℕ) → HasState w → i < get_or w 58014 0 → Reads (λ s. name_slot (get_or s.aliases i ([], [])).0) w b → Named b
from_named w b i K l R = (ops.slot_named b (alias_at i K.state).0 (fit w i K.state K.keeps l).0 (R.is K.state K.keeps)).1

-- ---- an alias taken out from between others

here : (i : ℕ) (s : SyncState) (kept rest : Rows) (e : Entry) → s.aliases ≡ kept ++ (e ∷ rest) → length kept ≡ i → alias_at i s ≡ e
here i s kept rest e q l = ap₂ (λ (m : Rows) (j : ℕ). get_or m j ([], [])) q (sym l) ∙ get_or-append_seam kept e rest ([], [])

to_here : (b w : List ℕ) (i : ℕ) (s : SyncState) → Keeps s w → Reads (λ s. name_slot (get_or s.aliases i ([], [])).1) w b → (kept rest : Rows) (e : Entry) → s.aliases ≡ kept ++ (e ∷ rest) → length kept ≡ i → name_of b ≡ e.1
to_here b w i s h R kept rest e q l = ap text (R.is s h) ∙ text_name_only (alias_at i s).1 ∙ ap (λ (x : Entry). x.1) (here i s kept rest e q l)

from_here : (b w : List ℕ) (i : ℕ) (s : SyncState) → Keeps s w → Reads (λ s. name_slot (get_or s.aliases i ([], [])).0) w b → (kept rest : Rows) (e : Entry) → s.aliases ≡ kept ++ (e ∷ rest) → length kept ≡ i → name_of b ≡ e.0
from_here b w i s h R kept rest e q l = ap text (R.is s h) ∙ text_name_only (alias_at i s).0 ∙ ap (λ (x : Entry). x.0) (here i s kept rest e q l)

pub kept_one : (b w : List ℕ) (i : ℕ) (a : Bool) → Reads (λ s. name_slot (get_or s.aliases i ([], [])).1) w b → Reads (held_in (name_of b)) w a → a ≡ true → Tested i w (i + 1) w
kept_one b w i a R A z = record {
  is = λ s h kept rest e q l. inl (ap (λ (n : Text). held_in n s) (sym (to_here b w i s h R kept rest e q l)) ∙ sym (A.is s h) ∙ z, refl, h);
}

pub out_one : (b f w w' : List ℕ) (i : ℕ) (a : Bool) → Reads (λ s. name_slot (get_or s.aliases i ([], [])).1) w b → Reads (held_in (name_of b)) w a → a ≡ false
    → Reads (λ s. name_slot (get_or s.aliases i ([], [])).0) w f → Edits (λ s. with_aliases (remove by_name (name_of f) s.aliases) s) w w' → Tested i w i w'
out_one b f w w' i a R A z F E = record {
  is = λ s h kept rest e q l.
      let n : name_of f ≡ e.0 = from_here f w i s h F kept rest e q l in
      let t : T (rising by_name (keys (kept ++ (e ∷ rest)))) = subst (λ (m : Rows). T (rising by_name (keys m))) q h.fits.aliases.rises in
      let c : remove by_name (name_of f) s.aliases ≡ kept ++ rest = ap₂ (remove by_name) n q ∙ orders.remove_between by_name orders.name_order kept e rest t in
      inr (ap (λ (n : Text). held_in n s) (sym (to_here b w i s h R kept rest e q l)) ∙ sym (A.is s h) ∙ z, refl, subst (λ (m : Rows). Keeps (with_aliases m s) w') c (E.makes s h));
}

-- ---- all of them

abbrev held_entry : SyncState → Entry → Bool
held_entry s e = held_in e.1 s

abbrev pub Retaining : List ℕ → List ℕ → ℕ → ℕ → Type 0
Retaining = retaining.Retaining (λ s. s.aliases) with_aliases held_entry

-- after k turns of n
pub retain_start : (w : List ℕ) (n : ℕ) → Reads (λ s. length s.aliases) w n → Retaining w w 0 (n - 0)
retain_start w n R =
    let z : n ≡ n - 0 = omega arith in
    subst (λ (x : ℕ). Retaining w w 0 x) z (retaining.retain_start w n (λ s h. h) R)

pub retain_below : (w₀ w : List ℕ) (i n k : ℕ) → HasState w₀ → Retaining w₀ w i (n - k) → k < n → i < get_or w 58014 0
retain_below w₀ w i n k K R l = retaining.retain_below w₀ w i (n - k) (get_or w 58014 0) (λ s m. refl) K R (omega arith) (record { is = λ s h. columns.counted ops.alias_column s w h })

pub retain_turn : (w₀ w w' : List ℕ) (i n k r : ℕ) → Retaining w₀ w i (n - k) → k < n → Tested i w r w' → Retaining w₀ w' r (n - (k + 1))
retain_turn w₀ w w' i n k r R l T =
    let z : n - k - 1 ≡ n - (k + 1) = omega arith in
    subst (λ (x : ℕ). Retaining w₀ w' r x) z
    (retaining.retain_turn w₀ w w' i (n - k) r R (omega arith) (λ s kept rest e h a. T.is (with_aliases (kept ++ (e ∷ rest)) s) h kept rest e refl a))
