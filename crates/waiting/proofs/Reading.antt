-- The readers of one entry. Assumes nothing.
use Rattle.std.specs.Prelude.{Option, Some, None}
use Rattle.std.specs.Option.{option_map}
use Rattle.format.proofs.Options.{Some-injective, None-ne-Some}
use Prim.Native.Nat.{ℕ, zero, suc, ◌+◌, ◌-◌, ◌≤◌, ◌<◌, ◌^◌}
use native.Mathlib.Nat.{add-zero, not-suc-le-zero, le_of_suc-le-suc}
use native.Mathlib.Omega.{arith}
use mathlib.Core.Path.{◌≡◌, refl, sym, ap, ap₂, ◌∙◌, subst}
use mathlib.Core.List.{List, [], ◌∷◌, ◌++◌, append_assoc}
use mathlib.Core.Bool.{Bool, true, false}
use lib.ListN.{length, take, drop, get_or, length-append, length-drop, take-append-drop}
use lib.Seq.{get_or-take, get_or-drop, take_at, drop_at, drop-drop}
use lib.IntN.{ℤ}
use lib.Signed.{le_z}
use lib.Dec.{eqb}
use mir.Syntax.{w64}
use mir.Val.{of_z, to_z}
use Rattle.std.proofs.lemmas.Int.{of_z-to_z}
use Rattle.format.specs.Format.{All, option, list, stamp, bool, via, below as below-format, enum, ◌∣◌, text}
use Rattle.spans.specs.Bytes.{zeros}
use Rattle.spans.proofs.Laws.{drop_zeros}
use Rattle.tables.specs.Table.{flat, offset}
use Rattle.tables.proofs.Laws as tables
use Rattle.numbers.specs.Big.{from_be}
use Rattle.model.specs.Event.{Text}
use Rattle.model.specs.Seam.{ResourceId}
use Rattle.model.specs.Parts.{Role}
use Rattle.model.specs.Edits.{Operation}
use Rattle.model.specs.State.{Pending, SyncState}
use Rattle.model.specs.Limits.{document01, max_text}
use Rattle.model.specs.Maps.{is_some_and}
use Rattle.model.specs.Formats.{resource_id, short_text, operation_f, role_f}
use Rattle.model.specs.Sync.{ids_of, due}
use Rattle.state.specs.Layout.{padded, field, name_slot}
use Rattle.state.specs.Fits.{PendingFits}
use Rattle.state.specs.Contract.{Keeps, HasState, Reads}
use Rattle.state.proofs.Ops.{time_ok, time_read, no_time_is}
use Rattle.waiting.specs.Queues.{queue, nth}
use Rattle.waiting.specs.declared.readers.OperationCase.{OperationCase}
use Rattle.waiting.specs.Entries.{EntryAt, EntryIs, FindsEntry}
use Rattle.waiting.specs.Texts.{texts_end}
use Rattle.waiting.specs.Reading.{entry_byte, case_of, operation_case_of, by_attendee, expiry_of, ids_number, nth_id, ReadsId}
use Rattle.waiting.proofs.Cuts.{Slot}
use Rattle.waiting.proofs.Lists as lists
use Rattle.waiting.proofs.Fields as fields
use Rattle.waiting.proofs.Splices as splices
use Rattle.waiting.proofs.Texts.{Ids}
use Rattle.waiting.proofs.Folds as folds
use Rattle.waiting.proofs.Folds.{IdsAt}

-- ---- one byte

-- the entry that stands there
pub entry_room : {r : ResourceId} {j p : ℕ} {w : List ℕ} → HasState w → FindsEntry r j w (Some p) → p + 5940 ≤ 55643
unfolding EntryIs
entry_room H F = (F.is H.state H.keeps).is.room

entry_there : {r : ResourceId} {j p : ℕ} {w : List ℕ} {s : SyncState} → Keeps s w → FindsEntry r j w (Some p) → (x : Pending) × EntryAt r j w s p x
unfolding EntryIs
entry_there {s = s} h F = ((F.is s h).entry, (F.is s h).is)

entry_not : {r : ResourceId} {j : ℕ} {w : List ℕ} {s : SyncState} → Keeps s w → FindsEntry r j w None → nth j (queue r s) ≡ None
unfolding EntryIs
entry_not {s = s} h F = F.is s h

pub byte_missing : (r : ResourceId) (w : List ℕ) (j o : ℕ) → FindsEntry r j w None → Reads (λ s. entry_byte r o (nth j (queue r s))) w None
unfolding entry_byte
byte_missing r w j o F = record { is = λ s h. sym (ap (entry_byte r o) (entry_not h F)) }

pub byte_there : (r : ResourceId) (w : List ℕ) (j o p v : ℕ) → FindsEntry r j w (Some p) → o < 5940 → v ≡ get_or w (p + o) 0 → Reads (λ s. entry_byte r o (nth j (queue r s))) w (Some v)
unfolding entry_byte
byte_there r w j o p v F m e = record {
  is = λ s h.
      let E = (entry_there h F).1 in
      ap Some (e ∙ sym (get_or-drop p w o 0) ∙ sym (get_or-take 5940 (drop p w) o 0 m) ∙ ap (λ (x : List ℕ). get_or x o 0) E.slot) ∙ sym (ap (entry_byte r o) E.got);
}

-- the first byte of a field
first_of : (r : ResourceId) (p : Pending) → resource_id.Ok r → PendingFits document01 r p → (k : ℕ) → k < 9 → 0 < get_or fields.widths k 0 → get_or (Slot r p) (offset fields.widths k) 0 ≡ get_or (get_or (fields.fields r p) k []) 0 0
first_of r p m ok k h l =
    let o : ℕ = offset fields.widths k in
    ap (λ (x : List ℕ). get_or x o 0) (fields.slot_is r p) ∙ ap (λ (i : ℕ). get_or (flat (fields.fields r p)) i 0) (sym (add-zero o)) ∙ sym (get_or-drop o (flat (fields.fields r p)) 0 0)
    ∙ sym (get_or-take (get_or fields.widths k 0) (drop o (flat (fields.fields r p))) 0 0 l) ∙ ap (λ (x : List ℕ). get_or x 0 0) (fields.field_of k (fields.fields r p) (fields.fields_long r p m ok) h)

-- the case that a byte names
abbrev pub case_named : ℕ → OperationCase
case_named zero = OperationCase.Create
case_named (suc zero) = OperationCase.Update
case_named (suc (suc n)) = OperationCase.Delete

module _ (r : ResourceId) (k : resource_id.Ok r) where
  case_byte : (o : Operation) → case_named (get_or (field 1469 operation_f o) 0 0) ≡ case_of o
  unfolding operation_f via enum ◌∣◌ padded
  case_byte (Operation.Create event) = refl
  case_byte (Operation.Update base ours) = refl
  case_byte Operation.Delete = refl

  role_byte : (x : Role) → eqb (get_or (field 34 role_f x) 0 0) 1 ≡ by_attendee x
  unfolding role_f via enum ◌∣◌ padded by_attendee
  role_byte Role.Owner = refl
  role_byte (Role.Attendee address) = refl

  bool_byte : (b : Bool) → eqb (get_or (field 1 bool b) 0 0) 1 ≡ b
  unfolding bool via below-format padded
  bool_byte true = refl
  bool_byte false = refl

pub told : {A : Type 0} {f : SyncState → A} {w : List ℕ} {x y : A} → x ≡ y → Reads f w y → Reads f w x
told {f = f} {w} e R = subst (Reads f w) (sym e) R

-- what a byte of the entry says
pub says : {A : Type 0} (r : ResourceId) (w : List ℕ) (o : ℕ) (v : Option ℕ) (j : ℕ) (f : Option ℕ → A) (g : Option Pending → A) → Reads (λ s. entry_byte r o (nth j (queue r s))) w v
    → f None ≡ g None → ((p : Pending) → PendingFits document01 r p → f (Some (get_or (Slot r p) o 0)) ≡ g (Some p)) → Reads (λ s. g (nth j (queue r s))) w (f v)
unfolding entry_byte
says r w o v j f g R e t = record {
  is = λ s h.
      ap f (R.is s h) ∙ go (nth j (queue r s)) (λ p q. lists.nth_all (PendingFits document01 r) j (queue r s) p (splices.cut_of r h).own q);
}
  where
    go : (x : Option Pending) → ((p : Pending) → x ≡ Some p → PendingFits document01 r p) → f (entry_byte r o x) ≡ g x
    go None m = e
    go (Some p) m = t p (m p refl)

case_read : (r : ResourceId) (w : List ℕ) (v : Option ℕ) (j : ℕ) → resource_id.Ok r → Reads (λ s. entry_byte r 66 (nth j (queue r s))) w v → Reads (λ s. operation_case_of (nth j (queue r s))) w (option_map case_named v)
unfolding operation_case_of
case_read r w v j k R =
    says r w 66 v j (option_map case_named) operation_case_of R refl (λ p ok. ap Some (ap case_named (first_of r p k ok 2 (omega arith) (omega arith)) ∙ case_byte r k p.edit.operation))

pub case_none : (r : ResourceId) (w : List ℕ) (x : Option OperationCase) (j : ℕ) → resource_id.Ok r → Reads (λ s. entry_byte r 66 (nth j (queue r s))) w None → x ≡ None → Reads (λ s. operation_case_of (nth j (queue r s))) w x
case_none r w x j k R e = subst (Reads (λ s. operation_case_of (nth j (queue r s))) w) (sym e) (case_read r w None j k R)

pub case_some : (r : ResourceId) (w : List ℕ) (v : ℕ) (x : OperationCase) (j : ℕ) → resource_id.Ok r → Reads (λ s. entry_byte r 66 (nth j (queue r s))) w (Some v) → case_named v ≡ x → Reads (λ s. operation_case_of (nth j (queue r s))) w (Some x)
case_some r w v x j k R e = subst (λ (y : OperationCase). Reads (λ s. operation_case_of (nth j (queue r s))) w (Some y)) e (case_read r w (Some v) j k R)

pub other_named : (n : ℕ) → (n ≡ 0 → ⊥) → (n ≡ 1 → ⊥) → case_named n ≡ OperationCase.Delete
other_named zero a b = absurd (a refl)
other_named (suc zero) a b = absurd (b refl)
other_named (suc (suc n)) a b = refl

abbrev pub is_one : Option ℕ → Bool
is_one None = false
is_one (Some n) = eqb n 1

pub role_read : (r : ResourceId) (w : List ℕ) (v : Option ℕ) (j : ℕ) → resource_id.Ok r → Reads (λ s. entry_byte r 1535 (nth j (queue r s))) w v → Reads (λ s. is_some_and (λ p. by_attendee p.edit.role) (nth j (queue r s))) w (is_one v)
unfolding is_some_and
role_read r w v j k R =
    says r w 1535 v j is_one (is_some_and (λ p. by_attendee p.edit.role)) R refl (λ p ok. ap (λ (x : ℕ). eqb x 1) (first_of r p k ok 3 (omega arith) (omega arith)) ∙ role_byte r k p.edit.role)

pub collided_read : (r : ResourceId) (w : List ℕ) (v : Option ℕ) (j : ℕ) → resource_id.Ok r → Reads (λ s. entry_byte r 5674 (nth j (queue r s))) w v → Reads (λ s. is_some_and (λ p. p.collided) (nth j (queue r s))) w (is_one v)
unfolding is_some_and
collided_read r w v j k R =
    says r w 5674 v j is_one (is_some_and (λ p. p.collided)) R refl (λ p ok. ap (λ (x : ℕ). eqb x 1) (first_of r p k ok 7 (omega arith) (omega arith)) ∙ bool_byte r k p.collided)

-- ---- the number of ids

list_byte : (ids : List Text) → get_or (field 265 (list 8 short_text) ids) 0 0 ≡ length ids
unfolding list padded
list_byte ids = refl

count_of : (r : ResourceId) (p : Pending) → resource_id.Ok r → PendingFits document01 r p → get_or (Slot r p) 5675 0 ≡ length p.absorbed
count_of r p k ok = first_of r p k ok 8 (omega arith) (omega arith) ∙ list_byte p.absorbed

abbrev pub ids_said : Option ℕ → ℕ
ids_said None = 0
ids_said (Some n) = 1 + n

pub number_read : (r : ResourceId) (w : List ℕ) (v : Option ℕ) (j : ℕ) → resource_id.Ok r → Reads (λ s. entry_byte r 5675 (nth j (queue r s))) w v → Reads (λ s. ids_number (nth j (queue r s))) w (ids_said v)
unfolding ids_number ids_of
number_read r w v j k R = says r w 5675 v j ids_said ids_number R refl (λ p ok. let c : get_or (Slot r p) 5675 0 ≡ length p.absorbed = count_of r p k ok in omega arith)

pub number_some : (r : ResourceId) (w : List ℕ) (v n j : ℕ) → resource_id.Ok r → Reads (λ s. entry_byte r 5675 (nth j (queue r s))) w (Some v) → n ≡ v → Reads (λ s. ids_number (nth j (queue r s))) w (1 + n)
number_some r w v n j k R e = subst (λ (x : ℕ). Reads (λ s. ids_number (nth j (queue r s))) w (1 + x)) (sym e) (number_read r w (Some v) j k R)

-- ---- the expiry

pub expiry_none : (r : ResourceId) (w : List ℕ) (j : ℕ) (x : Option ℤ) → FindsEntry r j w None → x ≡ None → Reads (λ s. expiry_of (nth j (queue r s))) w x
unfolding expiry_of
expiry_none r w j x F e = record { is = λ s h. e ∙ sym (ap expiry_of (entry_not h F)) }

-- the byte that says whether there is a time, and its bits behind it
module _ (r : ResourceId) (w : List ℕ) (j p : ℕ) (F : FindsEntry r j w (Some p)) where
  time_byte : {s : SyncState} (h : Keeps s w) → get_or w (p + 1569) 0 ≡ get_or (field 9 (option stamp) (entry_there h F).0.edit.expires_at) 0 0
  time_byte h =
      let z : p + 1569 + 0 ≡ p + 1569 = add-zero (p + 1569) in
      ap (λ (i : ℕ). get_or w i 0) (sym z) ∙ sym (get_or-drop (p + 1569) w 0 0) ∙ sym (get_or-take 9 (drop (p + 1569) w) 0 0 (omega arith)) ∙ ap (λ (x : List ℕ). get_or x 0 0) (entry_there h F).1.expires_at

  pub expiry_unset : get_or w (p + 1569) 0 ≡ 0 → Reads (λ s. expiry_of (nth j (queue r s))) w None
  unfolding expiry_of
  expiry_unset e = record { is = λ s h. let x = entry_there h F in no_time_is x.0.edit.expires_at (sym (time_byte h) ∙ e) ∙ sym (ap expiry_of x.1.got) }

  pub expiry_set : (bits : ℕ) (t : ℤ) → bits < 2 ^ 64 → (get_or w (p + 1569) 0 ≡ 0 → ⊥) → bits ≡ from_be 0 (take 8 (drop (p + 1569 + 1) w)) → t ≡ to_z w64 bits
      → Reads (λ s. expiry_of (nth j (queue r s))) w (Some (to_z w64 (of_z w64 t)))
  unfolding expiry_of
  expiry_set bits t l z q e = record {
    is = λ s h.
        let x = entry_there h F in
        let d : take 8 (drop (p + 1569 + 1) w) ≡ take 8 (drop 1 (take 9 (drop (p + 1569) w))) = tables.field_of w 9 (p + 1569) 1 8 (omega arith) in
        ap (λ (y : ℤ). Some (to_z w64 (of_z w64 y))) e ∙ ap (λ (y : ℕ). Some (to_z w64 y)) (of_z-to_z w64 bits l)
        ∙ time_read (take 9 (drop (p + 1569) w)) bits x.0.edit.expires_at (time_ok x.0.edit.expires_at) x.1.fits.expires_at x.1.expires_at (λ y. z (time_byte h ∙ y)) (q ∙ ap (from_be 0) d)
        ∙ sym (ap expiry_of x.1.got);
  }

-- ---- whether it is due

abbrev pub is_past : ℤ → Option ℤ → Bool
is_past at None = false
is_past at (Some t) = le_z t at

pub due_read : (r : ResourceId) (w : List ℕ) (j : ℕ) (at : ℤ) (x : Option ℤ) → Reads (λ s. expiry_of (nth j (queue r s))) w x → Reads (λ s. is_some_and (λ p. due at p.edit) (nth j (queue r s))) w (is_past at x)
unfolding expiry_of is_some_and due
due_read r w j at x R = record { is = λ s h. ap (is_past at) (R.is s h) ∙ go (nth j (queue r s)) }
  where
    on : (x : Option ℤ) → is_past at x ≡ is_some_and (λ t. le_z t at) x
    on None = refl
    on (Some t) = refl

    go : (x : Option Pending) → is_past at (expiry_of x) ≡ is_some_and (λ p. due at p.edit) x
    go None = refl
    go (Some p) = on p.edit.expires_at

-- ---- one id

-- a text stands at `at`
pub record TextAt (w : List ℕ) (at : ℕ) (id : Text) : Type 0 where
  pub tail : List ℕ
  pub is : drop at w ≡ short_text.enc id ++ tail
  pub ok : short_text.Ok id

pub text_room : (w : List ℕ) (at : ℕ) (id : Text) → TextAt w at id → (at < length w) × (get_or w at 0 ≤ 32) × (at + (1 + get_or w at 0) ≤ length w)
unfolding text max_text
text_room w at id T =
    let l : length (drop at w) ≡ length w - at = length-drop at w in
    let m : length (drop at w) ≡ suc (length (id ++ T.tail)) = ap length T.is in
    let n : length (id ++ T.tail) ≡ length id + length T.tail = length-append id T.tail in
    let g : get_or w at 0 ≡ length id = ap (λ (i : ℕ). get_or w i 0) (sym (add-zero at)) ∙ sym (get_or-drop at w 0 0) ∙ ap (λ (x : List ℕ). get_or x 0 0) T.is in
    let k : length id ≤ 32 = T.ok.0 in
    (omega arith, omega arith, omega arith)

pub text_read : (w b : List ℕ) (at : ℕ) (id : Text) → TextAt w at id → b ≡ padded 33 (take (1 + get_or w at 0) (drop at w)) → b ≡ name_slot id
unfolding text
text_read w b at id T e =
    let g : get_or w at 0 ≡ length id = ap (λ (i : ℕ). get_or w i 0) (sym (add-zero at)) ∙ sym (get_or-drop at w 0 0) ∙ ap (λ (x : List ℕ). get_or x 0 0) T.is in
    let n : 1 + get_or w at 0 ≡ suc (length id) = omega arith in
    e ∙ ap (padded 33) (ap₂ (λ (i : ℕ) (x : List ℕ). take i x) n T.is ∙ take_at (length id ∷ id) T.tail (suc (length id)) refl)

field_text : (w : List ℕ) (at : ℕ) (id : Text) → short_text.Ok id → take 33 (drop at w) ≡ field 33 short_text id → TextAt w at id
unfolding padded
field_text w at id ok e = record {
  tail = zeros (33 - length (short_text.enc id)) ++ drop 33 (drop at w);
  is = sym (take-append-drop 33 (drop at w)) ∙ ap (λ (x : List ℕ). x ++ drop 33 (drop at w)) e ∙ append_assoc (short_text.enc id) (zeros (33 - length (short_text.enc id))) (drop 33 (drop at w));
  ok = ok;
}

ids_split : (k : ℕ) (ids : List Text) (id : Text) → nth_id k ids ≡ Some id → Ids ids ≡ Ids (take k ids) ++ (short_text.enc id ++ Ids (drop (suc k) ids))
unfolding nth_id
ids_split k [] id e = absurd (None-ne-Some id e)
ids_split zero (x ∷ ids) id e = ap (λ (y : Text). short_text.enc y ++ Ids ids) (Some-injective x id e)
ids_split (suc k) (x ∷ ids) id e = ap (λ (y : List ℕ). short_text.enc x ++ y) (ids_split k ids id e) ∙ sym (append_assoc (short_text.enc x) (Ids (take k ids)) (short_text.enc id ++ Ids (drop (suc k) ids)))

nth_id_ok : (k : ℕ) (ids : List Text) (id : Text) → All short_text.Ok ids → nth_id k ids ≡ Some id → short_text.Ok id
unfolding nth_id
nth_id_ok k [] id a e = absurd (None-ne-Some id e)
nth_id_ok zero (x ∷ ids) id a e = subst short_text.Ok (Some-injective x id e) a.0
nth_id_ok (suc k) (x ∷ ids) id a e = nth_id_ok k ids id a.1 e

nth_id_below : (k : ℕ) (ids : List Text) (id : Text) → nth_id k ids ≡ Some id → k < length ids
unfolding nth_id
nth_id_below k [] id e = absurd (None-ne-Some id e)
nth_id_below zero (x ∷ ids) id e = omega arith
nth_id_below (suc k) (x ∷ ids) id e = let h : k < length ids = nth_id_below k ids id e in omega arith

pub nth_id_some : (k : ℕ) (ids : List Text) → k < length ids → (id : Text) × (nth_id k ids ≡ Some id)
unfolding nth_id
nth_id_some k [] h = absurd (not-suc-le-zero h)
nth_id_some zero (x ∷ ids) h = (x, refl)
nth_id_some (suc k) (x ∷ ids) h = nth_id_some k ids (le_of_suc-le-suc h)

absorbed_text : (w : List ℕ) (p k : ℕ) (ids : List Text) (id : Text) → All short_text.Ok ids → IdsAt w p ids → nth_id k ids ≡ Some id → TextAt w (texts_end k w (p + 5676)) id
absorbed_text w p k ids id a J g =
    let l : k < length ids = nth_id_below k ids id g in
    let X : List ℕ = Ids (take k ids) in
    let tail : List ℕ = zeros (265 - suc (length (Ids ids))) ++ drop 265 (drop (p + 5675) w) in
    let d : drop (p + 5676) w ≡ X ++ ((short_text.enc id ++ Ids (drop (suc k) ids)) ++ tail) = J.rest ∙ ap (λ (y : List ℕ). y ++ tail) (ids_split k ids id g) ∙ append_assoc X (short_text.enc id ++ Ids (drop (suc k) ids)) tail in
    let e : texts_end k w (p + 5676) ≡ p + 5676 + length (Ids (take k ids)) = J.end k (omega arith) in
    record {
      tail = Ids (drop (suc k) ids) ++ tail;
      is = ap (λ (i : ℕ). drop i w) e ∙ sym (drop-drop (length X) (p + 5676) w) ∙ ap (drop (length X)) d ∙ drop_at X ((short_text.enc id ++ Ids (drop (suc k) ids)) ++ tail) (length X) refl ∙ append_assoc (short_text.enc id) (Ids (drop (suc k) ids)) tail;
      ok = nth_id_ok k ids id a g;
    }

all_ids : (r : ResourceId) (p : Pending) → PendingFits document01 r p → All short_text.Ok p.absorbed
unfolding document01 list
all_ids r p ok = ok.absorbed.1

-- the place of the k-th id: the entry's own at 33, the others in the list
module _ {r : ResourceId} {w : List ℕ} {j p : ℕ} (F : FindsEntry r j w (Some p)) where
  own_text : {s : SyncState} (h : Keeps s w) → TextAt w (p + 33) (entry_there h F).0.edit.id
  own_text h = let E = (entry_there h F).1 in field_text w (p + 33) (entry_there h F).0.edit.id E.fits.id E.id

  ids_there : {s : SyncState} (h : Keeps s w) → IdsAt w p (entry_there h F).0.absorbed
  ids_there h = folds.ids_at r j p (entry_there h F).0 (entry_there h F).1

  more_text : {s : SyncState} (h : Keeps s w) (k : ℕ) (id : Text) → nth_id k (entry_there h F).0.absorbed ≡ Some id → TextAt w (texts_end k w (p + 5676)) id
  more_text h k id e = let x = entry_there h F in absorbed_text w p k x.0.absorbed id (all_ids r x.0 x.1.fits) (ids_there h) e

  pub own_room : HasState w → (p + 33 < length w) × (get_or w (p + 33) 0 ≤ 32) × (p + 33 + (1 + get_or w (p + 33) 0) ≤ length w)
  own_room H = text_room w (p + 33) (entry_there H.keeps F).0.edit.id (own_text H.keeps)

  pub more_room : (k at : ℕ) → HasState w → k ≤ get_or w (p + 5675) 0 → 0 < k → at ≡ texts_end (k - 1) w (p + 5676) → (at < length w) × (get_or w at 0 ≤ 32) × (at + (1 + get_or w at 0) ≤ length w)
  more_room k at H l o e =
      let c : get_or w (p + 5675) 0 ≡ length (entry_there H.keeps F).0.absorbed = (ids_there H.keeps).count in
      let x = nth_id_some (k - 1) (entry_there H.keeps F).0.absorbed (omega arith) in
      text_room w at x.0 (subst (λ (a : ℕ). TextAt w a x.0) (sym e) (more_text H.keeps (k - 1) x.0 x.1))

  -- what stands in another entry's place is the same entry
  same_entry : {s : SyncState} (h : Keeps s w) (x : Pending) → nth j (queue r s) ≡ Some x → (entry_there h F).0 ≡ x
  same_entry h x g = Some-injective (entry_there h F).0 x (sym (entry_there h F).1.got ∙ g)

  pub id_past : (b : List ℕ) (k : ℕ) → get_or w (p + 5675) 0 < k → ReadsId r j k w b
  unfolding ids_of
  id_past b k l = record {
    is = λ s h x g id e.
        let c : get_or w (p + 5675) 0 ≡ length x.absorbed = (ids_there h).count ∙ ap (λ (y : Pending). length y.absorbed) (same_entry h x g) in
        let d : k < length (ids_of x) = nth_id_below k (ids_of x) id e in
        absurd (omega arith);
  }

  pub id_own : (b : List ℕ) (k : ℕ) → k ≡ 0 → b ≡ padded 33 (take (1 + get_or w (p + 33) 0) (drop (p + 33) w)) → ReadsId r j k w b
  unfolding nth_id ids_of
  id_own b k l q = record {
    is = λ s h x g id e.
        let T = own_text h in
        let m : (entry_there h F).0.edit.id ≡ x.edit.id = ap (λ (y : Pending). y.edit.id) (same_entry h x g) in
        let f : x.edit.id ≡ id = Some-injective x.edit.id id (ap (λ (n : ℕ). nth_id n (x.edit.id ∷ x.absorbed)) (sym l) ∙ e) in
        (text_read w b (p + 33) (entry_there h F).0.edit.id T q ∙ ap name_slot (m ∙ f), subst short_text.Ok (m ∙ f) T.ok);
  }

  pub id_more : (b : List ℕ) (k at : ℕ) → 0 < k → at ≡ texts_end (k - 1) w (p + 5676) → b ≡ padded 33 (take (1 + get_or w at 0) (drop at w)) → ReadsId r j k w b
  unfolding nth_id ids_of
  id_more b k at l a q = record {
    is = λ s h x g id e.
        let c : k ≡ suc (k - 1) = omega arith in
        let f : nth_id (k - 1) x.absorbed ≡ Some id = ap (λ (n : ℕ). nth_id n (x.edit.id ∷ x.absorbed)) (sym c) ∙ e in
        let m : nth_id (k - 1) (entry_there h F).0.absorbed ≡ Some id = ap (λ (y : Pending). nth_id (k - 1) y.absorbed) (same_entry h x g) ∙ f in
        let T : TextAt w at id = subst (λ (x : ℕ). TextAt w x id) (sym a) (more_text h (k - 1) id m) in
        (text_read w b at id T q, T.ok);
  }

pub id_none : {r : ResourceId} {w : List ℕ} {j : ℕ} (b : List ℕ) (k : ℕ) → FindsEntry r j w None → ReadsId r j k w b
id_none b k F = record { is = λ s h x g id e. absurd (None-ne-Some x (sym (entry_not h F) ∙ g)) }

-- a text by value
pub text_copied : (src b z : List ℕ) (at n : ℕ) → n ≡ get_or src at 0 → z ≡ zeros 33 → get_or src at 0 ≤ 32 → at + (1 + get_or src at 0) ≤ length src
    → b ≡ take (at + (1 + n) - at) (drop at src) ++ drop (length (take (at + (1 + n) - at) (drop at src))) z → b ≡ padded 33 (take (1 + get_or src at 0) (drop at src))
unfolding padded
text_copied src b z at n e y h l q =
    let k : at + (1 + n) - at ≡ 1 + get_or src at 0 = omega arith in
    let x : List ℕ = take (1 + get_or src at 0) (drop at src) in
    let m : length (take (1 + get_or src at 0) (drop at src)) ≡ 1 + get_or src at 0 = tables.part_length src at (1 + get_or src at 0) l in
    q ∙ ap (λ (i : ℕ). take i (drop at src) ++ drop (length (take i (drop at src))) z) k ∙ ap (λ (v : List ℕ). x ++ v) (ap (drop (length x)) y ∙ drop_zeros (length x) 33 (omega arith))
