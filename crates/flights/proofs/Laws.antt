-- The requests in flight: each law's premises are what the callees ensure. Assumes nothing.
use Rattle.std.specs.Prelude.{Some, None, Ok, Err}
use Prim.Native.Nat.{ℕ, zero, suc, ◌+◌, ◌*◌, ◌^◌, ◌≤◌, ◌<◌}
use native.Mathlib.Omega.{arith}
use mathlib.Core.Path.{◌≡◌, refl, sym, ap, ap₂, ◌∙◌, subst}
use mathlib.Core.List.{List, [], ◌∷◌}
use mathlib.Core.Bool.{Bool, true, false, not, ◌||◌, or-false}
use lib.ListN.{length, take, drop, get_or}
use lib.Seq.{drop-drop, take_all, get_or-take, get_or-drop}
use Rattle.format.specs.Format.{number, via, enum, ◌∣◌, nothing}
use Rattle.format.specs.Format.{text as text-format}
use Rattle.format.specs.Utf8.{is_text, chars}
use Rattle.spans.specs.Compare.{order}
use Rattle.tables.specs.Table.{Table, Sized, enc_table, text, place, keep_slots, keeps, against}
use Rattle.tables.proofs.Laws as tables
use Rattle.lent.specs.Lent.{part, placed}
use Rattle.model.specs.Event.{Text}
use Rattle.model.specs.Seam.{RequestId}
use Rattle.model.specs.State.{Purpose, SyncState}
use Rattle.model.specs.Limits.{document01}
use Rattle.model.specs.Maps.{by_number, same_text, any, filter, get, values}
use Rattle.model.specs.Sync.{is_pass_read, is_of_pass, pass_reads, edit_reads, edit_writes, refreshes, asks_about}
use Rattle.model.specs.Formats.{resource_id, u64, same}
use Rattle.model.specs.SavedForm.{purpose_f}
use Rattle.model.proofs.Fitting.{any_same}
use Rattle.state.specs.Layout.{padded, field, name_slot, number_key, flight_slot}
use Rattle.state.specs.Setters.{with_in_flight}
use Rattle.state.specs.Contract.{state_length, Keeps, HasState, Reads, Edits}
use Rattle.state.specs.Values.{NamedIn, purpose_in}
use Rattle.state.specs.declared.Purpose.{Purpose as Asked}
use Rattle.state.specs.declared.Purpose.TheVariants.{Refresh}
use Rattle.state.proofs.Padded.{length_name, text_number_only}
use Rattle.state.proofs.Columns as columns
use Rattle.state.proofs.Ops as ops
use Rattle.state.proofs.Bridge as bridge
use Rattle.flights.specs.Asked.{purpose_from}

-- ---- the bytes of a purpose

abbrev Fit : RequestId × Purpose → Type 0
Fit e = u64.Ok e.0 × purpose_f.Ok e.1

-- the name of a purpose: empty for a listing
unfoldable pub name_in : Purpose → Text
name_in Purpose.List = []
name_in (Purpose.PassRead r) = r
name_in (Purpose.EditRead r) = r
name_in (Purpose.EditWrite r) = r
name_in (Purpose.Refresh r) = r

pub name_ok : (p : Purpose) → purpose_f.Ok p → resource_id.Ok (name_in p)
unfolding name_in purpose_f via enum ◌∣◌ text-format is_text chars
name_ok Purpose.List ok = (omega arith, refl)
name_ok (Purpose.PassRead r) ok = ok
name_ok (Purpose.EditRead r) ok = ok
name_ok (Purpose.EditWrite r) ok = ok
name_ok (Purpose.Refresh r) ok = ok

name_bytes : (p : Purpose) → drop 1 (field 34 purpose_f p) ≡ name_slot (name_in p)
unfolding name_in purpose_f via enum ◌∣◌ nothing padded text-format
name_bytes Purpose.List = refl
name_bytes (Purpose.PassRead r) = ap (drop 1) (sym (ops.named_purpose 1 r))
name_bytes (Purpose.EditRead r) = ap (drop 1) (sym (ops.named_purpose 2 r))
name_bytes (Purpose.EditWrite r) = ap (drop 1) (sym (ops.named_purpose 3 r))
name_bytes (Purpose.Refresh r) = ap (drop 1) (sym (ops.named_purpose 4 r))

-- the purpose that its bytes stand for
whole : (p : Purpose) (b : List ℕ) → purpose_f.Ok p → b ≡ name_slot (name_in p) → (purpose_in (purpose_from (get_or (field 34 purpose_f p) 0 0) b) ≡ p) × NamedIn (purpose_from (get_or (field 34 purpose_f p) 0 0) b)
unfolding name_in purpose_f via enum ◌∣◌ nothing padded
whole Purpose.List b ok e = (refl, tt)
whole (Purpose.PassRead r) b ok e = let n = ops.slot_named b r ok e in (ap Purpose.PassRead n.0, n.1)
whole (Purpose.EditRead r) b ok e = let n = ops.slot_named b r ok e in (ap Purpose.EditRead n.0, n.1)
whole (Purpose.EditWrite r) b ok e = let n = ops.slot_named b r ok e in (ap Purpose.EditWrite n.0, n.1)
whole (Purpose.Refresh r) b ok e = let n = ops.slot_named b r ok e in (ap Purpose.Refresh n.0, n.1)

drop_more : (n m : ℕ) (x : List ℕ) → drop (n + m) x ≡ drop m (drop n x)
drop_more n m x = sym (drop-drop m n x)

-- the first byte and the name of the slot at p
pub first_is : (w : List ℕ) (p : ℕ) (e : RequestId × Purpose) → take 43 (drop p w) ≡ flight_slot e → get_or w (p + 9) 0 ≡ get_or (field 34 purpose_f e.1) 0 0
first_is w p e h =
    sym (get_or-drop p w 9 0) ∙ sym (get_or-take 43 (drop p w) 9 0 (omega arith)) ∙ ap (λ (x : List ℕ). get_or x 9 0) h ∙ sym (get_or-drop 9 (flight_slot e) 0 0) ∙ ap (λ (x : List ℕ). get_or x 0 0) (ops.flight_value e)

name_is : (w : List ℕ) (p : ℕ) (e : RequestId × Purpose) → Fit e → take 43 (drop p w) ≡ flight_slot e → take 33 (drop (p + 9 + 1) w) ≡ name_slot (name_in e.1)
name_is w p e ok h =
    let n : p + 9 + 1 ≡ p + 10 = omega arith in
    ap (λ (j : ℕ). take 33 (drop j w)) n ∙ tables.field_of w 43 p 10 33 (omega arith) ∙ ap (λ (x : List ℕ). take 33 (drop 10 x)) h
    ∙ ap (take 33) (drop_more 9 1 (flight_slot e) ∙ ap (drop 1) (ops.flight_value e) ∙ name_bytes e.1)
    ∙ take_all 33 (name_slot (name_in e.1)) (omega (arith, length_name (name_in e.1) (name_ok e.1 ok.1)))

-- what stands there, read
pub asked : (w : List ℕ) (p : ℕ) (a : Asked) (e : RequestId × Purpose) → Fit e → take 43 (drop p w) ≡ flight_slot e → a ≡ purpose_from (get_or w (p + 9) 0) (take 33 (drop (p + 9 + 1) w))
    → (purpose_in a ≡ e.1) × NamedIn a
asked w p a e ok h d =
    let n = whole e.1 (take 33 (drop (p + 9 + 1) w)) ok.1 (name_is w p e ok h) in
    let f : a ≡ purpose_from (get_or (field 34 purpose_f e.1) 0 0) (take 33 (drop (p + 9 + 1) w)) = d ∙ ap (λ (x : ℕ). purpose_from x (take 33 (drop (p + 9 + 1) w))) (first_is w p e h) in
    (ap purpose_in f ∙ n.0, subst NamedIn (sym f) n.1)

-- the last kind of five
pub refresh_from : (n : ℕ) (b : List ℕ) → (n ≡ 0 → ⊥) → (n ≡ 1 → ⊥) → (n ≡ 2 → ⊥) → (n ≡ 3 → ⊥) → Refresh (record { bytes = b }) ≡ purpose_from n b
refresh_from zero b h i j k = absurd (h refl)
refresh_from (suc zero) b h i j k = absurd (i refl)
refresh_from (suc (suc zero)) b h i j k = absurd (j refl)
refresh_from (suc (suc (suc zero))) b h i j k = absurd (k refl)
refresh_from (suc (suc (suc (suc n)))) b h i j k = refl

-- ---- by number

pub found : (key w : List ℕ) (n p : ℕ) (a : Asked) → n < 2 ^ 64 → key ≡ number_key n → HasState w
    → ((t : Table) → Sized 43 t → part 55643 1033 w ≡ enc_table 1033 t → Ok p ≡ place 43 key t 1)
    → a ≡ purpose_from (get_or w (55643 + p + 9) 0) (take 33 (drop (55643 + p + 9 + 1) w))
    → Reads (λ s. get by_number n s.in_flight) w (Some (purpose_in a)) × NamedIn a
unfolding number
found key w n p a l d K g f = (
  record {
    is = λ s h.
        let H = columns.there ops.flight_column key w n p l (ap text d ∙ text_number_only n) s h g in
        ap Some (asked w (55643 + p) a H.e H.fits H.bytes f).0 ∙ sym H.got;
  },
  (let H = columns.there ops.flight_column key w n p l (ap text d ∙ text_number_only n) K.state K.keeps g in (asked w (55643 + p) a H.e H.fits H.bytes f).1),
)

pub missing : (key w : List ℕ) (n p : ℕ) → n < 2 ^ 64 → key ≡ number_key n
    → ((t : Table) → Sized 43 t → part 55643 1033 w ≡ enc_table 1033 t → Err p ≡ place 43 key t 1)
    → Reads (λ s. get by_number n s.in_flight) w None
unfolding number
missing key w n p l d g = record { is = λ s h. sym (columns.not_there ops.flight_column key w n p l (ap text d ∙ text_number_only n) s h g) }

pub found_room : (key w : List ℕ) (n p : ℕ) → n < 2 ^ 64 → key ≡ number_key n → HasState w
    → ((t : Table) → Sized 43 t → part 55643 1033 w ≡ enc_table 1033 t → Ok p ≡ place 43 key t 1) → 55643 + p + 43 ≤ length w
unfolding number
found_room key w n p l d K g = let m = K.keeps.long in omega (arith, (columns.there ops.flight_column key w n p l (ap text d ∙ text_number_only n) K.state K.keeps g).room)

-- ---- entry i

pub few : (w : List ℕ) (i : ℕ) → HasState w → i < get_or w 55643 0 → (i < 24) × (length w ≡ state_length)
unfolding document01
few w i K l =
    let c = columns.counted ops.flight_column K.state w K.keeps in
    let k = K.keeps.fits.in_flight.small in
    (omega arith, K.keeps.long)

abbrev pub entry : ℕ → SyncState → RequestId × Purpose
entry i s = get_or s.in_flight i (0, Purpose.List)

pub nth : (w : List ℕ) (i : ℕ) (s : SyncState) → Keeps s w → i < get_or w 55643 0 → (take 43 (drop (55643 + 1 + i * 43) w) ≡ flight_slot (entry i s)) × Fit (entry i s) × (i < length s.in_flight)
nth w i s h l =
    let c = columns.counted ops.flight_column s w h in
    let u = columns.nth ops.flight_column (0, Purpose.List) i s w h (omega arith) in
    let n : 55643 + 1 + i * 43 ≡ 55643 + (1 + i * 43) = omega arith in
    (ap (λ (j : ℕ). take 43 (drop j w)) n ∙ u.0, u.2, omega arith)

-- ---- dropping by kind

first_byte : (e : RequestId × Purpose) → take 1 (drop 9 (flight_slot e)) ≡ take 1 (field 34 purpose_f e.1)
first_byte e = ap (take 1) (ops.flight_value e)

pass_read_byte : (p : Purpose) → keeps false (order (take 1 (field 34 purpose_f p)) (1 ∷ [])) ≡ not (is_pass_read p)
unfolding is_pass_read purpose_f via enum ◌∣◌ nothing padded
pass_read_byte Purpose.List = refl
pass_read_byte (Purpose.PassRead r) = refl
pass_read_byte (Purpose.EditRead r) = refl
pass_read_byte (Purpose.EditWrite r) = refl
pass_read_byte (Purpose.Refresh r) = refl

of_pass_byte : (p : Purpose) → keeps true (order (take 1 (field 34 purpose_f p)) (1 ∷ [])) ≡ not (is_of_pass p)
unfolding is_of_pass purpose_f via enum ◌∣◌ nothing padded
of_pass_byte Purpose.List = refl
of_pass_byte (Purpose.PassRead r) = refl
of_pass_byte (Purpose.EditRead r) = refl
of_pass_byte (Purpose.EditWrite r) = refl
of_pass_byte (Purpose.Refresh r) = refl

pub pass_reads_dropped : (w w' : List ℕ)
    → ((t : Table) → Sized 43 t → part 55643 1033 w ≡ enc_table 1033 t → w' ≡ placed 55643 1033 (enc_table 1033 (keep_slots (λ s. keeps false (against 9 (1 ∷ []) s)) t)) w)
    → Edits (λ s. with_in_flight (filter (λ e. not (is_pass_read e.1)) s.in_flight) s) w w'
pass_reads_dropped w w' g =
    columns.retained ops.flight_column (λ s. keeps false (against 9 (1 ∷ []) s)) (λ e. not (is_pass_read e.1)) w w'
    (λ e ok. ap (λ (x : List ℕ). keeps false (order x (1 ∷ []))) (first_byte e) ∙ pass_read_byte e.1) ops.always g

pub of_pass_dropped : (w w' : List ℕ)
    → ((t : Table) → Sized 43 t → part 55643 1033 w ≡ enc_table 1033 t → w' ≡ placed 55643 1033 (enc_table 1033 (keep_slots (λ s. keeps true (against 9 (1 ∷ []) s)) t)) w)
    → Edits (λ s. with_in_flight (filter (λ e. not (is_of_pass e.1)) s.in_flight) s) w w'
of_pass_dropped w w' g =
    columns.retained ops.flight_column (λ s. keeps true (against 9 (1 ∷ []) s)) (λ e. not (is_of_pass e.1)) w w'
    (λ e ok. ap (λ (x : List ℕ). keeps true (order x (1 ∷ []))) (first_byte e) ∙ of_pass_byte e.1) ops.always g

-- ---- a name

abbrev four : Text → Purpose → Bool
four r p = same purpose_f (Purpose.PassRead r) p || (same purpose_f (Purpose.EditRead r) p || (same purpose_f (Purpose.EditWrite r) p || same purpose_f (Purpose.Refresh r) p))

about_is : (r : Text) (p : Purpose) → asks_about r p ≡ four r p
unfolding asks_about pass_reads edit_reads edit_writes refreshes
about_is r p = go p ∙ sym (ap₂ ◌||◌ (bridge.pass_reads_is r p) (ap₂ ◌||◌ (bridge.edit_reads_is r p) (ap₂ ◌||◌ (bridge.edit_writes_is r p) (bridge.refreshes_is r p))))
  where
    go : (p : Purpose) → asks_about r p ≡ (pass_reads r p || (edit_reads r p || (edit_writes r p || refreshes r p)))
    go Purpose.List = refl
    go (Purpose.PassRead q) = sym (or-false (same_text q r))
    go (Purpose.EditRead q) = sym (or-false (same_text q r))
    go (Purpose.EditWrite q) = sym (or-false (same_text q r))
    go (Purpose.Refresh q) = refl

-- two tests at once
any_or : (p q : Purpose → Bool) (l : List Purpose) → any (λ x. p x || q x) l ≡ (any p l || any q l)
unfolding any
any_or p q [] = refl
any_or p q (x ∷ l) = ap (λ (b : Bool). (p x || q x) || b) (any_or p q l) ∙ swap (p x) (q x) (any p l) (any q l)
  where
    swap : (a b c d : Bool) → ((a || b) || (c || d)) ≡ ((a || c) || (b || d))
    swap true b c d = refl
    swap false true true d = refl
    swap false true false d = refl
    swap false false c d = refl

abbrev pub Asks : (Text → Purpose) → Text → SyncState → Bool
Asks f r s = any (same purpose_f (f r)) (values s.in_flight)

abbrev About : Text → SyncState → Bool
About r s = any (asks_about r) (values s.in_flight)

about_four : (r : Text) (s : SyncState) → About r s ≡ (Asks Purpose.PassRead r s || (Asks Purpose.EditRead r s || (Asks Purpose.EditWrite r s || Asks Purpose.Refresh r s)))
about_four r s =
    let l : List Purpose = values s.in_flight in
    any_same (asks_about r) (four r) (about_is r) l
    ∙ any_or (same purpose_f (Purpose.PassRead r)) (λ p. same purpose_f (Purpose.EditRead r) p || (same purpose_f (Purpose.EditWrite r) p || same purpose_f (Purpose.Refresh r) p)) l
    ∙ ap (λ (b : Bool). Asks Purpose.PassRead r s || b) (any_or (same purpose_f (Purpose.EditRead r)) (λ p. same purpose_f (Purpose.EditWrite r) p || same purpose_f (Purpose.Refresh r) p) l
    ∙ ap (λ (b : Bool). Asks Purpose.EditRead r s || b) (any_or (same purpose_f (Purpose.EditWrite r)) (same purpose_f (Purpose.Refresh r)) l))

-- `||` of two reads: the second is asked where the first is false
module _ {f : SyncState → Bool} {w : List ℕ} {a v : Bool} (A : Reads f w a) where
  pub first_asks : (g : SyncState → Bool) → a ≡ true → v ≡ a → Reads (λ s. f s || g s) w v
  first_asks g x y = record { is = λ s h. y ∙ x ∙ sym (ap (λ (b : Bool). b || g s) (sym (A.is s h) ∙ x)) }

  pub second_asks : {g : SyncState → Bool} {b : Bool} → a ≡ false → Reads g w b → v ≡ b → Reads (λ s. f s || g s) w v
  second_asks {g} x B y = record { is = λ s h. y ∙ B.is s h ∙ sym (ap (λ (b : Bool). b || g s) (sym (A.is s h) ∙ x)) }

pub about_is_four : (r : Text) {w : List ℕ} {v : Bool} → Reads (λ s. ((Asks Purpose.PassRead r s || Asks Purpose.EditRead r s) || Asks Purpose.EditWrite r s) || Asks Purpose.Refresh r s) w v → Reads (About r) w v
about_is_four r R = record { is = λ s h. R.is s h ∙ regroup (Asks Purpose.PassRead r s) (Asks Purpose.EditRead r s) (Asks Purpose.EditWrite r s) (Asks Purpose.Refresh r s) ∙ sym (about_four r s) }
  where
    regroup : (a b c d : Bool) → (((a || b) || c) || d) ≡ (a || (b || (c || d)))
    regroup true b c d = refl
    regroup false true c d = refl
    regroup false false c d = refl
