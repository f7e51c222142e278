-- The cursor and the header of the open pass: each law's premises are what the callees ensure. Assumes nothing.
use Rattle.std.specs.Prelude.{Option, Some, None, Bool, eqb, set, min}
use Rattle.std.proofs.lemmas.List.{drop-take, length-take}
use Prim.Native.Nat.{ℕ, suc, ◌+◌, ◌-◌, ◌≤◌, ◌<◌}
use native.Mathlib.Omega.{arith}
use mathlib.Core.Path.{◌≡◌, refl, sym, ap, ap₂, ◌∙◌, subst}
use mathlib.Core.List.{List, [], ◌∷◌, ◌++◌, append_assoc}
use mathlib.Core.Bool.{true, not}
use lib.ListN.{length, take, drop, get_or, length-append, length-replicate, length-set, replicate-append-replicate}
use mir.Val.{bool_byte}
use lib.Seq.{paste, set_at, take_at, drop_at, drop-append-add, drop-drop, get_or-take, get_or-drop}
use Rattle.format.specs.Format.{option, bool_from, via, enum, ◌∣◌, nothing}
use Rattle.format.specs.Format.{text as text-format}
use Rattle.spans.specs.Bytes.{zeros}
use Rattle.tables.proofs.Laws as tables
use Rattle.lent.specs.Lent.{placed}
use Rattle.model.specs.Event.{Text}
use Rattle.model.specs.Seam.{Cursor, ListFrom}
use Rattle.model.specs.State.{SyncState}
use Rattle.model.specs.Limits.{max_text}
use Rattle.model.specs.Maps.{is_some}
use Rattle.model.specs.Machine.{with_from, with_done}
use Rattle.model.specs.Sync.{new_pass}
use Rattle.model.specs.Formats.{short_text, list_from_f}
use Rattle.state.specs.Layout.{padded, field, pass_of}
use Rattle.state.specs.Setters.{with_cursor, with_pass, pass_changed}
use Rattle.state.specs.Contract.{Keeps, HasState, Reads, Edits}
use Rattle.state.proofs.Widths.{cursor_within, from_within}
use Rattle.state.proofs.Padded.{length_field}
use Rattle.state.proofs.Parts as parts
use Rattle.state.proofs.Fresh.{no_pass_fits}
use Rattle.pass_tables.proofs.Laws as pass
use Rattle.pass_header.proofs.Regions as regions

-- y over the x that stands behind a
over : (n : ℕ) (a x b y w w' : List ℕ) → w ≡ a ++ (x ++ b) → length a ≡ n → length x ≡ length y → w' ≡ take n w ++ (y ++ drop (n + length y) w) → w' ≡ a ++ (y ++ b)
over n a x b y w w' e l k p =
    let t : take n w ≡ a = ap (take n) e ∙ take_at a (x ++ b) n l in
    let d : drop (n + length y) w ≡ b =
    ap₂ (λ (i : ℕ) (z : List ℕ). drop (i + length y) z) (sym l) e ∙ drop-append-add a (x ++ b) (length y) ∙ drop_at x b (length y) k in
    p ∙ ap₂ (λ (u v : List ℕ). u ++ (y ++ v)) t d

-- ---- texts

-- the text of a field
text_in : (w : List ℕ) (at k : ℕ) (t : Text) (z : List ℕ) → take 34 (drop at w) ≡ k ∷ (length t ∷ (t ++ z)) → length t ≤ 32 → take (get_or w (at + 1) 0) (drop (at + 2) w) ≡ t
text_in w at k t z e l =
    let n : get_or w (at + 1) 0 ≡ length t = sym (get_or-drop at w 1 0) ∙ sym (get_or-take 34 (drop at w) 1 0 (omega arith)) ∙ ap (λ (x : List ℕ). get_or x 1 0) e in
    ap (λ (j : ℕ). take j (drop (at + 2) w)) n ∙ tables.field_of w 34 at 2 (length t) (omega arith) ∙ ap (λ (x : List ℕ). take (length t) (drop 2 x)) e ∙ take_at t z (length t) refl

length_in : (w : List ℕ) (at k m : ℕ) (z : List ℕ) → take 34 (drop at w) ≡ k ∷ (m ∷ z) → m ≤ 32 → get_or w (at + 1) 0 ≤ 32
length_in w at k m z e l =
    subst (λ (x : ℕ). x ≤ 32) (sym (sym (get_or-drop at w 1 0) ∙ sym (get_or-take 34 (drop at w) 1 0 (omega arith)) ∙ ap (λ (x : List ℕ). get_or x 1 0) e)) l

first_in : (w x : List ℕ) (at : ℕ) → take 34 (drop at w) ≡ x → get_or w at 0 ≡ get_or x 0 0
first_in w x at e =
    let n : at ≡ at + 0 = omega arith in
    ap (λ (j : ℕ). get_or w j 0) n ∙ sym (get_or-drop at w 0 0) ∙ sym (get_or-take 34 (drop at w) 0 0 (omega arith)) ∙ ap (λ (y : List ℕ). get_or y 0 0) e

-- ---- a cursor that may be missing

cursor_first : (c : Option Cursor) → not (eqb (get_or (field 34 (option short_text) c) 0 0) 0) ≡ is_some c
unfolding is_some option via enum ◌∣◌ nothing padded
cursor_first None = refl
cursor_first (Some c) = refl

pub done_read : (w : List ℕ) → Reads (λ s. is_some (pass_of s.pass).done) w (not (eqb (get_or w 19968 0) 0))
done_read w = record { is = λ s h. ap (λ (n : ℕ). not (eqb n 0)) (first_in w _ 19968 (parts.done_part s w h)) ∙ cursor_first (pass_of s.pass).done }

put_in : (at : ℕ) (q w w' : List ℕ) → length q ≡ 34 → w' ≡ take at w ++ (q ++ drop (at + length q) w) → w' ≡ placed at 34 q w
put_in at q w w' l e = e ∙ ap (λ (x : List ℕ). take at w ++ (q ++ x)) (ap (λ (n : ℕ). drop (at + n) w) l ∙ sym (drop-drop 34 at w))

-- n bytes zeroed, where x is what stood there
pub zeroed : (at n : ℕ) (w x q : List ℕ) → length x ≡ n → q ≡ zeros (length x) → take at w ++ (q ++ drop n (drop at w)) ≡ placed at n (zeros n) w
zeroed at n w x q l e = ap (λ (y : List ℕ). placed at n y w) (e ∙ ap zeros l)

pub cursor_cleared : (w w' : List ℕ) → w' ≡ placed 9151 34 (zeros 34) w → Edits (with_cursor None) w w'
unfolding option via enum ◌∣◌ nothing padded
cursor_cleared w w' e = record { makes = λ s h. subst (Keeps (with_cursor None s)) (sym e) (parts.cursor_put s w None h tt) }

-- 34 bytes copied within the buffer
pub pasted : (w : List ℕ) (at from : ℕ) → paste w at (drop from w) 34 ≡ placed at 34 (take 34 (drop from w)) w
pasted w at from = append_assoc (take at w) (take 34 (drop from w)) (drop (at + 34) w) ∙ ap (λ (x : List ℕ). take at w ++ (take 34 (drop from w) ++ x)) (sym (drop-drop 34 at w))

pub cursor_taken : (w w' : List ℕ) → w' ≡ paste w 9151 (drop 19968 w) 34 → Edits (λ s. with_cursor (pass_of s.pass).done s) w w'
cursor_taken w w' p = record {
  makes = λ s h.
      let c : Option Cursor = (pass_of s.pass).done in
      subst (Keeps (with_cursor c s)) (sym (p ∙ pasted w 9151 19968 ∙ ap (λ (x : List ℕ). placed 9151 34 x w) (parts.done_part s w h))) (parts.cursor_put s w c h h.fits.pass.done);
}

-- ---- closed and opened

pub pass_closed : (w w' : List ℕ) → w' ≡ placed 9185 10817 (zeros 10817) w → Edits (with_pass None) w w'
pass_closed w w' e = record {
  makes = λ s h. subst (Keeps (with_pass None s)) (sym (e ∙ ap (λ (x : List ℕ). placed 9185 10817 x w) (sym regions.no_pass_bytes))) (regions.pass_put s w None h no_pass_fits);
}

full_is : (c : Option Cursor) → bool_byte (eqb (get_or (field 34 (option short_text) c) 0 0) 0) ≡ bool_from (not (is_some c))
unfolding is_some option via enum ◌∣◌ nothing padded
full_is None = refl
full_is (Some c) = refl

-- the two marks over zeros
marked : (a r w2 : List ℕ) (full : ℕ) → length a ≡ 9185 → w2 ≡ a ++ (0 ∷ 0 ∷ r) → set (set w2 9185 1) 9186 full ≡ a ++ (1 ∷ full ∷ r)
marked a r w2 full l e =
    let n : length (a ++ (1 ∷ [])) ≡ 9186 = length-append a (1 ∷ []) ∙ ap (λ (m : ℕ). m + 1) l in
    let f : set w2 9185 1 ≡ (a ++ (1 ∷ [])) ++ (0 ∷ r) = ap (λ (x : List ℕ). set x 9185 1) e ∙ set_at a 0 (0 ∷ r) 1 9185 l ∙ sym (append_assoc a (1 ∷ []) (0 ∷ r)) in
    ap (λ (x : List ℕ). set x 9186 full) f ∙ set_at (a ++ (1 ∷ [])) 0 r full 9186 n ∙ append_assoc a (1 ∷ []) (full ∷ r)

-- a pass's regions zeroed, the cursor copied to where its listing goes on from, and its two marks set
written : (w w1 w2 : List ℕ) (full : ℕ) → length w ≡ 58543 → w1 ≡ placed 9185 10817 (zeros 10817) w → w2 ≡ paste w1 9187 (drop 9151 w1) 34
    → set (set w2 9185 1) 9186 full ≡ placed 9185 10817 ((1 ∷ full ∷ []) ++ (take 34 (drop 9151 w) ++ zeros 10781)) w
written w w1 w2 full l e1 e2 =
    let a : List ℕ = take 9185 w in
    let b : List ℕ = drop 10817 (drop 9185 w) in
    let q : List ℕ = take 34 (drop 9151 w) in
    let la : length a ≡ 9185 = tables.part_length w 0 9185 (omega arith) in
    let lq : length q ≡ 34 = tables.part_length w 9151 34 (omega arith) in
    let z : zeros 10817 ≡ zeros 2 ++ (zeros 34 ++ zeros 10781) = sym (ap (λ (x : List ℕ). zeros 2 ++ x) (replicate-append-replicate 34 10781 0) ∙ replicate-append-replicate 2 10815 0) in
    let c1 : w1 ≡ (a ++ zeros 2) ++ (zeros 34 ++ (zeros 10781 ++ b)) =
    e1 ∙ ap (λ (x : List ℕ). a ++ (x ++ b)) z ∙ ap (λ (x : List ℕ). a ++ x) (append_assoc (zeros 2) (zeros 34 ++ zeros 10781) b) ∙ ap (λ (x : List ℕ). a ++ (zeros 2 ++ x)) (append_assoc (zeros 34) (zeros 10781) b)
    ∙ sym (append_assoc a (zeros 2) (zeros 34 ++ (zeros 10781 ++ b))) in
    let l2 : length (a ++ zeros 2) ≡ 9187 = length-append a (zeros 2) ∙ ap (λ (n : ℕ). n + 2) la in
    -- the cursor stands before what was zeroed
    let k : take 34 (drop 9151 w1) ≡ q = sym (drop-take 9151 34 w1) ∙ ap (drop 9151) (ap (take 9185) e1 ∙ take_at a (zeros 10817 ++ b) 9185 la) ∙ drop-take 9151 34 w in
    let d : w2 ≡ take 9187 w1 ++ (q ++ drop (9187 + length q) w1) =
    e2 ∙ append_assoc (take 9187 w1) (take 34 (drop 9151 w1)) (drop (9187 + 34) w1) ∙ ap₂ (λ (x : List ℕ) (n : ℕ). take 9187 w1 ++ (x ++ drop (9187 + n) w1)) k (sym lq) in
    let c2 : w2 ≡ (a ++ zeros 2) ++ (q ++ (zeros 10781 ++ b)) = over 9187 (a ++ zeros 2) (zeros 34) (zeros 10781 ++ b) q w1 w2 c1 l2 (sym lq) d in
    marked a (q ++ (zeros 10781 ++ b)) w2 full la (c2 ∙ append_assoc a (zeros 2) (q ++ (zeros 10781 ++ b)))
    ∙ ap (λ (x : List ℕ). a ++ (1 ∷ full ∷ x)) (sym (append_assoc q (zeros 10781) b))

pub full_inside : (w w1 w2 : List ℕ) (mark : ℕ) → length w ≡ 58543 → w1 ≡ placed 9185 10817 (zeros 10817) w → length w2 ≡ length w1 → 9186 < length (set w2 9185 mark)
full_inside w w1 w2 mark l e k =
    let a : length (take 9185 w) ≡ 9185 = tables.part_length w 0 9185 (omega arith) in
    let b : length (take 9185 w ++ (zeros 10817 ++ drop 10817 (drop 9185 w))) ≡ length (take 9185 w) + length (zeros 10817 ++ drop 10817 (drop 9185 w)) = length-append (take 9185 w) (zeros 10817 ++ drop 10817 (drop 9185 w)) in
    let d : length (zeros 10817 ++ drop 10817 (drop 9185 w)) ≡ 10817 + length (drop 10817 (drop 9185 w)) = length-append (zeros 10817) (drop 10817 (drop 9185 w)) ∙ ap (λ (n : ℕ). n + length (drop 10817 (drop 9185 w))) (length-replicate {A = ℕ} 10817 0) in
    let f : length w1 ≡ length (take 9185 w ++ (zeros 10817 ++ drop 10817 (drop 9185 w))) = ap length e in
    omega (arith, length-set {A = ℕ} w2 9185 mark)

pub pass_opened : (w w1 w2 : List ℕ) (full : ℕ) → full ≡ bool_byte (eqb (get_or w 9151 0) 0) → w1 ≡ placed 9185 10817 (zeros 10817) w → w2 ≡ paste w1 9187 (drop 9151 w1) 34
    → Edits (λ s. with_pass (Some (new_pass s.cursor)) s) w (set (set w2 9185 1) 9186 full)
pass_opened w w1 w2 full f e1 e2 = record {
  makes = λ s h.
      let c : Option Cursor = s.cursor in
      let d : take 34 (drop 9151 w) ≡ field 34 (option short_text) c = parts.cursor_part s w h in
      let n : full ≡ bool_from (not (is_some c)) = f ∙ ap (λ (x : ℕ). bool_byte (eqb x 0)) (first_in w _ 9151 d) ∙ full_is c in
      subst (Keeps (with_pass (Some (new_pass c)) s))
      (sym (written w w1 w2 full h.long e1 e2
      ∙ ap₂ (λ (x : ℕ) (y : List ℕ). placed 9185 10817 ((1 ∷ x ∷ []) ++ (y ++ zeros 10781)) w) n d ∙ ap (λ (x : List ℕ). placed 9185 10817 x w) (sym (regions.new_pass_bytes c))))
      (regions.pass_put s w (Some (new_pass c)) h (regions.new_pass_fits c h.fits.cursor));
}

-- ---- from and done

pub short_long : (t : Text) → short_text.Ok t → length t ≤ 32
unfolding text-format max_text
short_long t ok = ok.0

pub from_set : (t q w w' : List ℕ) {r : Bool} → short_text.Ok t → pass.IsOpen w r → r ≡ true → q ≡ padded 34 (2 ∷ (length t ∷ t)) → w' ≡ take 9187 w ++ (q ++ drop (9187 + length q) w)
    → Edits (pass_changed (with_from (ListFrom.Continue t))) w w'
unfolding list_from_f via enum ◌∣◌ text-format
from_set t q w w' ok O z e p = record {
  makes = λ s h.
      let o = pass.opened s w h O z in
      let l : length q ≡ 34 = ap length e ∙ length_field from_within (ListFrom.Continue t) ok in
      subst (λ (x : SyncState). Keeps x w') (pass.pass_some (with_from (ListFrom.Continue t)) s o.pass o.is)
      (subst (Keeps (with_pass (Some (with_from (ListFrom.Continue t) o.pass)) s)) (sym (put_in 9187 q w w' l p ∙ ap (λ (x : List ℕ). placed 9187 34 x w) e)) (parts.from_put s w o.pass (ListFrom.Continue t) o.is h ok));
}

pub done_set : (t q w w' : List ℕ) {r : Bool} → short_text.Ok t → pass.IsOpen w r → r ≡ true → q ≡ padded 34 (1 ∷ (length t ∷ t)) → w' ≡ take 19968 w ++ (q ++ drop (19968 + length q) w)
    → Edits (pass_changed (with_done (Some t))) w w'
unfolding option via enum ◌∣◌ text-format
done_set t q w w' ok O z e p = record {
  makes = λ s h.
      let o = pass.opened s w h O z in
      let l : length q ≡ 34 = ap length e ∙ length_field cursor_within (Some t) ok in
      subst (λ (x : SyncState). Keeps x w') (pass.pass_some (with_done (Some t)) s o.pass o.is)
      (subst (Keeps (with_pass (Some (with_done (Some t) o.pass)) s)) (sym (put_in 19968 q w w' l p ∙ ap (λ (x : List ℕ). placed 19968 34 x w) e)) (parts.done_put s w o.pass (Some t) o.is h ok));
}

-- where a listing goes on from

from_first : (x : ListFrom) → get_or (field 34 list_from_f x) 0 0 ≡ get_or (list_from_f.enc x) 0 0
unfolding list_from_f via enum ◌∣◌ nothing padded
from_first ListFrom.Start = refl
from_first (ListFrom.Since c) = refl
from_first (ListFrom.Continue c) = refl

-- the cursor: empty for a listing from the start
abbrev cursor_of : ListFrom → Text
cursor_of ListFrom.Start = []
cursor_of (ListFrom.Since cursor) = cursor
cursor_of (ListFrom.Continue cursor) = cursor

from_text_in : (w : List ℕ) (x : ListFrom) → list_from_f.Ok x → take 34 (drop 9187 w) ≡ field 34 list_from_f x
    → (take (get_or w (9187 + 1) 0) (drop (9187 + 2) w) ≡ cursor_of x) × (get_or w (9187 + 1) 0 ≤ 32)
unfolding list_from_f via enum ◌∣◌ nothing padded text-format max_text
from_text_in w ListFrom.Start ok e = (text_in w 9187 0 [] (zeros 32) e (omega arith), length_in w 9187 0 0 (zeros 32) e (omega arith))
from_text_in w (ListFrom.Since c) ok e = (text_in w 9187 1 c (zeros (34 - suc (suc (length c)))) e ok.0, length_in w 9187 1 (length c) (c ++ zeros (34 - suc (suc (length c)))) e ok.0)
from_text_in w (ListFrom.Continue c) ok e = (text_in w 9187 2 c (zeros (34 - suc (suc (length c)))) e ok.0, length_in w 9187 2 (length c) (c ++ zeros (34 - suc (suc (length c)))) e ok.0)

pub from_short : (w : List ℕ) → HasState w → get_or w (9187 + 1) 0 ≤ 32
from_short w K = (from_text_in w (pass_of K.state.pass).from K.keeps.fits.pass.from (parts.from_part K.state w K.keeps)).1

-- what stands there, by its first byte and its text
case_of : ℕ → Text → ListFrom → Type 0
case_of n t x = (n ≡ 0 → ListFrom.Start ≡ x) × (n ≡ 1 → ListFrom.Since t ≡ x) × ((n ≡ 0 → ⊥) → (n ≡ 1 → ⊥) → ListFrom.Continue t ≡ x)

cases : (n : ℕ) (t : Text) (x : ListFrom) → n ≡ get_or (list_from_f.enc x) 0 0 → t ≡ cursor_of x → case_of n t x
unfolding list_from_f via enum ◌∣◌ nothing case_of
cases n t ListFrom.Start e q = (λ z. refl, λ z. absurd (omega arith), λ y z. absurd (y e))
cases n t (ListFrom.Since c) e q = (λ z. absurd (omega arith), λ z. ap ListFrom.Since q, λ y z. absurd (z e))
cases n t (ListFrom.Continue c) e q = (λ z. absurd (omega arith), λ z. absurd (omega arith), λ y z. ap ListFrom.Continue q)

module _ (w t : List ℕ) (e : t ≡ take (get_or w (9187 + 1) 0) (drop (9187 + 2) w)) where
  here : (s : SyncState) → Keeps s w → case_of (get_or w 9187 0) t (pass_of s.pass).from
  here s h =
      let x : ListFrom = (pass_of s.pass).from in
      let p = parts.from_part s w h in
      cases (get_or w 9187 0) t x (first_in w _ 9187 p ∙ from_first x) (e ∙ (from_text_in w x h.fits.pass.from p).0)

  pub from_since : get_or w 9187 0 ≡ 1 → Reads (λ s. (pass_of s.pass).from) w (ListFrom.Since t)
  unfolding case_of
  from_since z = record { is = λ s h. (here s h).1 z }

  pub from_continue : (get_or w 9187 0 ≡ 0 → ⊥) → (get_or w 9187 0 ≡ 1 → ⊥) → Reads (λ s. (pass_of s.pass).from) w (ListFrom.Continue t)
  unfolding case_of
  from_continue y z = record { is = λ s h. (here s h).2 y z }

pub from_start : (w : List ℕ) → get_or w 9187 0 ≡ 0 → Reads (λ s. (pass_of s.pass).from) w ListFrom.Start
unfolding case_of
from_start w z = record { is = λ s h. (here w _ refl s h).0 z }

pub text_short : (w t : List ℕ) → HasState w → t ≡ take (get_or w (9187 + 1) 0) (drop (9187 + 2) w) → length t ≤ 32
text_short w t K e =
    let m = from_short w K in
    let q : length t ≡ min (get_or w (9187 + 1) 0) (length (drop (9187 + 2) w)) = ap length e ∙ length-take (get_or w (9187 + 1) 0) (drop (9187 + 2) w) in
    omega arith
