-- Parts of a buffer that are a value's bytes. Assumes nothing.
use Prim.Native.Nat.{ℕ, zero, suc, ◌+◌, ◌-◌, ◌≤◌, ◌<◌}
use native.Mathlib.Omega.{arith}
use mathlib.Core.Path.{◌≡◌, refl, sym, ap, ◌∙◌, subst}
use mathlib.Core.List.{List, [], ◌∷◌}
use mathlib.Core.Bool.{Bool, true, false, ◌&&◌}
use lib.Dec.{leb, eqb}
use lib.ListN.{length, take, drop, get_or, length-append, length-drop}
use lib.Seq.{take_at}
use borrow.Author.Tests.{le-leb, lt-leb, leb-true, leb-false, eq-eqb, ne_eqb}
use Rattle.format.specs.Format.{Format, Lawful}
use Rattle.tables.specs.Table.{text}
use Rattle.model.specs.Maps.{when◌then◌else◌}
use Rattle.frame.specs.Read.{stepped, skips}
use Rattle.frame.specs.declared.Cursor.{Cursor}
use Rattle.queues.specs.Parts.{StandsAt, PartOf, EndOf, part_of}

pub part_under : (b : List ℕ) (from to : ℕ) → to < from → [] ≡ part_of b from to
unfolding when◌then◌else◌
part_under b from to l = rw (lt-leb from to l)

pub part_over : (b : List ℕ) (from to : ℕ) → from ≤ to → length b < to → [] ≡ part_of b from to
unfolding when◌then◌else◌
part_over b from to l k = rw (le-leb from to l, lt-leb to (length b) k)

pub part_in : (b : List ℕ) (from to : ℕ) → from ≤ to → to ≤ length b → take (to - from) (drop from b) ≡ part_of b from to
unfolding when◌then◌else◌
part_in b from to l k = rw (le-leb from to l, le-leb to (length b) k)

-- the place after a value that stands at one
pub after : {A : Type 0} {f : Format A} (F : Lawful f) (b : List ℕ) (at : ℕ) (v : A) (S : StandsAt f v b at) → skips f b (record { at = at; ok = true }) ≡ record { at = length b - length S.rest; ok = true }
unfolding skips
after {f = f} F b at v S = ap (stepped b) (ap f.dec S.is ∙ F.writes v S.ok S.rest)

pub part_stands : {A : Type 0} {f : Format A} (F : Lawful f) (b : List ℕ) (at end : ℕ) (part : List ℕ) → end ≡ (skips f b (record { at = at; ok = true })).at → part ≡ part_of b at end → PartOf f b at part
unfolding when◌then◌else◌
part_stands {f = f} F b at end part e q = record {
  is = λ v S.
      let n : end ≡ length b - length S.rest = e ∙ ap (λ (c : Cursor). c.at) (after F b at v S) in
      let l : length b - at ≡ length (f.enc v) + length S.rest = sym (length-drop at b) ∙ ap length S.is ∙ length-append (f.enc v) S.rest in
      q ∙ go v S n l (leb at end) refl;
}
  where
    nothing : (x : List ℕ) → length x ≡ 0 → [] ≡ x
    nothing [] e = refl
    nothing (y ∷ x) e = absurd (omega arith)

    go : (v : _) (S : StandsAt f v b at) → end ≡ length b - length S.rest → length b - at ≡ length (f.enc v) + length S.rest → (c : Bool) → leb at end ≡ c → part_of b at end ≡ f.enc v
    go v S n l true c =
        let k : at ≤ end = leb-true at end c in
        let d : end - at ≡ length (f.enc v) = omega arith in
        sym (part_in b at end k (omega arith)) ∙ ap (λ (x : List ℕ). take (end - at) x) S.is ∙ take_at (f.enc v) S.rest (end - at) (sym d)
    go v S n l false c =
        let k : end < at = leb-false at end c in
        sym (part_under b at end k) ∙ nothing (f.enc v) (omega arith)

pub both_yes : (s : List ℕ) (at : ℕ) → get_or s at 0 ≡ 0 → eqb (get_or s (at + 1) 0) 1 ≡ (eqb (get_or s at 0) 0 && eqb (get_or s (at + 1) 0) 1)
both_yes s at e = rw (eq-eqb (get_or s at 0) 0 e)

pub both_no : (s : List ℕ) (at : ℕ) → (get_or s at 0 ≡ 0 → ⊥) → false ≡ (eqb (get_or s at 0) 0 && eqb (get_or s (at + 1) 0) 1)
both_no s at e = rw (ne_eqb (get_or s at 0) 0 e)

pub take_short : (n : ℕ) (l : List ℕ) → length (take n l) ≤ length l
take_short zero l = omega arith
take_short (suc n) [] = omega arith
take_short (suc n) (x ∷ l) = let h : length (take n l) ≤ length l = take_short n l in omega arith

-- a name's text may stand in an effect
pub text_short : (b t : List ℕ) → t ≡ text b → length b ≡ 33 → length t ≤ 255
unfolding text
text_short b t e l =
    let h : length (take (get_or b 0 0) (drop 1 b)) ≤ length (drop 1 b) = take_short (get_or b 0 0) (drop 1 b) in
    let k : length (drop 1 b) ≡ length b - 1 = length-drop 1 b in
    subst (λ (x : List ℕ). length x ≤ 255) (sym e) (omega arith)

-- where a value ends
pub end_stands : {A : Type 0} {f : Format A} (F : Lawful f) (b : List ℕ) (at end : ℕ) → end ≡ (skips f b (record { at = at; ok = true })).at → EndOf f b at end
end_stands {f = f} F b at end e = record {
  is = λ k v S.
      let n : end ≡ length b - length S.rest = e ∙ ap (λ (c : Cursor). c.at) (after F b at v S) in
      let l : length b - at ≡ length (f.enc v) + length S.rest = sym (length-drop at b) ∙ ap length S.is ∙ length-append (f.enc v) S.rest in
      omega arith;
}
