-- Lists cut in three, and a part of a buffer put in its place. Assumes nothing.
use Rattle.std.specs.Prelude.{Option, Some, None}
use Rattle.format.proofs.Options.{Some-injective, None-ne-Some}
use Prim.Native.Nat.{ℕ, zero, suc, ◌+◌, ◌-◌, ◌≤◌, ◌<◌}
use native.Mathlib.Nat.{zero-add, suc-add, add-suc, not-suc-le-zero, le_of_suc-le-suc}
use native.Mathlib.Omega.{arith}
use mathlib.Core.Path.{◌≡◌, refl, sym, ap, ap₂, ◌∙◌, subst}
use mathlib.Core.List.{List, [], ◌∷◌, ◌++◌, append_assoc}
use lib.ListN.{length, take, drop, get_or, set, length-append, length-drop, take-append-drop, get_or-append}
use lib.Seq.{length-take-le, take_at, drop_at, take-append-le, drop-append-le, take-append-add, drop-append-add, set-append_left, get_or-append-add, take-add, drop-drop, take-take}
use Rattle.format.specs.Format.{All}
use Rattle.model.specs.State.{Pending, Queue}
use Rattle.model.specs.Maps.{map}
use Rattle.model.specs.Machine.{match◌none:◌some:◌}
use Rattle.model.specs.Sync.{back, without_back}
use Rattle.model.proofs.Fitting.{map-append}
use Rattle.lent.specs.Lent.{part, placed}
use Rattle.waiting.specs.Queues.{nth, without, change_at, change_last}
use Rattle.tables.proofs.Laws.{drop_take}

-- ---- a list in three parts

module _ {A : Type 0} (pre mid post : List A) (j : ℕ) where
  pub out_of : j < length mid → take (length pre + j) (pre ++ (mid ++ post)) ++ drop (suc (length pre + j)) (pre ++ (mid ++ post)) ≡ pre ++ ((take j mid ++ drop (suc j) mid) ++ post)
  out_of h =
      let e : suc (length pre + j) ≡ length pre + suc j = sym (add-suc (length pre) j) in
      let t : take (length pre + j) (pre ++ (mid ++ post)) ≡ pre ++ take j mid = take-append-add pre (mid ++ post) j ∙ ap (λ (x : List A). pre ++ x) (take-append-le j mid post (omega arith)) in
      let d : drop (suc (length pre + j)) (pre ++ (mid ++ post)) ≡ drop (suc j) mid ++ post = ap (λ (n : ℕ). drop n (pre ++ (mid ++ post))) e ∙ drop-append-add pre (mid ++ post) (suc j) ∙ drop-append-le (suc j) mid post h in
      ap₂ (λ (x y : List A). x ++ y) t d ∙ append_assoc pre (take j mid) (drop (suc j) mid ++ post) ∙ ap (λ (x : List A). pre ++ x) (sym (append_assoc (take j mid) (drop (suc j) mid) post))

  pub set_in : (x : A) → j < length mid → set (pre ++ (mid ++ post)) (length pre + j) x ≡ pre ++ (set mid j x ++ post)
  set_in x h = go pre
    where
      go : (l : List A) → set (l ++ (mid ++ post)) (length l + j) x ≡ l ++ (set mid j x ++ post)
      go [] = ap (λ (n : ℕ). set (mid ++ post) n x) (zero-add j) ∙ set-append_left mid post j x h
      go (a ∷ l) = ap (λ (n : ℕ). set (a ∷ (l ++ (mid ++ post))) n x) (suc-add (length l) j) ∙ ap (λ (y : List A). a ∷ y) (go l)

  pub at_mid : (d : A) → j < length mid → get_or (pre ++ (mid ++ post)) (length pre + j) d ≡ get_or mid j d
  at_mid d h = get_or-append-add pre (mid ++ post) j d ∙ get_or-append mid post d j h

module _ {A : Type 0} (pre mid post : List A) (x : A) where
  pub behind : take (length pre + length mid) (pre ++ (mid ++ post)) ++ (x ∷ drop (length pre + length mid) (pre ++ (mid ++ post))) ≡ pre ++ ((mid ++ (x ∷ [])) ++ post)
  behind =
      let t : take (length pre + length mid) (pre ++ (mid ++ post)) ≡ pre ++ mid = take-append-add pre (mid ++ post) (length mid) ∙ ap (λ (y : List A). pre ++ y) (take_at mid post (length mid) refl) in
      let d : drop (length pre + length mid) (pre ++ (mid ++ post)) ≡ post = drop-append-add pre (mid ++ post) (length mid) ∙ drop_at mid post (length mid) refl in
      ap₂ (λ (y z : List A). y ++ (x ∷ z)) t d ∙ append_assoc pre mid (x ∷ post) ∙ ap (λ (y : List A). pre ++ y) (sym (append_assoc mid (x ∷ []) post))

-- ---- maps of lists

module _ {A B : Type 0} (f : A → B) where
  pub map_take : (n : ℕ) (l : List A) → map f (take n l) ≡ take n (map f l)
  unfolding map
  map_take zero l = refl
  map_take (suc n) [] = refl
  map_take (suc n) (a ∷ l) = ap (λ (x : List B). f a ∷ x) (map_take n l)

  pub map_drop : (n : ℕ) (l : List A) → map f (drop n l) ≡ drop n (map f l)
  unfolding map
  map_drop zero l = refl
  map_drop (suc n) [] = refl
  map_drop (suc n) (a ∷ l) = map_drop n l

-- ---- queues

some_of : {A : Type 0} {a b : A} → Some a ≡ Some b → a ≡ b
some_of {a = a} {b} e = Some-injective a b e

pub nth_some : (j : ℕ) (q : Queue) → j < length q → (p : Pending) × (nth j q ≡ Some p)
unfolding nth
nth_some j [] h = absurd (not-suc-le-zero h)
nth_some zero (p ∷ q) h = (p, refl)
nth_some (suc j) (p ∷ q) h = nth_some j q (le_of_suc-le-suc h)

pub nth_none : (j : ℕ) (q : Queue) → length q ≤ j → nth j q ≡ None
unfolding nth
nth_none j [] h = refl
nth_none zero (p ∷ q) h = absurd (not-suc-le-zero h)
nth_none (suc j) (p ∷ q) h = nth_none j q (le_of_suc-le-suc h)

pub nth_below : (j : ℕ) (q : Queue) (p : Pending) → nth j q ≡ Some p → j < length q
unfolding nth
nth_below j [] p e = absurd (None-ne-Some p e)
nth_below zero (x ∷ q) p e = omega arith
nth_below (suc j) (x ∷ q) p e = let h : j < length q = nth_below j q p e in omega arith

pub map_without : (f : Pending → List ℕ) (j : ℕ) (q : Queue) → map f (without j q) ≡ take j (map f q) ++ drop (suc j) (map f q)
unfolding without
map_without f j q = map-append f (take j q) (drop (suc j) q) ∙ ap₂ (λ (x y : List (List ℕ)). x ++ y) (map_take f j q) (map_drop f (suc j) q)

pub nth_row : (f : Pending → List ℕ) (j : ℕ) (q : Queue) (p : Pending) → nth j q ≡ Some p → get_or (map f q) j [] ≡ f p
unfolding nth map
nth_row f j [] p e = absurd (None-ne-Some p e)
nth_row f zero (x ∷ q) p e = ap f (some_of e)
nth_row f (suc j) (x ∷ q) p e = nth_row f j q p e

pub map_change : (f : Pending → List ℕ) (g : Pending → Pending) (j : ℕ) (q : Queue) (p : Pending) → nth j q ≡ Some p → map f (change_at j g q) ≡ set (map f q) j (f (g p))
unfolding nth map change_at
map_change f g j [] p e = absurd (None-ne-Some p e)
map_change f g zero (x ∷ q) p e = ap (λ (y : Pending). f (g y) ∷ map f q) (some_of e)
map_change f g (suc j) (x ∷ q) p e = ap (λ (y : List (List ℕ)). f x ∷ y) (map_change f g j q p e)

-- ---- a part of a buffer

pub placed_self : (at len : ℕ) (w : List ℕ) → placed at len (part at len w) w ≡ w
placed_self at len w = ap (λ (x : List ℕ). take at w ++ x) (take-append-drop len (drop at w)) ∙ take-append-drop at w

drop_placed : (at len : ℕ) (q w : List ℕ) → at ≤ length w → drop at (placed at len q w) ≡ q ++ drop len (drop at w)
drop_placed at len q w h = drop_at (take at w) (q ++ drop len (drop at w)) at (length-take-le at w h)

pub part_placed : (at len : ℕ) (q w : List ℕ) → at ≤ length w → length q ≡ len → part at len (placed at len q w) ≡ q
part_placed at len q w h k = ap (take len) (drop_placed at len q w h) ∙ take_at q (drop len (drop at w)) len k

pub placed_placed : (at len : ℕ) (q y w : List ℕ) → at ≤ length w → length q ≡ len → placed at len y (placed at len q w) ≡ placed at len y w
placed_placed at len q y w h k =
    ap₂ (λ (a b : List ℕ). a ++ (y ++ b)) (take_at (take at w) (q ++ drop len (drop at w)) at (length-take-le at w h))
    (ap (drop len) (drop_placed at len q w h) ∙ drop_at q (drop len (drop at w)) len k)

pub length_placed : (at len : ℕ) (q w : List ℕ) → at + len ≤ length w → length q ≡ len → length (placed at len q w) ≡ length w
length_placed at len q w h k =
    let a : length (placed at len q w) ≡ length (take at w) + length (q ++ drop len (drop at w)) = length-append (take at w) (q ++ drop len (drop at w)) in
    let b : length (q ++ drop len (drop at w)) ≡ length q + length (drop len (drop at w)) = length-append q (drop len (drop at w)) in
    let c : length (take at w) ≡ at = length-take-le at w (omega arith) in
    let d : length (drop len (drop at w)) ≡ length (drop at w) - len = length-drop len (drop at w) in
    let e : length (drop at w) ≡ length w - at = length-drop at w in
    omega arith

-- a part of a part
pub placed_in : (at len o n : ℕ) (y w : List ℕ) → o + n ≤ len → at + len ≤ length w → placed (at + o) n y w ≡ placed at len (placed o n y (part at len w)) w
placed_in at len o n y w h k =
    let x : List ℕ = drop at w in
    let l : length x ≡ length w - at = length-drop at w in
    let e : len ≡ o + (len - o) = omega arith in
    let t : take o (take len x) ≡ take o x = take-take o len x (omega arith) in
    let d : drop o (take len x) ≡ take (len - o) (drop o x) = ap (λ (m : ℕ). drop o (take m x)) e ∙ drop_take o (len - o) x in
    let f : len - o ≡ n + (len - o - n) = omega arith in
    let g : drop n (take (len - o) (drop o x)) ≡ take (len - o - n) (drop n (drop o x)) = ap (λ (m : ℕ). drop n (take m (drop o x))) f ∙ drop_take n (len - o - n) (drop o x) in
    let m : len ≡ o + n + (len - o - n) = omega arith in
    let i : drop len x ≡ drop (len - o - n) (drop n (drop o x)) =
    ap (λ (k : ℕ). drop k x) m ∙ sym (drop-drop (len - o - n) (o + n) x) ∙ ap (drop (len - o - n)) (sym (drop-drop n o x)) in
    let z : List ℕ = drop n (drop o x) in
    let r : take (len - o - n) z ++ drop len x ≡ z = ap (λ (b : List ℕ). take (len - o - n) z ++ b) i ∙ take-append-drop (len - o - n) z in
    let u : placed o n y (take len x) ≡ take o x ++ (y ++ take (len - o - n) z) = ap₂ (λ (a b : List ℕ). a ++ (y ++ b)) t (ap (drop n) d ∙ g) in
    let v : take (at + o) w ≡ take at w ++ take o x = take-add at o w in
    let q : drop n (drop (at + o) w) ≡ z = ap (drop n) (sym (drop-drop o at w)) in
    ap₂ (λ (a b : List ℕ). a ++ (y ++ b)) v q
    ∙ append_assoc (take at w) (take o x) (y ++ z)
    ∙ ap (λ (b : List ℕ). take at w ++ b) (
    ap (λ (b : List ℕ). take o x ++ (y ++ b)) (sym r)
    ∙ ap (λ (b : List ℕ). take o x ++ b) (sym (append_assoc y (take (len - o - n) z) (drop len x)))
    ∙ sym (append_assoc (take o x) (y ++ take (len - o - n) z) (drop len x)))
    ∙ ap (λ (b : List ℕ). take at w ++ (b ++ drop len x)) (sym u)

pub nth_all : (P : Pending → Type 0) (j : ℕ) (q : Queue) (p : Pending) → All P q → nth j q ≡ Some p → P p
unfolding nth
nth_all P j [] p a e = absurd (None-ne-Some p e)
nth_all P zero (x ∷ q) p a e = subst P (some_of e) a.0
nth_all P (suc j) (x ∷ q) p a e = nth_all P j q p a.1 e

-- ---- the newest entry

pub nth_back : (q : Queue) → nth (length q - 1) q ≡ back q
unfolding nth back
nth_back [] = refl
nth_back (p ∷ []) = refl
nth_back (p ∷ (x ∷ q)) =
    let e : suc (suc (length q)) - 1 ≡ suc (length (x ∷ q) - 1) = omega arith in
    ap (λ (n : ℕ). nth n (p ∷ (x ∷ q))) e ∙ nth_back (x ∷ q)

change_back : (f : Pending → Pending) (q : Queue) (p : Pending) → back q ≡ Some p → change_at (length q - 1) f q ≡ without_back q ++ (f p ∷ [])
unfolding back without_back change_at
change_back f [] p e = absurd (None-ne-Some p e)
change_back f (x ∷ []) p e = ap (λ (y : Pending). f y ∷ []) (some_of e)
change_back f (x ∷ (y ∷ q)) p e =
    let n : suc (suc (length q)) - 1 ≡ suc (length (y ∷ q) - 1) = omega arith in
    ap (λ (k : ℕ). change_at k f (x ∷ (y ∷ q))) n ∙ ap (λ (z : Queue). x ∷ z) (change_back f (y ∷ q) p e)

no_change : (f : Pending → Pending) (q : Queue) → back q ≡ None → change_at (length q - 1) f q ≡ q
unfolding back change_at
no_change f [] e = refl
no_change f (x ∷ []) e = absurd (None-ne-Some x (sym e))
no_change f (x ∷ (y ∷ q)) e =
    let n : suc (suc (length q)) - 1 ≡ suc (length (y ∷ q) - 1) = omega arith in
    ap (λ (k : ℕ). change_at k f (x ∷ (y ∷ q))) n ∙ ap (λ (z : Queue). x ∷ z) (no_change f (y ∷ q) e)

pub change_last_is : (f : Pending → Pending) (q : Queue) → change_at (length q - 1) f q ≡ change_last f q
unfolding change_last match◌none:◌some:◌
change_last_is f q = go (back q) refl
  where
    go : (o : Option Pending) → back q ≡ o → change_at (length q - 1) f q ≡ (match o none: q some: (λ p. without_back q ++ (f p ∷ [])))
    go None e = no_change f q e
    go (Some p) e = change_back f q p e

-- an empty queue has no newest entry
pub back_none : (q : Queue) → length q ≡ 0 → back q ≡ None
unfolding back
back_none [] e = refl
back_none (p ∷ q) e = absurd (omega arith)
