-- A list is shown entry by entry, and its count before it at the end. Assumes nothing.
use Rattle.std.specs.Prelude.{Option, Some, None}
use Rattle.format.proofs.Options.{None-ne-Some, Some-injective}
use Prim.Native.Nat.{ℕ, zero, suc, ◌+◌, ◌≤◌, ◌<◌}
use native.Mathlib.Omega.{arith}
use mathlib.Core.Path.{◌≡◌, refl, sym, ap, ap₂, ◌∙◌, subst}
use mathlib.Core.List.{List, [], ◌∷◌, ◌++◌, append-nil, append_assoc}
use lib.ListN.{length, take, drop, length-append}
use lib.Seq.{drop_at, take-append-le, take-take, length-take-le}
use Rattle.format.specs.Format.{All, concat_map}
use Rattle.lines.specs.Lines.{digits, Puts}
use Rattle.lines.proofs.Laws.{length_digits, digits_append, digits_place, puts_none, puts_then}
use Rattle.model.specs.Formats.{Bytes}
use Rattle.access.specs.Answers.{nth}
use Rattle.looks.specs.Writes.{Room, Shows}

-- ---- bytes behind bytes

pub shows_then : (x y : Bytes) {text mid after : Bytes} {at next end : ℕ} → Shows x text mid at next → Shows y mid after next end → at + (length x + length x) ≤ length text → Shows (x ++ y) text after at end
shows_then x y {text = text} {after = after} {at = at} {end = end} P Q h =
    let l = length_digits x in
    rw (digits_append x y) (puts_then P Q (omega arith))

-- bytes before bytes that stand there already
before : {x y text mid after : Bytes} {at start next : ℕ} → Puts y text mid start next → Puts x mid after at start → start ≤ length text → Puts (x ++ y) text after at next
before {x = x} {y = y} {text = text} {mid = mid} {after = after} {at = at} {start = start} {next = next} P Q h =
    let p = P.place in
    let q = Q.place in
    let l : length (take start text) ≡ start = length-take-le start text h in
    let t : take at mid ≡ take at text = ap (take at) P.is ∙ take-append-le at (take start text) (y ++ drop next text) (omega arith) ∙ take-take at start text (omega arith) in
    let d : drop start mid ≡ y ++ drop next text = ap (drop start) P.is ∙ drop_at (take start text) (y ++ drop next text) start l in
    record {
      place = simp length-append (omega arith);
      is = Q.is ∙ rw (t, d) (ap (λ (z : Bytes). take at text ++ z) (sym (append_assoc x y (drop next text))));
    }

-- ---- a list

concat_append : {A : Type 0} (f : A → Bytes) (xs ys : List A) → concat_map f (xs ++ ys) ≡ concat_map f xs ++ concat_map f ys
concat_append f [] ys = refl
concat_append f (x ∷ xs) ys = ap (λ (t : Bytes). f x ++ t) (concat_append f xs ys) ∙ sym (append_assoc (f x) (concat_map f xs) (concat_map f ys))

nth_behind : {A : Type 0} (xs ys : List A) → nth (length xs) (xs ++ ys) ≡ nth 0 ys
unfolding nth
nth_behind [] ys = refl
nth_behind (x ∷ xs) ys = nth_behind xs ys

pub all_nth : {A : Type 0} (P : A → Type 0) (i : ℕ) (xs : List A) {x : A} → All P xs → nth i xs ≡ Some x → P x
unfolding nth
all_nth P i [] {x} a e = absurd (None-ne-Some x e)
all_nth P zero (y ∷ xs) {x} a e = subst P (Some-injective y x e) a.0
all_nth P (suc i) (y ∷ xs) a e = all_nth P i xs a.1 e

-- the first entries are shown, behind the place of the count
pub record Going {A : Type 0} (f : A → Bytes) (xs : List A) (text text' : Bytes) (at next count : ℕ) : Type 0 where
  pub done : List A
  pub rest : List A
  pub split : xs ≡ done ++ rest
  pub number : count ≡ length done
  pub shows : Shows (concat_map f done) text text' (at + 2) next

pub going_start : {A : Type 0} (f : A → Bytes) (xs : List A) (text : Bytes) (at : ℕ) → Going f xs text text at (at + 2) 0
unfolding digits
going_start f xs text at = record { done = []; rest = xs; split = refl; number = refl; shows = puts_none text (at + 2) }

-- there is an entry, and these are its bytes
pub record There {A : Type 0} (f : A → Bytes) (o : Option A) (bytes : Bytes) : Type 0 where
  pub x : A
  pub is : o ≡ Some x
  pub shown : bytes ≡ f x

module _ {A : Type 0} {f : A → Bytes} {xs : List A} {text text' : Bytes} {at next count : ℕ} (G : Going f xs text text' at next count)
    (room : Room (length xs ∷ concat_map f xs) text at) where
  here : nth count xs ≡ nth 0 G.rest
  here = ap₂ (λ (i : ℕ) (l : List A). nth i l) G.number G.split ∙ nth_behind G.done G.rest

  pub not_more : count ≤ length xs
  not_more =
      let s : length xs ≡ length G.done + length G.rest = ap length G.split ∙ length-append G.done G.rest in
      let n = G.number in
      omega arith

  bytes_long : length (concat_map f xs) ≡ length (concat_map f G.done) + length (concat_map f G.rest)
  bytes_long = ap (λ (l : List A). length (concat_map f l)) G.split ∙ ap length (concat_append f G.done G.rest) ∙ length-append (concat_map f G.done) (concat_map f G.rest)

  next_is : next ≡ at + 2 + (length (concat_map f G.done) + length (concat_map f G.done))
  next_is = digits_place (concat_map f G.done) G.shows

  -- ---- an entry is there

  module _ {bytes : Bytes} (T : There f (nth count xs) bytes) where
    record Split : Type 0 where
      tail : List A
      is : G.rest ≡ T.x ∷ tail

    first : Split
    unfolding nth
    first = go G.rest refl (sym here ∙ T.is)
      where
        go : (l : List A) → G.rest ≡ l → nth 0 l ≡ Some T.x → Split
        go [] e h = absurd (None-ne-Some T.x h)
        go (y ∷ l) e h = record { tail = l; is = e ∙ ap (λ (z : A). z ∷ l) (Some-injective y T.x h) }

    rest_long : length (concat_map f G.rest) ≡ length bytes + length (concat_map f first.tail)
    rest_long = ap (λ (l : List A). length (concat_map f l)) first.is ∙ length-append (f T.x) (concat_map f first.tail) ∙ ap (λ (b : Bytes). length b + length (concat_map f first.tail)) (sym T.shown)

    pub next_room : Room bytes text next
    next_room = let b = bytes_long in let r = rest_long in let n = next_is in let l : at + (suc (length (concat_map f xs)) + suc (length (concat_map f xs))) ≤ length text = room in omega arith

    pub fewer : count < length xs
    fewer =
        let s : length xs ≡ length G.done + length G.rest = ap length G.split ∙ length-append G.done G.rest in
        let r : length G.rest ≡ suc (length first.tail) = ap length first.is in
        let n = G.number in
        omega arith

    pub going_more : {text'' : Bytes} {next' : ℕ} → Shows bytes text' text'' next next' → Going f xs text text'' at next' (count + 1)
    going_more {text'' = text''} {next' = next'} P =
        let d : List A = G.done in
        let x : A = T.x in
        let n = G.number in
        let c : concat_map f (d ++ (x ∷ [])) ≡ concat_map f d ++ f x = concat_append f d (x ∷ []) ∙ ap (λ (t : Bytes). concat_map f d ++ t) (append-nil (f x)) in
        let b = bytes_long in
        let l : at + (suc (length (concat_map f xs)) + suc (length (concat_map f xs))) ≤ length text = room in
        let q : Shows (concat_map f d ++ f x) text text'' (at + 2) next' = shows_then (concat_map f d) (f x) G.shows (rw T.shown at P) (omega arith) in
        record {
          done = d ++ (x ∷ []);
          rest = first.tail;
          split = G.split ∙ ap (λ (l : List A). d ++ l) first.is ∙ sym (append_assoc d (x ∷ []) first.tail);
          number = simp length-append (omega arith);
          shows = rw c q;
        }

  -- ---- the entries end

  pub going_end : nth count xs ≡ None → {text'' : Bytes} {start : ℕ} → Shows (count ∷ []) text' text'' at start → Shows (length xs ∷ concat_map f xs) text text'' at next
  unfolding nth
  going_end h {text'' = text''} {start = start} P = go G.rest refl (sym here ∙ h)
    where
      go : (l : List A) → G.rest ≡ l → nth 0 l ≡ None → Shows (length xs ∷ concat_map f xs) text text'' at next
      go [] e h =
          let d : xs ≡ G.done = G.split ∙ ap (λ (l : List A). G.done ++ l) e ∙ append-nil G.done in
          let n : length xs ≡ count = ap length d ∙ sym G.number in
          let s : start ≡ at + 2 = digits_place (count ∷ []) P in
          let l : at + (suc (length (concat_map f xs)) + suc (length (concat_map f xs))) ≤ length text = room in
          let q : Puts (digits (count ∷ []) ++ digits (concat_map f G.done)) text text'' at next = before G.shows (rw s at P) (omega arith) in
          rw (n, d) (rw (digits_append (count ∷ []) (concat_map f G.done)) q)
      go (y ∷ l) e h = absurd (None-ne-Some y (sym h))
