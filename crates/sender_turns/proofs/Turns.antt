-- Change request 11/13: laws of the turn, of lanes, and of the mill that is found from the turn on. Assumes nothing.
use Rattle.std.specs.Prelude.{Option, Some, None}
use Rattle.format.proofs.Options.{None-ne-Some, Some_inj}
use Prim.Native.Nat.{ℕ, zero, suc, ◌+◌, ◌-◌, ◌≤◌, ◌<◌}
use native.Mathlib.Omega.{arith}
use mathlib.Core.Path.{◌≡◌, refl, sym, ap, ◌∙◌, subst}
use mathlib.Core.List.{List, [], ◌∷◌}
use mathlib.Core.Bool.{Bool, true, false, not, true≢false}
use lib.ListN.{length, set, get_or-eq_default}
use lib.Seq.{get_or-set_same, get_or-set_other}
use lib.Dec.{leb, leb→le, nleb→lt, eqb, eqb→eq, eqb_refl, T}
use Rattle.model.specs.Maps.{when◌then◌else◌, is_empty}
use Rattle.sender_turns.specs.Sender.{Sender, Told, mills, lane, after, next_mill, first_of, rest_of, granted, telling, grants}

-- ---- tests

pub is_true : {c : Bool} → T c → c ≡ true
is_true {c = true} t = refl
is_true {c = false} t = absurd t

pub not_eq : (a b : ℕ) → eqb a b ≡ false → a ≡ b → ⊥
not_eq a b e h = true≢false (sym (is_true (rw (← h) (eqb_refl a))) ∙ e)

-- ---- the turn, and how far a mill is from it

pub after_low : (t : ℕ) → t < mills → after t < mills
unfolding after when◌then◌else◌
after_low t p = go (eqb (t + 1) mills) refl
  where
    go : (c : Bool) → eqb (t + 1) mills ≡ c → (when c then 0 else t + 1) < mills
    go true e = omega arith
    go false e = omega (arith, not_eq (t + 1) mills e)

pub data Gap (t m d : ℕ) : Type 0 where
  ahead : t + d ≡ m → Gap t m d
  around : t + d ≡ m + mills → Gap t m d

pub gap_zero : (t m : ℕ) → t < mills → m < mills → Gap t m 0 → t ≡ m
gap_zero t m p q (ahead e) = omega arith
gap_zero t m p q (around e) = omega arith

pub gap_suc : (t m d : ℕ) → t < mills → m < mills → Gap t m (suc d) → Gap (after t) m d
unfolding after when◌then◌else◌
gap_suc t m d p q g = go (eqb (t + 1) mills) refl g
  where
    go : (c : Bool) → eqb (t + 1) mills ≡ c → Gap t m (suc d) → Gap (when c then 0 else t + 1) m d
    go true e (ahead f) = ahead (omega (arith, eqb→eq (t + 1) mills (rw e tt)))
    go true e (around f) = ahead (omega (arith, eqb→eq (t + 1) mills (rw e tt)))
    go false e (ahead f) = ahead (omega arith)
    go false e (around f) = around (omega arith)

pub record Apart (t m : ℕ) : Type 0 where
  pub d : ℕ
  pub low : d < mills
  pub gap : Gap t m d

abbrev pub gap_of : (t m : ℕ) → t < mills → m < mills → Apart t m
gap_of t m p q = go (leb t m) refl
  where
    go : (c : Bool) → leb t m ≡ c → Apart t m
    go true e =
        let h : t ≤ m = leb→le t m (rw e tt) in
        record { d = m - t; low = omega arith; gap = ahead (omega arith) }
    go false e =
        let h : m < t = nleb→lt t m (rw e tt) in
        record { d = m + mills - t; low = omega arith; gap = around (omega arith) }

-- ---- lanes

abbrev pub Waiting : ℕ → List (List ℕ) → Type 0
Waiting m lanes = T (not (is_empty (lane m lanes)))

pub lane_other : (g m : ℕ) (l : List ℕ) (lanes : List (List ℕ)) → (g ≡ m → ⊥) → lane m (set lanes g l) ≡ lane m lanes
unfolding lane
lane_other g m l lanes n = get_or-set_other lanes g m l [] (λ e. n (sym e))

pub lane_put : (m : ℕ) (l : List ℕ) (lanes : List (List ℕ)) → m < length lanes → lane m (set lanes m l) ≡ l
unfolding lane
lane_put m l lanes h = get_or-set_same lanes m l [] h

pub lane_past : (m : ℕ) (lanes : List (List ℕ)) → length lanes ≤ m → lane m lanes ≡ []
unfolding lane
lane_past m lanes h = get_or-eq_default lanes [] h

-- a lane that holds something is there
pub lane_same : (m : ℕ) (l : List ℕ) (lanes : List (List ℕ)) → Waiting m lanes → lane m (set lanes m l) ≡ l
unfolding lane is_empty
lane_same m l [] w = absurd w
lane_same zero l (x ∷ lanes) w = refl
lane_same (suc m) l (x ∷ lanes) w = lane_same m l lanes w

pub set_if : (mill m : ℕ) (l : List ℕ) (lanes : List (List ℕ)) → mill < length lanes → (c : Bool) → eqb mill m ≡ c
    → lane mill (set lanes m l) ≡ (when c then l else lane mill lanes)
unfolding when◌then◌else◌
set_if mill m l lanes h true e = ap (λ (n : ℕ). lane mill (set lanes n l)) (sym (eqb→eq mill m (rw e tt))) ∙ lane_put mill l lanes h
set_if mill m l lanes h false e = lane_other m mill l lanes (λ p. not_eq mill m e (sym p))

pub empty_is : (l : List ℕ) → (T (not (is_empty l)) → ⊥) → l ≡ []
unfolding is_empty
empty_is [] n = refl
empty_is (x ∷ l) n = absurd (n tt)

pub whole : (l : List ℕ) → T (not (is_empty l)) → first_of l ∷ rest_of l ≡ l
unfolding is_empty first_of rest_of
whole [] w = absurd w
whole (n ∷ l) w = refl

pub clash : (t m : ℕ) (lanes : List (List ℕ)) → t ≡ m → is_empty (lane t lanes) ≡ true → Waiting m lanes → ⊥
clash t m lanes e c w = subst (λ (b : Bool). T (not b)) c (subst (λ (n : ℕ). Waiting n lanes) (sym e) w)

-- ---- the mill that a grant goes to

-- the mill itself, or one before it, from which on it is nearer
pub data Found (m d : ℕ) : Option ℕ → Type 0 where
  itself : Found m d (Some m)
  before : (g d' : ℕ) → g < mills → (g ≡ m → ⊥) → d' < d → Gap (after g) m d' → Found m d (Some g)

farther : (m d : ℕ) (r : Option ℕ) → Found m d r → Found m (suc d) r
farther m d (Some n) itself = itself
farther m d (Some n) (before g d' p n' l h) = before g d' p n' (omega arith) h
farther m d None f = elim f [ ]

pub found : (m asked t d : ℕ) (lanes : List (List ℕ)) → t < mills → m < mills → d < asked → Gap t m d → Waiting m lanes → Found m d (next_mill asked t lanes)
unfolding next_mill when◌then◌else◌
found m zero t d lanes p q l g w = absurd (omega (arith, l))
found m (suc asked) t d lanes p q l g w = go (is_empty (lane t lanes)) refl (eqb t m) refl d l g (found m asked (after t))
  where
    go : (c : Bool) → is_empty (lane t lanes) ≡ c → (e : Bool) → eqb t m ≡ e → (d : ℕ) → d < suc asked → Gap t m d
        → ((d : ℕ) (lanes : List (List ℕ)) → after t < mills → m < mills → d < asked → Gap (after t) m d → Waiting m lanes → Found m d (next_mill asked (after t) lanes))
        → Found m d (when c then next_mill asked (after t) lanes else Some t)
    go true c e f zero l g ih = absurd (clash t m lanes (gap_zero t m p q g) c w)
    go true c e f (suc d) l g ih = farther m d _ (ih d lanes (after_low t p) q (omega arith) (gap_suc t m d p q g) w)
    go false c true f d l g ih = rw (eqb→eq t m (rw f tt)) itself
    go false c false f zero l g ih = absurd (not_eq t m f (gap_zero t m p q g))
    go false c false f (suc d) l g ih = before t d p (not_eq t m f) (omega arith) (gap_suc t m d p q g)

pub next_low : (asked t : ℕ) (lanes : List (List ℕ)) → t < mills → (g : ℕ) → next_mill asked t lanes ≡ Some g → g < mills
unfolding next_mill when◌then◌else◌
next_low zero t lanes p g e = absurd (None-ne-Some g e)
next_low (suc asked) t lanes p g e = go (is_empty (lane t lanes)) (next_low asked (after t) lanes (after_low t p) g) e
  where
    go : (c : Bool) → (next_mill asked (after t) lanes ≡ Some g → g < mills) → (when c then next_mill asked (after t) lanes else Some t) ≡ Some g → g < mills
    go true ih e = ih e
    go false ih e = subst (λ (n : ℕ). n < mills) (Some_inj.0 e) p

pub next_waits : (asked t : ℕ) (lanes : List (List ℕ)) (g : ℕ) → next_mill asked t lanes ≡ Some g → Waiting g lanes
unfolding next_mill when◌then◌else◌
next_waits zero t lanes g e = absurd (None-ne-Some g e)
next_waits (suc asked) t lanes g e = go (is_empty (lane t lanes)) refl (next_waits asked (after t) lanes g) e
  where
    go : (c : Bool) → is_empty (lane t lanes) ≡ c → (next_mill asked (after t) lanes ≡ Some g → Waiting g lanes)
        → (when c then next_mill asked (after t) lanes else Some t) ≡ Some g → Waiting g lanes
    go true f ih e = ih e
    go false f ih e = subst (λ (n : ℕ). Waiting n lanes) (Some_inj.0 e) (subst (λ (b : Bool). T (not b)) (sym f) tt)

-- where no mill is found, every lane is empty
pub none_found : (lanes : List (List ℕ)) (t : ℕ) → length lanes ≡ mills → t < mills → next_mill mills t lanes ≡ None → (m : ℕ) → lane m lanes ≡ []
none_found lanes t e p n m = go (leb mills m) refl
  where
    no_case : (d : ℕ) (r : Option ℕ) → Found m d r → r ≡ None → ⊥
    no_case d (Some g) f e = None-ne-Some g (sym e)
    no_case d None f e = elim f [ ]

    go : (c : Bool) → leb mills m ≡ c → lane m lanes ≡ []
    go true h = lane_past m lanes (omega (arith, leb→le mills m (rw h tt)))
    go false h = empty_is (lane m lanes) (λ w.
        let q : m < mills = nleb→lt mills m (rw h tt) in
        let a = gap_of t m p q in
        no_case a.d (next_mill mills t lanes) (found m mills t a.d lanes p q a.low a.gap w) n)

-- and where every lane is empty, none is found
pub none_waits : (asked t : ℕ) (lanes : List (List ℕ)) → ((m : ℕ) → lane m lanes ≡ []) → next_mill asked t lanes ≡ None
unfolding next_mill when◌then◌else◌ is_empty
none_waits zero t lanes f = refl
none_waits (suc asked) t lanes f = rw (f t) (none_waits asked (after t) lanes f)

-- ---- the turn stays a mill's

pub grants_low : (free : ℕ) (s : Sender) → s.turn < mills → (grants free s).sender.turn < mills
unfolding grants telling granted
grants_low zero s p = p
grants_low (suc free) s p = go (next_mill mills s.turn s.lanes) (next_low mills s.turn s.lanes p) (grants_low free)
  where
    go : (r : Option ℕ) → ((g : ℕ) → r ≡ Some g → g < mills) → ((s : Sender) → s.turn < mills → (grants free s).sender.turn < mills)
        → (elim r as (λ r. Told) [
          | None ↦ record { grants = []; sender = s }
          | Some mill ↦ telling (mill, first_of (lane mill s.lanes)) (grants free (granted mill s))
        ]).sender.turn < mills
    go None f ih = p
    go (Some g) f ih = ih (granted g s) (after_low g (f g refl))
