-- What is left behind a value, by how its format is put together.
use Rattle.std.proofs.Common.{◌+◌, ◌-◌, ◌≡◌, ◌≤◌, ◌<◌, ℕ, zero, suc, inl, inr, List, [], ◌∷◌, refl, ap, sym, ◌∙◌, arith, true, false, Bool, cond, ltb}
use Rattle.std.specs.Prelude.{Option, Some, None}
use Rattle.format.specs.Format.{Got, Format, Cases, ◌⊗◌, via, below, option, nothing, no_case, ◌∣◌, enum, and_then, map_got, option_to, list, repeated}
use borrow.Author.Tests.{ltb-true, ltb-false, lt-ltb, le-leb, lt-leb}
use Rattle.format.proofs.Options.{Some-injective}
use Rattle.reader.specs.Left.{after, past}

past_map : {A B : Type 0} (h : A → B) (x : Got A) → past (map_got h x) ≡ past x
past_map h None = refl
past_map h (Some r) = refl

-- go on with what is left, or with nothing
abbrev pub onward : Option (List ℕ) → (List ℕ → Option (List ℕ)) → Option (List ℕ)
onward None k = None
onward (Some t) k = k t

module _ {A B : Type 0} where
  pub pair_after : (f : Format A) (g : Format B) (s : List ℕ) → after (f ⊗ g) s ≡ onward (after f s) (after g)
  unfolding after ◌⊗◌
  pair_after f g s = go (f.dec s)
    where
      go : (x : Got A) → past {A = A × B} (and_then x (λ a t. map_got (λ b. (a, b)) (g.dec t))) ≡ onward (past x) (λ t. past (g.dec t))
      go None = refl
      go (Some r) = past_map (λ b. (r.0, b)) (g.dec r.1)

  pub via_same : (to : A → B) (from : B → A) (f : Format A) (s : List ℕ) → after (via to from f) s ≡ after f s
  unfolding after via
  via_same to from f s = past_map to (f.dec s)

-- a byte that was read stands at the front
pub below_front : (k b : ℕ) (s t : List ℕ) → (below k).dec s ≡ Some (b, t) → (s ≡ b ∷ t) × (b < k)
unfolding below
below_front k b [] t e = cc
below_front k b (x ∷ s) t e = go (ltb x k) refl e
  where
    go : (w : Bool) → w ≡ ltb x k → ◌≡◌ {A = Got ℕ} (cond w (Some (x, s)) None) (Some (b, t)) → (x ∷ s ≡ b ∷ t) × (b < k)
    go true q h =
        let e1 : x ≡ b = ap (λ (r : ℕ × List ℕ). r.0) (Some-injective (x, s) (b, t) h) in
        let e2 : s ≡ t = ap (λ (r : ℕ × List ℕ). r.1) (Some-injective (x, s) (b, t) h) in
        (cc, rw (← e1) (ltb-true x k (sym q)))
    go false q h = cc

pub nothing_after : (s : List ℕ) → after nothing s ≡ Some s
unfolding after nothing
nothing_after s = refl

module _ {A : Type 0} (f : Format A) where
  -- behind a value that may be missing: its first byte is no 0 or 1
  pub option_none : (s : List ℕ) → (below 2).dec s ≡ None → after (option f) s ≡ None
  unfolding after option via below enum nothing no_case ◌∣◌
  option_none [] e = refl
  option_none (zero ∷ s) e = cc
  option_none (suc zero ∷ s) e = cc
  option_none (suc (suc b) ∷ s) e = refl

  option_zero : (t : List ℕ) → after (option f) (0 ∷ t) ≡ Some t
  unfolding after option via enum nothing no_case ◌∣◌
  option_zero t = refl

  option_one : (t : List ℕ) → after (option f) (1 ∷ t) ≡ after f t
  unfolding after option via enum nothing no_case ◌∣◌
  option_one t = past_map option_to (map_got inr (map_got inl (f.dec t))) ∙ past_map inr (map_got inl (f.dec t)) ∙ past_map inl (f.dec t)

  -- it is missing
  pub option_missing : (s t : List ℕ) (b : ℕ) → (below 2).dec s ≡ Some (b, t) → b ≡ 0 → after (option f) s ≡ Some t
  option_missing s t b e h = rw ((below_front 2 b s t e).0, h) (option_zero t)

  -- it is there
  pub option_there : (s t : List ℕ) (b : ℕ) → (below 2).dec s ≡ Some (b, t) → ¬ (b ≡ 0) → after (option f) s ≡ after f t
  option_there s t b e h =
      let q = below_front 2 b s t e in
      let o : b ≡ 1 = omega (arith, q.1, h) in
      rw (q.0, o) (option_one t)

module _ {A : Type 0} where
  -- what is left behind n values
  unfoldable pub after_many : Format A → ℕ → List ℕ → Option (List ℕ)
  after_many f n s = past (repeated f.dec n s)

  pub many_zero : (f : Format A) (s : List ℕ) → after_many f 0 s ≡ Some s
  unfolding after_many
  many_zero f s = refl

  -- one value and then the others
  pub many_suc : (f : Format A) (n : ℕ) (s : List ℕ) → after_many f (suc n) s ≡ onward (after f s) (after_many f n)
  unfolding after after_many
  many_suc f n s = go (f.dec s)
    where
      go : (x : Got A) → past {A = List A} (and_then x (λ a t. map_got (λ xs. a ∷ xs) (repeated f.dec n t))) ≡ onward (past x) (λ t. past (repeated f.dec n t))
      go None = refl
      go (Some r) = past_map (λ xs. r.0 ∷ xs) (repeated f.dec n r.1)

  -- where the count of a list is no number up to the limit
  pub list_none : (limit : ℕ) (f : Format A) (s : List ℕ) → (below (suc limit)).dec s ≡ None → after (list limit f) s ≡ None
  unfolding after list below
  list_none limit f [] e = refl
  list_none limit f (n ∷ s) e = grind (arith, ltb-true, lt-ltb, le-leb, lt-leb)

  pub list_counted : (limit n : ℕ) (f : Format A) (s t : List ℕ) → (below (suc limit)).dec s ≡ Some (n, t) → after (list limit f) s ≡ after_many f n t
  unfolding after list after_many
  list_counted limit n f s t e =
      let q = below_front (suc limit) n s t e in
      rw (q.0, le-leb n limit (omega (arith, q.1)))

  -- a turn of a walk over n values, of which i are behind it
  pub many_turn : (f : Format A) (n i : ℕ) (s : List ℕ) → i < n → after_many f (n - i) s ≡ onward (after f s) (after_many f (n - (i + 1)))
  many_turn f n i s h =
      let e : n - i ≡ suc (n - (i + 1)) = omega arith in
      rw (e, many_suc f (n - (i + 1)) s)

  pub many_done : (f : Format A) (n i : ℕ) (s : List ℕ) → n ≤ i → after_many f (n - i) s ≡ Some s
  many_done f n i s h =
      let e : n - i ≡ 0 = omega arith in
      rw (e, many_zero f s)

module _ {A : Type 0} where
  -- what is left behind the case at place b of an enum
  unfoldable pub after_case : Cases A → ℕ → List ℕ → Option (List ℕ)
  after_case c b t = past (c.dec b t)

  -- the same, where the place was read
  abbrev pub behind : Cases A → Got ℕ → Option (List ℕ)
  behind c None = None
  behind c (Some r) = after_case c r.0 r.1

  -- the cases have places below n alone
  pub Ends : Cases A → ℕ → Type 0
  Ends c n = (b : ℕ) (t : List ℕ) → n ≤ b → after_case c b t ≡ None

  enum_behind : (n : ℕ) (c : Cases A) (s : List ℕ) → Ends c n → after (enum c) s ≡ behind c ((below n).dec s)
  unfolding after enum after_case below Ends
  enum_behind n c [] h = refl
  enum_behind n c (b ∷ t) h = go (ltb b n) refl
    where
      go : (x : Bool) → x ≡ ltb b n → past (c.dec b t) ≡ behind c (cond x (Some (b, t)) None)
      go true e = refl
      go false e = h b t (ltb-false b n (sym e))

ends_nothing : Ends no_case 0
unfolding Ends after_case no_case
ends_nothing b t h = refl

module _ {A B : Type 0} (f : Format A) (g : Cases B) where
  pub case_first : (b : ℕ) (t : List ℕ) → b ≡ 0 → after_case (f ∣ g) b t ≡ after f t
  unfolding after after_case ◌∣◌
  case_first b t e = rw e (past_map inl (f.dec t))

  pub case_later : (b : ℕ) (t : List ℕ) → 1 ≤ b → after_case (f ∣ g) b t ≡ after_case g (b - 1) t
  unfolding after_case ◌∣◌
  case_later zero t h = absurd (omega arith)
  case_later (suc b) t h = let e : suc b - 1 ≡ b = omega arith in rw e (past_map inr (g.dec b t))

  ends_more : (n : ℕ) → Ends g n → Ends (f ∣ g) (suc n)
  unfolding Ends
  ends_more n e b t h = case_later b t (omega arith) ∙ e (b - 1) t (omega arith)

module _ {A B : Type 0} (f1 : Format A) (f2 : Format B) (s : List ℕ) where
  pub two_cases : after (enum (f1 ∣ f2 ∣ no_case)) s ≡ behind (f1 ∣ f2 ∣ no_case) ((below 2).dec s)
  two_cases = enum_behind 2 (f1 ∣ f2 ∣ no_case) s (ends_more f1 (f2 ∣ no_case) 1 (ends_more f2 no_case 0 ends_nothing))

module _ {A B C : Type 0} (f1 : Format A) (f2 : Format B) (f3 : Format C) (s : List ℕ) where
  pub three_cases : after (enum (f1 ∣ f2 ∣ f3 ∣ no_case)) s ≡ behind (f1 ∣ f2 ∣ f3 ∣ no_case) ((below 3).dec s)
  three_cases = enum_behind 3 (f1 ∣ f2 ∣ f3 ∣ no_case) s (ends_more f1 (f2 ∣ f3 ∣ no_case) 2 (ends_more f2 (f3 ∣ no_case) 1 (ends_more f3 no_case 0 ends_nothing)))

module _ {A B C D : Type 0} (f1 : Format A) (f2 : Format B) (f3 : Format C) (f4 : Format D) (s : List ℕ) where
  pub four_cases : after (enum (f1 ∣ f2 ∣ f3 ∣ f4 ∣ no_case)) s ≡ behind (f1 ∣ f2 ∣ f3 ∣ f4 ∣ no_case) ((below 4).dec s)
  four_cases = enum_behind 4 (f1 ∣ f2 ∣ f3 ∣ f4 ∣ no_case) s (ends_more f1 (f2 ∣ f3 ∣ f4 ∣ no_case) 3 (ends_more f2 (f3 ∣ f4 ∣ no_case) 2 (ends_more f3 (f4 ∣ no_case) 1 (ends_more f4 no_case 0 ends_nothing))))

module _ {A B C D E : Type 0} (f1 : Format A) (f2 : Format B) (f3 : Format C) (f4 : Format D) (f5 : Format E) (s : List ℕ) where
  pub five_cases : after (enum (f1 ∣ f2 ∣ f3 ∣ f4 ∣ f5 ∣ no_case)) s ≡ behind (f1 ∣ f2 ∣ f3 ∣ f4 ∣ f5 ∣ no_case) ((below 5).dec s)
  five_cases = enum_behind 5 (f1 ∣ f2 ∣ f3 ∣ f4 ∣ f5 ∣ no_case) s (ends_more f1 (f2 ∣ f3 ∣ f4 ∣ f5 ∣ no_case) 4 (ends_more f2 (f3 ∣ f4 ∣ f5 ∣ no_case) 3 (ends_more f3 (f4 ∣ f5 ∣ no_case) 2 (ends_more f4 (f5 ∣ no_case) 1 (ends_more f5 no_case 0 ends_nothing)))))

module _ {A B C D E F : Type 0} (f1 : Format A) (f2 : Format B) (f3 : Format C) (f4 : Format D) (f5 : Format E) (f6 : Format F) (s : List ℕ) where
  pub six_cases : after (enum (f1 ∣ f2 ∣ f3 ∣ f4 ∣ f5 ∣ f6 ∣ no_case)) s ≡ behind (f1 ∣ f2 ∣ f3 ∣ f4 ∣ f5 ∣ f6 ∣ no_case) ((below 6).dec s)
  six_cases = enum_behind 6 (f1 ∣ f2 ∣ f3 ∣ f4 ∣ f5 ∣ f6 ∣ no_case) s (ends_more f1 (f2 ∣ f3 ∣ f4 ∣ f5 ∣ f6 ∣ no_case) 5 (ends_more f2 (f3 ∣ f4 ∣ f5 ∣ f6 ∣ no_case) 4 (ends_more f3 (f4 ∣ f5 ∣ f6 ∣ no_case) 3 (ends_more f4 (f5 ∣ f6 ∣ no_case) 2 (ends_more f5 (f6 ∣ no_case) 1 (ends_more f6 no_case 0 ends_nothing))))))

module _ {A B C D E F G H I J K : Type 0} (f1 : Format A) (f2 : Format B) (f3 : Format C) (f4 : Format D) (f5 : Format E) (f6 : Format F) (f7 : Format G) (f8 : Format H) (f9 : Format I) (f10 : Format J) (f11 : Format K) (s : List ℕ) where
  pub eleven_cases : after (enum (f1 ∣ f2 ∣ f3 ∣ f4 ∣ f5 ∣ f6 ∣ f7 ∣ f8 ∣ f9 ∣ f10 ∣ f11 ∣ no_case)) s ≡ behind (f1 ∣ f2 ∣ f3 ∣ f4 ∣ f5 ∣ f6 ∣ f7 ∣ f8 ∣ f9 ∣ f10 ∣ f11 ∣ no_case) ((below 11).dec s)
  eleven_cases = enum_behind 11 (f1 ∣ f2 ∣ f3 ∣ f4 ∣ f5 ∣ f6 ∣ f7 ∣ f8 ∣ f9 ∣ f10 ∣ f11 ∣ no_case) s (ends_more f1 (f2 ∣ f3 ∣ f4 ∣ f5 ∣ f6 ∣ f7 ∣ f8 ∣ f9 ∣ f10 ∣ f11 ∣ no_case) 10 (ends_more f2 (f3 ∣ f4 ∣ f5 ∣ f6 ∣ f7 ∣ f8 ∣ f9 ∣ f10 ∣ f11 ∣ no_case) 9 (ends_more f3 (f4 ∣ f5 ∣ f6 ∣ f7 ∣ f8 ∣ f9 ∣ f10 ∣ f11 ∣ no_case) 8 (ends_more f4 (f5 ∣ f6 ∣ f7 ∣ f8 ∣ f9 ∣ f10 ∣ f11 ∣ no_case) 7 (ends_more f5 (f6 ∣ f7 ∣ f8 ∣ f9 ∣ f10 ∣ f11 ∣ no_case) 6 (ends_more f6 (f7 ∣ f8 ∣ f9 ∣ f10 ∣ f11 ∣ no_case) 5 (ends_more f7 (f8 ∣ f9 ∣ f10 ∣ f11 ∣ no_case) 4 (ends_more f8 (f9 ∣ f10 ∣ f11 ∣ no_case) 3 (ends_more f9 (f10 ∣ f11 ∣ no_case) 2 (ends_more f10 (f11 ∣ no_case) 1 (ends_more f11 no_case 0 ends_nothing)))))))))))

pub ruleset walks = (nothing_after, pair_after, via_same, option_none, option_missing, option_there)

pub ruleset cases = (walks, case_first, case_later, two_cases, three_cases, four_cases, five_cases, six_cases, eleven_cases)

pub ruleset lists = (list_none, list_counted, many_turn, many_done)
