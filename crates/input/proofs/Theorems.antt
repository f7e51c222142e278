-- Of every input, however it is cut into chunks, the splitter hands out the lines, call by call; and what it cuts off a line changes no frame. Assumes nothing.
use Prim.Native.Nat.{ℕ, zero, suc, ◌+◌, ◌≤◌, ◌<◌}
use native.Mathlib.Omega.{arith}
use mathlib.Core.Path.{◌≡◌, refl, sym, ap, ap₂, ◌∙◌}
use mathlib.Core.Bool.{Bool, true, false, cond, not}
use mathlib.Core.List.{List, [], ◌∷◌, ◌++◌, map, flatten, append-nil, append_assoc}
use lib.ListN.{length, take, drop}
use lib.Seq.{take_all, take-nil, take-append-le, drop-append-le, take-append-add, drop-append-add}
use lib.Dec.{eqb, ltb}
use borrow.Author.Tests.{lt-ltb, ltb-true, ltb-false}
use Rattle.lines.specs.Lines.{line_length, frame_of}
use Rattle.lines.proofs.Theorems.{cut_same}
use Rattle.input.specs.Input.{led, lines_of, taken, Handed, is_empty, next_line, handed_out}
use Rattle.input.proofs.Laws.{step_whole, step_on}

-- ---- where the first line ends

line_within : (s : List ℕ) → line_length s ≤ length s
unfolding line_length
line_within [] = omega arith
line_within (b ∷ s) = go (eqb b 10) (line_within s)
  where
    go : (e : Bool) → line_length s ≤ length s → cond e 0 (suc (line_length s)) ≤ suc (length s)
    go true h = omega arith
    go false h = omega arith

-- a line that ends in a chunk ends there in the input
ends_here : (c t : List ℕ) → line_length c < length c → line_length (c ++ t) ≡ line_length c
unfolding line_length
ends_here [] t h = absurd (omega arith)
ends_here (b ∷ c) t h = go (λ k. ends_here c t k) (eqb b 10) h
  where
    go : (line_length c < length c → line_length (c ++ t) ≡ line_length c) → (e : Bool) → cond e 0 (suc (line_length c)) < suc (length c) → cond e 0 (suc (line_length (c ++ t))) ≡ cond e 0 (suc (line_length c))
    go f true h = refl
    go f false h = ap suc (f (omega arith))

-- and one that does not goes on behind it
ends_later : (c t : List ℕ) → length c ≤ line_length c → line_length (c ++ t) ≡ length c + line_length t
unfolding line_length
ends_later [] t h = omega arith
ends_later (b ∷ c) t h = go (λ k. ends_later c t k) (eqb b 10) h
  where
    go : (length c ≤ line_length c → line_length (c ++ t) ≡ length c + line_length t) → (e : Bool) → suc (length c) ≤ cond e 0 (suc (line_length c)) → cond e 0 (suc (line_length (c ++ t))) ≡ suc (length c) + line_length t
    go f true h = absurd (omega arith)
    go f false h = let i = f (omega arith) in omega arith

-- ---- the first line

abbrev pub first_line : List ℕ → List ℕ
first_line s = take (line_length s) s

abbrev pub after_line : List ℕ → List ℕ
after_line s = drop (suc (line_length s)) s

pub first_then : (b : ℕ) (s : List ℕ) → lines_of (b ∷ s) ≡ first_line (b ∷ s) ∷ lines_of (after_line (b ∷ s))
unfolding lines_of line_length
first_then b [] = go (eqb b 10)
  where
    go : (e : Bool) → cond e ([] ∷ []) ((b ∷ []) ∷ []) ≡ take (cond e 0 1) (b ∷ []) ∷ lines_of (drop (suc (cond e 0 1)) (b ∷ []))
    go true = refl
    go false = refl
first_then b (x ∷ s) = go (eqb b 10) (first_then x s)
  where
    go : (e : Bool) → lines_of (x ∷ s) ≡ first_line (x ∷ s) ∷ lines_of (after_line (x ∷ s))
        → cond e ([] ∷ lines_of (x ∷ s)) (led b (lines_of (x ∷ s))) ≡ take (cond e 0 (suc (line_length (x ∷ s)))) (b ∷ (x ∷ s)) ∷ lines_of (drop (suc (cond e 0 (suc (line_length (x ∷ s))))) (b ∷ (x ∷ s)))
    go true h = refl
    go false h = ap (led b) h

-- ---- a call

take_cut : (n : ℕ) (x y : List ℕ) → take n (take n x ++ y) ≡ take n (x ++ y)
take_cut zero x y = refl
take_cut (suc n) [] y = refl
take_cut (suc n) (b ∷ x) y = ap (λ (t : List ℕ). b ∷ t) (take_cut n x y)

empty_cut : (n : ℕ) (x : List ℕ) → 0 < n → is_empty (take n x) ≡ is_empty x
empty_cut zero x h = absurd (omega arith)
empty_cut (suc n) [] h = refl
empty_cut (suc n) (b ∷ x) h = refl

not_empty_behind : (x c t : List ℕ) → 0 < length c → true ≡ not (is_empty (x ++ (c ++ t)))
not_empty_behind [] [] t h = absurd (omega arith)
not_empty_behind [] (b ∷ c) t h = refl
not_empty_behind (a ∷ x) c t h = refl

-- what a call hands out where the bytes `before` of the line were taken already
pub record Hands (limit : ℕ) (before s : List ℕ) (r : Handed) : Type 0 where
  pub line : r.line ≡ take limit (before ++ first_line s)
  pub whole : r.whole ≡ not (is_empty (before ++ s))
  pub rest : flatten r.rest ≡ after_line s

module _ (limit : ℕ) (some : 0 < limit) where
  ends_in : (before c : List ℕ) (cs : List (List ℕ)) → line_length c < length c → Hands limit before (c ++ flatten cs) (next_line limit (take limit before) (c ∷ cs))
  unfolding taken flatten
  ends_in before c cs h =
      let n : ℕ = line_length c in
      let t : List ℕ = flatten cs in
      let e : line_length (c ++ t) ≡ n = ends_here c t h in
      let p : next_line limit (take limit before) (c ∷ cs) ≡ record { line = (taken limit (take limit before) c).line; whole = true; rest = (taken limit (take limit before) c).left ∷ cs } =
      step_whole limit (take limit before) c cs (lt-ltb n (length c) h) in
      record {
        line = ap (λ (r : Handed). r.line) p ∙ take_cut limit before (take n c) ∙ ap (λ (x : List ℕ). take limit (before ++ x)) (sym (take-append-le n c t (omega arith)) ∙ ap (λ (k : ℕ). take k (c ++ t)) (sym e));
        whole = ap (λ (r : Handed). r.whole) p ∙ not_empty_behind before c t (omega arith);
        rest = ap (λ (r : Handed). flatten r.rest) p ∙ sym (drop-append-le (suc n) c t (omega arith)) ∙ ap (λ (k : ℕ). drop (suc k) (c ++ t)) (sym e);
      }

  pub call : (before : List ℕ) (chunks : List (List ℕ)) → Hands limit before (flatten chunks) (next_line limit (take limit before) chunks)
  unfolding next_line taken flatten line_length
  call before [] = record {
    line = ap (take limit) (sym (append-nil before));
    whole = ap not (empty_cut limit before some ∙ ap is_empty (sym (append-nil before)));
    rest = refl;
  }
  call before (c ∷ cs) = go (ltb (line_length c) (length c)) refl (call (before ++ c) cs)
    where
      go : (b : Bool) → ltb (line_length c) (length c) ≡ b → Hands limit (before ++ c) (flatten cs) (next_line limit (take limit (before ++ c)) cs)
          → Hands limit before (c ++ flatten cs) (next_line limit (take limit before) (c ∷ cs))
      go true h H = ends_in before c cs (ltb-true (line_length c) (length c) h)
      go false h H =
          let k = ltb-false (line_length c) (length c) h in
          let w = line_within c in
          let n : ℕ = line_length c in
          let t : List ℕ = flatten cs in
          let e : line_length (c ++ t) ≡ length c + line_length t = ends_later c t k in
          let l : (taken limit (take limit before) c).line ≡ take limit (before ++ c) = take_cut limit before (take n c) ∙ ap (λ (x : List ℕ). take limit (before ++ x)) (take_all n c k) in
          let p : next_line limit (take limit before) (c ∷ cs) ≡ next_line limit (take limit (before ++ c)) cs = step_on limit (take limit before) c cs h ∙ ap (λ (x : List ℕ). next_line limit x cs) l in
          let m : suc (length c + line_length t) ≡ length c + suc (line_length t) = omega arith in
          record {
            line = ap (λ (r : Handed). r.line) p ∙ H.line ∙ ap (take limit) (append_assoc before c (first_line t)
                ∙ ap (λ (x : List ℕ). before ++ x) (sym (take-append-add c t (line_length t)) ∙ ap (λ (k : ℕ). take k (c ++ t)) (sym e)));
            whole = ap (λ (r : Handed). r.whole) p ∙ H.whole ∙ ap (λ (x : List ℕ). not (is_empty x)) (append_assoc before c t);
            rest = ap (λ (r : Handed). flatten r.rest) p ∙ H.rest ∙ sym (ap (λ (k : ℕ). drop (suc k) (c ++ t)) e ∙ ap (λ (k : ℕ). drop k (c ++ t)) m ∙ drop-append-add c t (suc (line_length t)));
          }

  -- ---- the theorem

  -- n calls hand out the first n lines of the input that the chunks are, of each at most `limit` bytes; where there are fewer, all of them and no more
  pub lines_handed_out : (n : ℕ) (chunks : List (List ℕ)) → handed_out limit n chunks ≡ take n (map (take limit) (lines_of (flatten chunks)))
  unfolding handed_out lines_of
  lines_handed_out zero chunks = refl
  lines_handed_out (suc n) chunks = go (flatten chunks) refl (next_line limit [] chunks) (λ cs. lines_handed_out n cs) (rw (take-nil limit) at (call [] chunks))
    where
      go : (s : List ℕ) → flatten chunks ≡ s → (r : Handed) → ((cs : List (List ℕ)) → handed_out limit n cs ≡ take n (map (take limit) (lines_of (flatten cs)))) → Hands limit [] (flatten chunks) r
          → cond r.whole (r.line ∷ handed_out limit n r.rest) [] ≡ take (suc n) (map (take limit) (lines_of (flatten chunks)))
      go [] e r f H = let w : r.whole ≡ false = H.whole ∙ ap (λ (x : List ℕ). not (is_empty x)) e in rw (w, e)
      go (b ∷ s) e r f H =
          let w : r.whole ≡ true = H.whole ∙ ap (λ (x : List ℕ). not (is_empty x)) e in
          let l : lines_of (flatten chunks) ≡ first_line (flatten chunks) ∷ lines_of (after_line (flatten chunks)) = rw e (first_then b s) in
          rw (w, l, H.line) (ap (λ (x : List (List ℕ)). take limit (first_line (flatten chunks)) ∷ x) (f r.rest ∙ ap (λ (x : List ℕ). take n (map (take limit) (lines_of x))) H.rest))

-- the frames of the lines that are handed out are those of the input's lines
pub frames_handed_out : (n : ℕ) (chunks : List (List ℕ)) → map frame_of (handed_out 16385 n chunks) ≡ take n (map frame_of (lines_of (flatten chunks)))
frames_handed_out n chunks = ap (map frame_of) (lines_handed_out 16385 (omega arith) n chunks) ∙ cut_all n (lines_of (flatten chunks))
  where
    cut_all : (n : ℕ) (ls : List (List ℕ)) → map frame_of (take n (map (take 16385) ls)) ≡ take n (map frame_of ls)
    cut_all zero ls = refl
    cut_all (suc n) [] = refl
    cut_all (suc n) (l ∷ ls) = ap₂ (λ (x : List ℕ) (y : List (List ℕ)). x ∷ y) (cut_same l) (cut_all n ls)
