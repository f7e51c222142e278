-- What one call or two tell of an input's one line; where not just one is found, two line feeds that come then serve. Assumes nothing.
use Rattle.std.specs.Prelude.{Some, None}
use Prim.Native.Nat.{ℕ, ◌≤◌, ◌<◌}
use native.Mathlib.Omega.{arith}
use mathlib.Core.Path.{◌≡◌, refl, sym, ap, ◌∙◌}
use mathlib.Core.Bool.{Bool, true, false, cond, not}
use mathlib.Core.List.{List, [], ◌∷◌, ◌++◌, map, flatten}
use lib.ListN.{length, take}
use lib.Seq.{take-nil}
use lib.Dec.{eqb}
use Rattle.input.specs.Input.{led, lines_of, Handed, is_empty, next_line, Reached, Splits}
use Rattle.input.specs.Ready.{Reads, between, left_of, Hands as Handing}
use Rattle.input.specs.Only.{only, OnlyRead, OnlyHeld}
use Rattle.input.specs.declared.chunks.Input.{Input}
use Rattle.input.specs.declared.source.Lines.{Lines}
use Rattle.input.proofs.Theorems.{first_line, first_then, Hands, call}

-- ---- what a call tells

hands : (limit : ℕ) → 0 < limit → (chunks : List (List ℕ)) → Hands limit [] (flatten chunks) (next_line limit [] chunks)
hands limit h chunks = rw (take-nil limit) at (call limit h [] chunks)

-- where it hands out a line and nothing is left, that is the one line
one_line : (limit : ℕ) → 0 < limit → (chunks : List (List ℕ)) {line : List ℕ} {rest : List (List ℕ)} → next_line limit [] chunks ≡ record { line = line; whole = true; rest = rest } → flatten rest ≡ []
    → Some line ≡ only (map (take limit) (lines_of (flatten chunks)))
unfolding only lines_of
one_line limit h chunks {line = line} {rest = rest} e nothing = go (flatten chunks) (rw e at (hands limit h chunks))
  where
    go : (s : List ℕ) → Hands limit [] s (record { line = line; whole = true; rest = rest }) → Some line ≡ only (map (take limit) (lines_of s))
    go [] H = let z : true ≡ false = H.whole in let n : ◌≡◌ {A = ℕ} 0 1 = cc in absurd (omega arith)
    go (b ∷ s) H =
        let l : lines_of (b ∷ s) ≡ first_line (b ∷ s) ∷ [] = first_then b s ∙ ap (λ (x : List ℕ). first_line (b ∷ s) ∷ lines_of x) (sym H.rest ∙ nothing) in
        rw l (ap Some H.line)

-- where it hands out none, the input is empty
no_line : (limit : ℕ) → 0 < limit → (chunks : List (List ℕ)) {line : List ℕ} {rest : List (List ℕ)} → next_line limit [] chunks ≡ record { line = line; whole = false; rest = rest } → flatten chunks ≡ []
no_line limit h chunks {line = line} {rest = rest} e = go (flatten chunks) (ap (λ (r : Handed). r.whole) (sym e) ∙ (hands limit h chunks).whole)
  where
    go : (s : List ℕ) → false ≡ not (is_empty s) → s ≡ []
    go [] z = refl
    go (b ∷ s) z = cc

-- ---- what is returned

-- behind two line feeds there is not just one line
many : (limit : ℕ) (s : List ℕ) → None ≡ only (map (take limit) (lines_of (s ++ 10 ∷ 10 ∷ [])))
unfolding only lines_of
many limit s = go (lines_of (s ++ 10 ∷ 10 ∷ [])) (two s)
  where
    Two : List (List ℕ) → Type 0
    Two [] = ⊥
    Two (l ∷ []) = ⊥
    Two (l ∷ k ∷ ls) = Unit {0}

    two : (s : List ℕ) → Two (lines_of (s ++ 10 ∷ 10 ∷ []))
    two [] = tt
    two (b ∷ s) = pick (eqb b 10) (lines_of (s ++ 10 ∷ 10 ∷ [])) (two s)
      where
        pick : (c : Bool) (ls : List (List ℕ)) → Two ls → Two (cond c ([] ∷ ls) (led b ls))
        pick c [] t = absurd t
        pick c (l ∷ []) t = absurd t
        pick true (l ∷ k ∷ ls) t = tt
        pick false (l ∷ k ∷ ls) t = tt

    go : (ls : List (List ℕ)) → Two ls → None ≡ only (map (take limit) ls)
    go [] t = absurd t
    go (l ∷ []) t = absurd t
    go (l ∷ k ∷ ls) t = refl

-- ---- what is returned of a chunk that is lent

pub read_none : (left line' : List ℕ) (n : ℕ) → n ≤ length line' → OnlyHeld left line' (record { one = false; have = n })
read_none left line' n h = record { fits = h; more = 10 ∷ 10 ∷ []; is = many (length line') left }

module _ {left chunk' line' : List ℕ} (p : Input) (R : Reads [] left chunk' line' p) (some-room : 1 ≤ length line') (w : p.whole ≡ true) where
  -- the input has ended behind the line
  pub read_last : p.ended ≡ true → OnlyHeld left line' (record { one = true; have = p.have })
  unfolding flatten
  read_last d = record {
    fits = R.ready.kept;
    more = flatten R.splits.chunks;
    is = one_line (length line') some-room (left ∷ R.splits.chunks) (rw (w, d) at R.splits.is) refl;
  }

  -- another call has come to no line
  pub read_then : {chunk'' more : List ℕ} (q : Input) → p.ended ≡ false → Reads [] (between p.at p.end chunk') chunk'' more q → 1 ≤ length more → q.whole ≡ false → OnlyHeld left line' (record { one = q.ended; have = p.have })
  unfolding flatten
  read_then {more = more} q d Q room v = go q.ended _ _ (rw v at Q.splits.is)
    where
      after : List ℕ
      after = between p.at p.end chunk'

      go : (ended : Bool) (line left'' : List ℕ) → Reached false ended (length more) [] (after ∷ Q.splits.chunks) line left'' → OnlyHeld left line' (record { one = ended; have = p.have })
      go false line left'' r = read_none left line' p.have R.ready.kept
      go true line left'' r = record {
        fits = R.ready.kept;
        more = flatten (R.splits.chunks ++ Q.splits.chunks);
        is = one_line (length line') some-room ((left ∷ R.splits.chunks) ++ Q.splits.chunks) ((rw (w, d) at R.splits.is) Q.splits.chunks) (no_line (length more) room (after ∷ Q.splits.chunks) r);
      }

-- ---- what is returned of standard input

pub only_none : (left line' : List ℕ) → OnlyRead left line' None
only_none left line' = record { within = tt; more = 10 ∷ 10 ∷ []; is = many (length line') left }

-- a line was handed out, and then none, since the input has ended
module _ {before mid after : Lines} {line' more : List ℕ} {have : ℕ} (H : Handing before mid line' (Some have)) (K : Handing mid after more None)
    (room : 1 ≤ length line') (some-room : 1 ≤ length more) (d : after.ended ≡ true) where
  told : Splits (length line') [] (left_of before) true mid.ended H.line (left_of mid) → (e : Bool) → mid.ended ≡ e → OnlyRead (left_of before) line' (Some have)
  unfolding flatten
  told S true e = record {
    within = H.is.0;
    more = flatten S.chunks;
    is = ap Some (sym H.is.1) ∙ one_line (length line') room (left_of before ∷ S.chunks) (rw e at S.is) refl;
  }
  told S false e =
      let Q = K.splits e in
      record {
        within = H.is.0;
        more = flatten (S.chunks ++ Q.chunks);
        is = ap Some (sym H.is.1) ∙ one_line (length line') room ((left_of before ∷ S.chunks) ++ Q.chunks) ((rw e at S.is) Q.chunks) (no_line (length more) some-room (left_of mid ∷ Q.chunks) (rw d at Q.is));
      }

  pub only_one : OnlyRead (left_of before) line' (Some have)
  only_one = elim before.ended as (λ b. before.ended ≡ b → OnlyRead (left_of before) line' (Some have)) [ true ↦ λ e. cc (H.over e).0 | false ↦ λ e. told (H.splits e) mid.ended refl ] refl
