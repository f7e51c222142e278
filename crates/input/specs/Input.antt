-- The lines of an input, and the splitter that takes them out of its chunks. Assumes nothing.
use Rattle.std.specs.Prelude.{ℕ, zero, suc, ◌≡◌, Bool, true, false, cond, not, List, [], ◌∷◌, ◌++◌, length, take, drop, eqb, ltb}
use Rattle.lines.specs.Lines.{line_length}

-- ---- the lines

-- a byte before the first line, or a line of its own where there is none
abbrev pub led : ℕ → List (List ℕ) → List (List ℕ)
led b [] = (b ∷ []) ∷ []
led b (l ∷ ls) = (b ∷ l) ∷ ls

-- an input is cut at its line feeds. The last line may lack its line feed, and none comes behind a last line feed
unfoldable pub lines_of : List ℕ → List (List ℕ)
lines_of [] = []
lines_of (b ∷ s) = cond (eqb b 10) ([] ∷ lines_of s) (led b (lines_of s))

-- ---- the splitter

-- what a step leaves: the bytes that are kept of the line, whether the line is whole, and what is left of the chunk
pub record Taken : Type 0 where
  pub line : List ℕ
  pub whole : Bool
  pub left : List ℕ

-- a step: the line ends at the chunk's first line feed, or goes on behind the chunk. At most `limit` bytes of it are kept
unfoldable pub taken : ℕ → List ℕ → List ℕ → Taken
taken limit kept chunk = record {
  line = take limit (kept ++ take (line_length chunk) chunk);
  whole = ltb (line_length chunk) (length chunk);
  left = drop (suc (line_length chunk)) chunk;
}

-- what a call leaves: the line, whether there is one, and the chunks that are left, the first of them in part
pub record Handed : Type 0 where
  pub line : List ℕ
  pub whole : Bool
  pub rest : List (List ℕ)

abbrev pub is_empty : List ℕ → Bool
is_empty [] = true
is_empty (b ∷ s) = false

-- a call: the line goes on, chunk by chunk, until it is whole or the input ends. What is kept then is the last line, unless it is empty
unfoldable pub next_line : ℕ → List ℕ → List (List ℕ) → Handed
next_line limit kept [] = record { line = kept; whole = not (is_empty kept); rest = [] }
next_line limit kept (chunk ∷ chunks) =
    cond (taken limit kept chunk).whole
    (record { line = (taken limit kept chunk).line; whole = true; rest = (taken limit kept chunk).left ∷ chunks })
    (next_line limit (taken limit kept chunk).line chunks)

-- the lines that n calls hand out, one after the other, until one hands out none
unfoldable pub handed_out : ℕ → ℕ → List (List ℕ) → List (List ℕ)
handed_out limit zero chunks = []
handed_out limit (suc n) chunks =
    cond (next_line limit [] chunks).whole ((next_line limit [] chunks).line ∷ handed_out limit n (next_line limit [] chunks).rest) []

-- ---- what the functions promise

-- how far a call has come that began with the bytes `kept` and has read the chunks: the input has ended, or the line is whole, or it goes on in
-- what is left. The chunks that are still to come are free in the last two
abbrev pub Reached : Bool → Bool → ℕ → List ℕ → List (List ℕ) → List ℕ → List ℕ → Type 0
Reached whole true limit kept chunks line left = next_line limit kept chunks ≡ record { line = line; whole = whole; rest = [] }
Reached true false limit kept chunks line left = (more : List (List ℕ)) → next_line limit kept (chunks ++ more) ≡ record { line = line; whole = true; rest = left ∷ more }
Reached false false limit kept chunks line left = (more : List (List ℕ)) → next_line limit kept (chunks ++ more) ≡ next_line limit line (left ∷ more)

-- a call that began with `kept` and `left` has come so far, by some chunks that it has read
pub record Splits (limit : ℕ) (kept left : List ℕ) (whole ended : Bool) (line left' : List ℕ) : Type 0 where
  pub chunks : List (List ℕ)
  pub is : Reached whole ended limit kept (left ∷ chunks) line left'
