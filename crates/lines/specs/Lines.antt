-- Lines of hexadecimal digits: the frame that a line holds, and the digits of bytes. A line is given without its line feed. Assumes nothing.
use Rattle.std.specs.Prelude.{ℕ, suc, ◌+◌, ◌*◌, ◌-◌, ◌/◌, ◌%◌, ◌≡◌, cond, ◌&&◌, List, [], ◌∷◌, ◌++◌, length, take, drop, leb, ltb, eqb, nat_le, if◌then◌else◌, Option, Some, None, option_and_then, option_map}

-- the digit of a number below 16: 0 to 9, a to f
unfoldable pub digit : ℕ → ℕ
digit n = cond (ltb n 10) (48 + n) (87 + n)

-- bytes in digits, the higher half of a byte first
unfoldable pub digits : List ℕ → List ℕ
digits [] = []
digits (b ∷ s) = digit (b / 16) ∷ digit (b % 16) ∷ digits s

-- the number of a digit
unfoldable pub value : ℕ → Option ℕ
value c = if nat_le 48 c && nat_le c 57 then Some (c - 48) else (if nat_le 97 c && nat_le c 102 then Some (c - 87) else None)

-- the byte of two digits
unfoldable pub pair : ℕ → ℕ → Option ℕ
pair a b = option_and_then (λ high. option_map (λ low. high * 16 + low) (value b)) (value a)

abbrev pub before : Option ℕ → Option (List ℕ) → Option (List ℕ)
before (Some b) (Some s) = Some (b ∷ s)
before (Some b) None = None
before None t = None

-- the bytes whose digits these are
unfoldable pub undigits : List ℕ → Option (List ℕ)
undigits [] = Some []
undigits (a ∷ []) = None
undigits (a ∷ b ∷ s) = before (pair a b) (undigits s)

abbrev pub held : Option (List ℕ) → List ℕ
held (Some s) = s
held None = []

-- the most digits of a line that holds a frame
abbrev pub max_digits : ℕ
max_digits = 16384

-- the bytes of the longest frame
abbrev pub max_frame : ℕ
max_frame = 8192

-- the frame that a line holds. A line that holds none has the empty frame, which is no input
unfoldable pub frame_of : List ℕ → List ℕ
frame_of line = cond (leb (length line) max_digits) (held (undigits line)) []

-- how many bytes stand before the first line feed, or in all where there is none
unfoldable pub line_length : List ℕ → ℕ
line_length [] = 0
line_length (b ∷ s) = cond (eqb b 10) 0 (suc (line_length s))

-- the bytes stand from `at` to `next`, and the rest is as it was
pub record Puts (bytes text text' : List ℕ) (at next : ℕ) : Type 0 where
  pub place : next ≡ at + length bytes
  pub is : text' ≡ take at text ++ (bytes ++ drop next text)
