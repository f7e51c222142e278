-- What may be printed: line feeds, printable ASCII, and whole UTF-8 characters that are no control characters and end no line. Assumes nothing.
use Rattle.std.specs.Prelude.{ℕ, suc, ◌≤◌, ◌≡◌, List, [], ◌∷◌, ◌++◌, Bool, true, cond, not, ◌&&◌, ◌||◌, T, ltb, eqb, length, get_or, take, Some, None}
use Rattle.format.specs.Utf8.{range, inside, following, is_text}
use Rattle.io.specs.Digits.{IsDigitCount, last_digits}
use Rattle.pens.specs.declared.Pen.{Pen}
use Rattle.pens.specs.Writing.{Wrote}

-- how many bytes the character takes that starts with this byte; 0 where none does
unfoldable pub width_of : ℕ → ℕ
width_of b = elim (following b) [ None ↦ 0 | Some rs ↦ suc (length rs) ]

-- the bytes are one character: well-formed UTF-8, and as many as its first byte says
unfoldable pub is_character : List ℕ → Bool
is_character c = is_text c && eqb (length c) (width_of (get_or c 0 0))

-- a character that no terminal is to get: a control character (below 32; 127; U+0080 to U+009F, which are c2 80 to c2 9f), or one that ends
-- a line or a paragraph (U+2028 and U+2029, which are e2 80 a8 and e2 80 a9)
unfoldable pub is_hidden : List ℕ → Bool
is_hidden c =
    ltb (get_or c 0 0) 0x20
    || eqb (get_or c 0 0) 0x7f
    || (eqb (get_or c 0 0) 0xc2 && ltb (get_or c 1 0) 0xa0)
    || (eqb (get_or c 0 0) 0xe2 && (eqb (get_or c 1 0) 0x80 && (eqb (get_or c 2 0) 0xa8 || eqb (get_or c 2 0) 0xa9)))

-- a character that is printed as it is
unfoldable pub is_visible : List ℕ → Bool
is_visible c = is_character c && not (is_hidden c)

-- what may be printed: line feeds and visible characters, one after the other
pub data Shown : List ℕ → Type 0 where
  no_more : Shown []
  line_feed : {s : List ℕ} → Shown s → Shown (0x0a ∷ s)
  one_more : (c : List ℕ) {s : List ℕ} → T (is_visible c) → Shown s → Shown (c ++ s)

-- a line feed or printable ASCII
abbrev pub plain_byte : ℕ → Bool
plain_byte b = eqb b 0x0a || inside (range 0x20 0x7e) b

-- bytes that are all so, as the rules' text and fixed words are
abbrev pub plain : List ℕ → Bool
plain [] = true
plain (b ∷ s) = plain_byte b && plain s

-- how many bytes the visible character at the front takes; 0 where none is there
unfoldable pub front_of : List ℕ → ℕ
front_of s = cond (is_visible (take (width_of (get_or s 0 0)) s)) (width_of (get_or s 0 0)) 0

-- what stands before a writing place may be printed, unless the place is stopped
pub record Ready (s : List ℕ) (p : Pen) : Type 0 where
  pub ready : p.ok ≡ true → (p.at ≤ length s) × Shown (take p.at s)

-- a writer that adds nothing but what may be printed
pub record Shows (before after : List ℕ) (p q : Pen) : Type 0 where
  pub shows : Ready before p → Ready after q

-- the number n in decimal digits, as few as hold it
pub record Decimal (before after : List ℕ) (p q : Pen) (n : ℕ) : Type 0 where
  pub count : ℕ
  pub fewest : IsDigitCount 10 1 n count
  pub wrote : Wrote before after p q (last_digits 10 count n)
