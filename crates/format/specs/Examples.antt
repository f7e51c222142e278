-- RFC 3629's own examples, section 7, and the ill-formed sequences of section 10. Examples.antt of proofs/ has the theorem. Assumes nothing.
use Rattle.std.specs.Prelude.{◌≡◌, [], ◌∷◌, true, false}
use Rattle.format.specs.Utf8.{is_text}

pub record Examples : Type 0 where
  -- U+0041 U+2262 U+0391 U+002E, "A<NOT IDENTICAL TO><ALPHA>."
  pub not_identical : is_text (0x41 ∷ 0xe2 ∷ 0x89 ∷ 0xa2 ∷ 0xce ∷ 0x91 ∷ 0x2e ∷ []) ≡ true
  -- U+D55C U+AD6D U+C5B4, "hangugeo"
  pub hangugeo : is_text (0xed ∷ 0x95 ∷ 0x9c ∷ 0xea ∷ 0xb5 ∷ 0xad ∷ 0xec ∷ 0x96 ∷ 0xb4 ∷ []) ≡ true
  -- U+65E5 U+672C U+8A9E, "nihongo"
  pub nihongo : is_text (0xe6 ∷ 0x97 ∷ 0xa5 ∷ 0xe6 ∷ 0x9c ∷ 0xac ∷ 0xe8 ∷ 0xaa ∷ 0x9e ∷ []) ≡ true
  -- U+FEFF U+233B4
  pub stump : is_text (0xef ∷ 0xbb ∷ 0xbf ∷ 0xf0 ∷ 0xa3 ∷ 0x8e ∷ 0xb4 ∷ []) ≡ true
  -- an overlong NUL
  pub overlong_nul : is_text (0xc0 ∷ 0x80 ∷ []) ≡ false
  -- "/../" with an overlong dot
  pub overlong_dot : is_text (0x2f ∷ 0xc0 ∷ 0xae ∷ 0x2e ∷ 0x2f ∷ []) ≡ false
  -- U+233B4 as a pair of surrogates
  pub surrogates : is_text (0xed ∷ 0xa1 ∷ 0x8c ∷ 0xed ∷ 0xbe ∷ 0xb4 ∷ []) ≡ false
  -- U+10FFFF is the last character
  pub last : is_text (0xf4 ∷ 0x8f ∷ 0xbf ∷ 0xbf ∷ []) ≡ true
  pub past_last : is_text (0xf4 ∷ 0x90 ∷ 0x80 ∷ 0x80 ∷ []) ≡ false
  -- a character that is cut short
  pub cut_short : is_text (0xe2 ∷ 0x89 ∷ []) ≡ false
