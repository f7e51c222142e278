use Rattle.looks.proofs.Laws.{shows_text}
use Rattle.lines.proofs.Laws.{digits_place}
use mathlib.Core.Path.{refl}
use mathlib.Core.List.{[], ◌∷◌}
use native.Mathlib.Omega.{arith}
use Rattle.looks.proofs.put_text.Goals as goal

pub put_digits-requires : goal.put_digits-requires
put_digits-requires c = let p = digits_place (_ ∷ []) c.put_byte-first.ensures in omega arith

pub returns : goal.returns
returns c = shows_text _ refl c.requires.1 c.put_byte-first.ensures c.put_digits.ensures
