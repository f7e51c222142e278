use Rattle.looks.proofs.Laws.{shows_number, number_room}
use native.Mathlib.Omega.{arith}
use Rattle.looks.proofs.put_number.Goals as goal

pub put_digits-requires : goal.put_digits-requires
put_digits-requires c = let e = number_room _ c.to_be.ensures in omega arith

pub returns : goal.returns
returns c = shows_number _ c.to_be.ensures c.put_digits.ensures
