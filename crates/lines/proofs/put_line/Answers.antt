use Rattle.lines.proofs.Laws.{digits_place, puts_line}
use native.Mathlib.Omega.{arith}
use borrow.Author.Rules.{rules}
use Rattle.lines.proofs.put_line.Goals as goal

pub bounds-text-end : goal.bounds-text-end
bounds-text-end c = let p = digits_place c.args.bytes.now c.put_digits-end.ensures in omega arith

pub overflow_add-result : goal.overflow_add-result
overflow_add-result c = let p = digits_place c.args.bytes.now c.put_digits-end.ensures in omega arith

pub returns : goal.returns
returns c = puts_line c.args.bytes.now _ _ _ _ c.requires (search rules) c.put_digits-end.ensures
