use native.Mathlib.Omega.{arith}
use lib.ListN.{length-set}
use Rattle.clerks_bytes.proofs.BufferLaws.{line_is}
use Rattle.clerks_lines.proofs.Laws.{one_digit, two_digits}
use borrow.Author.Rules.{rules}
use Rattle.clerks_lines.proofs.put_number.Goals as goal

pub bounds-text-1 : goal.bounds-text-1
bounds-text-1 c = simp length-set (omega arith)

pub returns-then-n-lt10 : goal.returns-then-n-lt10
returns-then-n-lt10 c = one_digit c.args.text.now c.args.n (search rules) (search rules)

pub bounds-text-1-2 : goal.bounds-text-1-2
bounds-text-1-2 c = simp length-set (omega arith)

pub bounds-text-2 : goal.bounds-text-2
bounds-text-2 c = simp length-set (omega (arith, line_is))

pub returns : goal.returns
returns c = two_digits c.args.text.now c.args.n (search rules) (omega (arith, line_is))
