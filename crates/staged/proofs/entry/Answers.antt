use native.Mathlib.Omega.{arith}
use Rattle.staged.proofs.Laws as laws
use Rattle.staged.proofs.entry.Goals as goal

pub overflow_mul-at : goal.overflow_mul-at
overflow_mul-at c = omega (arith, laws.few c.args.work.now c.args.i c.requires.has_state c.requires.i_bound)

pub bounds-work-at : goal.bounds-work-at
bounds-work-at c = omega (arith, laws.few c.args.work.now c.args.i c.requires.has_state c.requires.i_bound)

pub returns-in-0 : goal.returns-in-0
returns-in-0 c = laws.entry_present c.args.work.now c.args.i c.requires.has_state c.requires.i_bound c.in-0.is

pub returns-in-1 : goal.returns-in-1
returns-in-1 c = laws.entry_unread c.args.work.now c.args.i c.requires.has_state c.requires.i_bound c.in-1.is

pub returns-in_default : goal.returns-in_default
returns-in_default c = laws.entry_removed c.args.work.now c.args.i c.requires.has_state c.requires.i_bound (omega arith) (omega arith)
