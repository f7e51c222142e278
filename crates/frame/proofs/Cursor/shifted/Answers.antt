use borrow.Author.Tests.{not-true, not-false}
use Rattle.frame.proofs.Cursor.shifted.Goals as goal

pub returns-then-not-self : goal.returns-then-not-self
returns-then-not-self c = rw (not-true c.args.self.ok c.if-not-self.true)

pub returns : goal.returns
returns c = rw (not-false c.args.self.ok c.if-not-self.false)
