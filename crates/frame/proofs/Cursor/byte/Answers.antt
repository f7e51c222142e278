use Rattle.format.specs.Format.{below}
use Rattle.frame.proofs.Steps.{found_stopped, found_past, byte_bad, byte_good, below_empty}
use Rattle.frame.proofs.Cursor.byte.Goals as goal

pub returns-then-not-self : goal.returns-then-not-self
returns-then-not-self c =
    let a = c.args in
    found_stopped (below a.n) 0 a.frame.now a.self c.if-not-self.true

pub returns-then-frame-at : goal.returns-then-frame-at
returns-then-frame-at c =
    let a = c.args in
    found_past (below a.n) 0 a.frame.now a.self (below_empty a.n) c.if-frame-at.true

pub returns-then-n-b : goal.returns-then-n-b
returns-then-n-b c =
    let a = c.args in
    byte_bad a.n a.frame.now a.self c.if-not-self.false c.if-frame-at.false c.if-n-b.true

pub returns : goal.returns
returns c =
    let a = c.args in
    byte_good a.n a.frame.now a.self c.if-not-self.false c.if-frame-at.false c.if-n-b.false
