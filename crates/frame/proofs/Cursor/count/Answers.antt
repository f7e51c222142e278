use Prim.Native.Nat.{suc}
use native.Mathlib.Omega.{arith}
use Rattle.format.specs.Format.{below}
use Rattle.frame.proofs.Steps.{found_stopped, found_past, byte_bad, byte_good, below_empty}
use Rattle.frame.proofs.Cursor.count.Goals as goal

pub returns-then-not-self : goal.returns-then-not-self
returns-then-not-self c =
    let a = c.args in
    found_stopped (below (suc a.limit)) 0 a.frame.now a.self c.if-not-self.true

pub returns-then-frame-at : goal.returns-then-frame-at
returns-then-frame-at c =
    let a = c.args in
    found_past (below (suc a.limit)) 0 a.frame.now a.self (below_empty (suc a.limit)) c.if-frame-at.true

pub returns-then-limit-b : goal.returns-then-limit-b
returns-then-limit-b c =
    let a = c.args in
    byte_bad (suc a.limit) a.frame.now a.self c.if-not-self.false c.if-frame-at.false (let h = c.if-limit-b.true in omega arith)

pub returns : goal.returns
returns c =
    let a = c.args in
    byte_good (suc a.limit) a.frame.now a.self c.if-not-self.false c.if-frame-at.false (let h = c.if-limit-b.false in omega arith)
