use Rattle.format.specs.Format.{number}
use Rattle.frame.proofs.Steps.{found_stopped}
use Rattle.frame.proofs.Digits.{number_past, number_short, number_good}
use Rattle.frame.proofs.Cursor.number.Goals as goal

pub returns-then-not-self : goal.returns-then-not-self
returns-then-not-self c =
    let a = c.args in
    found_stopped (number a.w) 0 a.frame.now a.self c.if-not-self.true

pub returns-then-frame-at : goal.returns-then-frame-at
returns-then-frame-at c =
    let a = c.args in
    number_past a.w a.frame.now a.self c.requires.0 c.if-frame-at.true

pub returns-then-frame-at-2 : goal.returns-then-frame-at-2
returns-then-frame-at-2 c =
    let a = c.args in
    number_short a.w a.frame.now a.self c.if-not-self.false c.if-frame-at.false c.if-frame-at-2.true

pub returns : goal.returns
returns c =
    let a = c.args in
    number_good a.w a.frame.now a.self c.if-not-self.false c.if-frame-at.false c.if-frame-at-2.false c.big_endian-v.result c.big_endian-v.ensures
