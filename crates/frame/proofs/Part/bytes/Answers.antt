use Rattle.frame.proofs.Steps.{bytes_past, bytes_cut, bytes_all}
use Rattle.frame.proofs.Part.bytes.Goals as goal

pub returns-then-frame-at : goal.returns-then-frame-at
returns-then-frame-at c = bytes_past c.args.frame.now c.args.self.at c.args.self.length c.if-frame-at.true

pub returns-then-frame-at-2 : goal.returns-then-frame-at-2
returns-then-frame-at-2 c = bytes_cut c.args.frame.now c.args.self.at c.args.self.length c.if-frame-at-2.true

pub returns : goal.returns
returns c = bytes_all c.args.frame.now c.args.self.at c.args.self.length
