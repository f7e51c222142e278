use Rattle.passes.proofs.Answering as answering
use Rattle.passes.proofs.pass_reads.abandon_if_open.Goals as goal

pub returns-then-is_open : goal.returns-then-is_open
returns-then-is_open c = answering.given_up c.is_open.ensures _ c.if-is_open.true c.abandon_pass.ensures

pub returns : goal.returns
returns c = answering.not_given_up c.is_open.ensures _ c.if-is_open.false
