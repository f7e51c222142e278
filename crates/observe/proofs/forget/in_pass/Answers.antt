use Rattle.observe.proofs.Forgetting as forgetting
use Rattle.observe.proofs.forget.in_pass.Goals as goal

pub returns-then-is_staged : goal.returns-then-is_staged
returns-then-is_staged c = forgetting.in_pass_staged _ c.is_staged.ensures c.if-is_staged.true

pub returns : goal.returns
returns c = forgetting.in_pass_observed _ c.is_staged.ensures c.if-is_staged.false c.has.ensures
