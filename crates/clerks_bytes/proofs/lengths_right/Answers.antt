use Rattle.clerks_bytes.proofs.BufferLaws.{wrong_one, wrong_two, right_so_far}
use Rattle.clerks_bytes.proofs.lengths_right.Goals as goal

pub returns-then-one-ne-LINE : goal.returns-then-one-ne-LINE
returns-then-one-ne-LINE c = wrong_one _ _ _ c.if-one-ne-LINE.true

pub returns-then-two-ne-LINE : goal.returns-then-two-ne-LINE
returns-then-two-ne-LINE c = wrong_two _ _ _ c.if-one-ne-LINE.false c.if-two-ne-LINE.true

pub returns : goal.returns
returns c = right_so_far _ _ _ c.if-one-ne-LINE.false c.if-two-ne-LINE.false
