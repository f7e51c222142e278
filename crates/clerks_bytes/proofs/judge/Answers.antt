use mathlib.Core.Path.{◌∙◌}
use borrow.Author.Tests.{not-true, not-false}
use Rattle.clerks_bytes.proofs.JudgeLaws.{fills_no_frame, fills_twice, fills_too_many, fills_lines}
use Rattle.clerks_bytes.proofs.judge.Goals as goal

pub returns-then-not-c : goal.returns-then-not-c
returns-then-not-c c = (fills_no_frame c.args.frame.now c.clerks_in-c.result _ _ _ c.clerks_in-c.ensures (not-true c.clerks_in-c.result.ok c.if-not-c.true) c.refused.ensures, c.requires.2)

pub returns-then-any_doubled : goal.returns-then-any_doubled
returns-then-any_doubled c = (fills_twice c.args.frame.now c.clerks_in-c.result c.clerks_in-c.ensures (not-false c.clerks_in-c.result.ok c.if-not-c.false) c.any_doubled.result c.any_doubled.ensures _ _ _ c.if-any_doubled.true c.refused-then-any_doubled.ensures, c.requires.2)

pub returns-then-too_many : goal.returns-then-too_many
returns-then-too_many c = (fills_too_many c.args.frame.now c.clerks_in-c.result c.clerks_in-c.ensures (not-false c.clerks_in-c.result.ok c.if-not-c.false) c.any_doubled.result c.any_doubled.ensures c.if-any_doubled.false _ _ c.requires.2 c.too_many.result c.too_many.ensures _ _ _ c.if-too_many.true c.refused-then-too_many.ensures, c.too_many.ensures.long ∙ c.requires.2)

pub returns : goal.returns
returns c = (
  fills_lines c.args.frame.now c.clerks_in-c.result c.clerks_in-c.ensures (not-false c.clerks_in-c.result.ok c.if-not-c.false) c.any_doubled.result c.any_doubled.ensures c.if-any_doubled.false _ _ c.requires.2 c.too_many.result c.too_many.ensures c.if-too_many.false _ _ _ _ _ _ _ _ c.requires.0 c.requires.1 c.line-a.ensures c.line-b.ensures,
  c.line-b.ensures.long ∙ c.line-a.ensures.long ∙ c.too_many.ensures.long ∙ c.requires.2,
)
