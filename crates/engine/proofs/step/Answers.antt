use mathlib.Core.Bool.{not}
use mathlib.Core.Path.{ap}
use Rattle.engine.proofs.Laws as laws
use Rattle.engine.proofs.Entry as entry
use mathlib.Core.Path.{refl, sym, ◌∙◌}
use mathlib.Core.Bool.{false≢true}
use borrow.Author.Tests.{not-true, not-false}
use Rattle.engine.proofs.step.Goals as goal

pub returns-then-not-lengths_right : goal.returns-then-not-lengths_right
returns-then-not-lengths_right c = entry.wrong_lengths c.args.state.now c.args.work.now c.args.out.now c.args.frame.now _ refl refl (sym (not-true _ (ap not c.if-not-lengths_right.true)) ∙ c.lengths_right.ensures)

pub returns-then-not-is_state : goal.returns-then-not-is_state
returns-then-not-is_state c = entry.no_state c.args.state.now c.args.work.now c.args.out.now c.args.frame.now _ _ _ (sym (not-false _ (ap not c.if-not-lengths_right.false)) ∙ c.lengths_right.ensures) (λ i. false≢true (sym (not-true _ (ap not c.if-not-is_state.true)) ∙ c.is_state.ensures.1 i)) c.refused.ensures

pub returns-in-NoFrame : goal.returns-in-NoFrame
returns-in-NoFrame c = entry.no_frame c.args.state.now c.args.work.now c.args.out.now c.args.frame.now _ _ _ (sym (not-false _ (ap not c.if-not-lengths_right.false)) ∙ c.lengths_right.ensures) (c.is_state.ensures.0 (not-false _ (ap not c.if-not-is_state.false))) (entry.no_input c.args.state.now c.args.work.now c.args.out.now c.args.frame.now _ c.in-NoFrame.is c.parse-parsed.ensures) c.refused-in-NoFrame.ensures

pub run-requires : goal.run-requires
run-requires c = record { has_state = entry.has_state (c.is_state.ensures.0 (not-false _ (ap not c.if-not-is_state.false))); ok = entry.input_ok c.args.state.now c.args.work.now c.args.out.now c.args.frame.now _ (entry.some_input c.args.state.now c.args.work.now c.args.out.now c.args.frame.now _ _ c.in-Frame.is c.parse-parsed.ensures); work_len = laws.right_work c.args.state.now c.args.work.now c.args.out.now (sym (not-false _ (ap not c.if-not-lengths_right.false)) ∙ c.lengths_right.ensures); in_bounds = laws.right_out c.args.state.now c.args.work.now c.args.out.now (sym (not-false _ (ap not c.if-not-lengths_right.false)) ∙ c.lengths_right.ensures) }

pub returns-in-Frame : goal.returns-in-Frame
returns-in-Frame c = entry.entered c.args.state.now c.args.work.now c.args.out.now c.args.frame.now _ _ _ _ _ (sym (not-false _ (ap not c.if-not-lengths_right.false)) ∙ c.lengths_right.ensures) (c.is_state.ensures.0 (not-false _ (ap not c.if-not-is_state.false))) (entry.some_input c.args.state.now c.args.work.now c.args.out.now c.args.frame.now _ _ c.in-Frame.is c.parse-parsed.ensures) c.run.ensures
