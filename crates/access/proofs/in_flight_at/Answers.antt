use Rattle.std.specs.Prelude.{Some, None}
use Rattle.access.proofs.Laws.{answers_no, answers_yes, has_of, reads_number}
use mathlib.Core.Bool.{false}
use Rattle.access.specs.Answers.{numbered}
use Rattle.access.proofs.in_flight_at.Goals as goal

pub returns-then-code-ne0 : goal.returns-then-code-ne0
unfolding numbered
returns-then-code-ne0 c = answers_no c.refusal-code.ensures _ _ c.if-code-ne0.true

pub flight-requires : goal.flight-requires
flight-requires c = has_of c.refusal-code.ensures c.if-code-ne0.false

pub returns-in-None : goal.returns-in-None
unfolding numbered
returns-in-None c = answers_yes c.refusal-code.ensures (false, 0) c.if-code-ne0.false (reads_number None c.args.state.now c.flight.ensures c.in-None.is)

pub returns-in-Some : goal.returns-in-Some
unfolding numbered
returns-in-Some c = answers_yes c.refusal-code.ensures (false, 0) c.if-code-ne0.false (reads_number (Some _) c.args.state.now c.flight.ensures c.in-Some.is)
