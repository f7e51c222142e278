use Rattle.sender_turns.proofs.StepLaws.{Asks}
use Rattle.sender_turns.proofs.Sender.next.Given as goal

abbrev pub invariant-loop-asked : goal.invariant-loop-asked
invariant-loop-asked l = Asks l.self l.asked
