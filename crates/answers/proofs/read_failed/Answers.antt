use Rattle.frame.specs.Meaning.{meant_failure}
use Rattle.answers.proofs.Found as found
use Rattle.answers.proofs.read_failed.Goals as goal

pub returns-in_default : goal.returns-in_default
returns-in_default c = found.other_failed _ _ (meant_failure c.args.frame.now c.args.failure) (found.other_failure c.args.frame.now c.args.failure c.in_default.not-NotFound c.in_default.not-Transient) c.finish.ensures
