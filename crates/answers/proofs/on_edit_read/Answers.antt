use Rattle.frame.specs.Meaning.{meant_outcome}
use Rattle.answers.proofs.Found as found
use Rattle.answers.proofs.on_edit_read.Goals as goal

pub edit_read_found-requires : goal.edit_read_found-requires
edit_read_found-requires c = record { has_state = c.requires.has_state; named = (c.requires.named.0, found.read_ok _ _ c.in-Read.is c.requires.named.1) }

pub returns-in_default : goal.returns-in_default
returns-in_default c = found.other _ _ (meant_outcome c.args.frame.now c.args.outcome) (found.other_outcome c.args.frame.now c.args.outcome c.in_default.not-Read c.in_default.not-Failed) c.finish.ensures
