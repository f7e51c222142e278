use Rattle.dispatch.proofs.Laws as laws
use Rattle.dispatch.proofs.outcome_of.Goals as goal

pub returns-in-None : goal.returns-in-None
returns-in-None c = laws.unknown _ _ c.purpose.result c.purpose.ensures.reads c.in-None.is

pub returns-in-Some : goal.returns-in-Some
returns-in-Some c = laws.known _ _ c.purpose.result c.purpose.ensures.reads _ c.in-Some.is c.known_outcome.ensures
