use Rattle.wellformed.proofs.States.{flights_hold, entries_hold, across_is}
use Rattle.wellformed.proofs.buffer.across.Goals as goal

pub agree-requires-clause-holds : goal.agree-requires-clause-holds
agree-requires-clause-holds c = (flights_hold c.requires.keeps).1

pub agree-requires-clause-holds_2 : goal.agree-requires-clause-holds_2
agree-requires-clause-holds_2 c = (entries_hold c.requires.keeps).1

pub returns : goal.returns
returns c = across_is c.args.state.now c.next_request.result _ c.next_request.ensures c.agree.ensures
