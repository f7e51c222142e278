use Rattle.machine.proofs.Runs as runs
use Rattle.passes.proofs.Passing as passing
use Rattle.passes.proofs.pages.list_more.Goals as goal

pub request_more-requires : goal.request_more-requires
request_more-requires c = record { has_state = runs.edited c.set_from.ensures c.requires.has_state; ok = c.requires.ok }

pub returns : goal.returns
returns c = passing.more_of c.args.cursor.now c.set_from.ensures c.request_more.ensures
