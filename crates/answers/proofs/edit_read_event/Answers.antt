use Rattle.answers.proofs.Found as found
use mathlib.Core.List.{[]}
use Rattle.answers.proofs.edit_read_event.Goals as goal

pub plan_found-requires : goal.plan_found-requires
plan_found-requires c = record { has_state = let I = c.requires.named.1 in ((c.observe_some-q.ensures I.event I.ok I.is).does []).state c.requires.has_state; named = (c.requires.named.0, c.requires.named.1) }

pub returns : goal.returns
returns c = λ t k e. found.found_event _ _ c.doubtful.ensures t c.if-doubtful.false ((c.observe_some-q.ensures t k e).does _) (c.plan_found.ensures t k e)
