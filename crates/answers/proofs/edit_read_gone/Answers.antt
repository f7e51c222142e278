use Rattle.answers.proofs.Found as found
use mathlib.Core.List.{[]}
use Rattle.answers.proofs.edit_read_gone.Goals as goal

pub plan_gone-requires : goal.plan_gone-requires
plan_gone-requires c = record { has_state = (c.observe_missing-q.ensures.does []).state c.requires.has_state; named = c.requires.named }

pub returns : goal.returns
returns c = found.found_none _ _ c.doubtful.ensures c.if-doubtful.false (c.observe_missing-q.ensures.does _) c.plan_gone.ensures
