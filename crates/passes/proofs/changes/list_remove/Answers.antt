use mathlib.Core.Path.{sym, ◌∙◌, subst}
use Rattle.model.specs.Formats.{resource_id}
use Rattle.model.specs.Event.{Text}
use Rattle.passes.proofs.Listing as laws
use Rattle.observe.proofs.Observing as observing
use Rattle.passes.proofs.changes.list_remove.Goals as goal

pub name_from-name-requires : goal.name_from-name-requires
name_from-name-requires c = subst (λ (x : Text). resource_id.Ok x) (sym c.bytes.ensures.result_value) c.requires.ok

pub doubtful-doubted-requires : goal.doubtful-doubted-requires
doubtful-doubted-requires c = record { has_state = c.requires.has_state; named = c.name_from-name.ensures.1 }

pub learn-learned-requires : goal.learn-learned-requires
learn-learned-requires c = record { has_state = c.requires.has_state; named = c.name_from-name.ensures.1 }

pub stage_unread-requires : goal.stage_unread-requires
stage_unread-requires c = record { has_state = (observing.still c.learn-learned.ensures c.requires.has_state); named = c.name_from-name.ensures.1 }

pub returns-then-doubted : goal.returns-then-doubted
returns-then-doubted c = laws.remove_doubted c.args.id c.name_from-name.result.bytes _ (c.name_from-name.ensures.0 ∙ c.bytes.ensures.result_value) c.doubtful-doubted.ensures c.learn-learned.ensures c.if-doubted.true c.stage_unread.ensures

pub stage_removed-requires : goal.stage_removed-requires
stage_removed-requires c = record { has_state = (observing.still c.learn-learned.ensures c.requires.has_state); named = c.name_from-name.ensures.1 }

pub returns : goal.returns
returns c = laws.remove_sure c.args.id c.name_from-name.result.bytes _ (c.name_from-name.ensures.0 ∙ c.bytes.ensures.result_value) c.doubtful-doubted.ensures c.learn-learned.ensures c.if-doubted.false c.stage_removed.ensures
