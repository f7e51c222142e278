use mathlib.Core.Path.{sym, ◌∙◌, subst}
use Rattle.model.specs.Formats.{resource_id}
use Rattle.model.specs.Event.{Text}
use Rattle.passes.proofs.Listing as laws
use Rattle.observe.proofs.Observing as observing
use Rattle.passes.proofs.changes.list_upsert.Goals as goal

pub name_from-name-requires : goal.name_from-name-requires
name_from-name-requires c = subst (λ (x : Text). resource_id.Ok x) (sym c.bytes.ensures.result_value) c.requires.ok.0

pub doubtful-doubted-requires : goal.doubtful-doubted-requires
doubtful-doubted-requires c = record { has_state = c.requires.has_state; named = c.name_from-name.ensures.1 }

pub learn-learned-requires : goal.learn-learned-requires
learn-learned-requires c = record { has_state = c.requires.has_state; named = c.name_from-name.ensures.1 }

pub see-seen-requires : goal.see-seen-requires
see-seen-requires c = record { has_state = (observing.still c.learn-learned.ensures c.requires.has_state); named = c.name_from-name.ensures.1 }

pub stage_unread-requires : goal.stage_unread-requires
stage_unread-requires c = record { has_state = (observing.still c.see-seen.ensures (observing.still c.learn-learned.ensures c.requires.has_state)); named = c.name_from-name.ensures.1 }

pub returns-then-doubted : goal.returns-then-doubted
returns-then-doubted c = laws.upsert_doubted c.args.id c.name_from-name.result.bytes _ (c.name_from-name.ensures.0 ∙ c.bytes.ensures.result_value) c.doubtful-doubted.ensures c.learn-learned.ensures _ _ c.see-seen.ensures c.if-doubted.true c.stage_unread.ensures

pub stage_listed-requires : goal.stage_listed-requires
stage_listed-requires c = record { has_state = (observing.still c.see-seen.ensures (observing.still c.learn-learned.ensures c.requires.has_state)); named = (c.name_from-name.ensures.1, c.requires.ok.1, c.requires.ok.2) }

pub returns : goal.returns
returns c = laws.upsert_found c.args.id c.name_from-name.result.bytes _ (c.name_from-name.ensures.0 ∙ c.bytes.ensures.result_value) c.doubtful-doubted.ensures c.learn-learned.ensures _ _ c.see-seen.ensures c.if-doubted.false c.stage_listed.ensures
