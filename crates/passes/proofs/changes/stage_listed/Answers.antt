use mathlib.Core.Path.{sym, subst}
use Rattle.model.specs.Formats.{short_text}
use Rattle.model.specs.Event.{Text}
use Rattle.passes.proofs.Listing as laws
use Rattle.passes.proofs.changes.stage_listed.Goals as goal

pub holds-requires : goal.holds-requires
holds-requires c = record { has_state = c.requires.has_state; named = (c.requires.named.0, subst (λ (x : Text). short_text.Ok x) (sym c.bytes.ensures.result_value) c.requires.named.1) }

pub unstage-requires : goal.unstage-requires
unstage-requires c = record { has_state = c.requires.has_state; named = c.requires.named.0 }

pub returns-then-holds : goal.returns-then-holds
returns-then-holds c = laws.held_already _ _ _ c.bytes.ensures.result_value _ c.holds.ensures c.if-holds.true c.unstage.ensures

pub stage_found-requires : goal.stage_found-requires
stage_found-requires c = record { has_state = c.requires.has_state; named = (c.requires.named.0, c.requires.named.2) }

pub returns : goal.returns
returns c = laws.held_not _ _ _ c.bytes.ensures.result_value _ c.holds.ensures c.if-holds.false c.stage_found.ensures
