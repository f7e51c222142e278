use Rattle.model.specs.Maps.{keys}
use Rattle.model.specs.Sync.{restart_edit}
use Rattle.observe.proofs.Each as each
use Rattle.restarts.proofs.Laws as laws
use Rattle.restarts.proofs.restart_edits.Goals as goal

pub restart_each-requires : goal.restart_each-requires
restart_each-requires c = record { has_state = c.requires; named = laws.queues_named _ _ c.requires c.resources-names.ensures }

pub returns : goal.returns
returns c = each.names_read restart_edit _ (λ s. keys s.edits) c.requires c.resources-names.ensures c.restart_each.ensures
