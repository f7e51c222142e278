use Rattle.dispatch.proofs.Laws as laws
use Rattle.dispatch.proofs.on_outcome.Goals as goal

pub returns-in-List : goal.returns-in-List
returns-in-List c = laws.listing _ _ c.args.purpose c.in-List.is c.on_list.ensures

pub on_pass_read-requires : goal.on_pass_read-requires
on_pass_read-requires c = record { has_state = c.requires.has_state; named = (laws.pass_read_named c.args.purpose c.requires.named.0 _ c.in-PassRead.is, c.requires.named.1) }

pub returns-in-PassRead : goal.returns-in-PassRead
returns-in-PassRead c = laws.pass_read _ _ c.args.purpose _ c.in-PassRead.is c.on_pass_read.ensures

pub on_edit_read-requires : goal.on_edit_read-requires
on_edit_read-requires c = record { has_state = c.requires.has_state; named = (laws.edit_read_named c.args.purpose c.requires.named.0 _ c.in-EditRead.is, record { ok = c.requires.named.1 }) }

pub returns-in-EditRead : goal.returns-in-EditRead
returns-in-EditRead c = laws.edit_read _ _ c.args.purpose _ c.in-EditRead.is c.on_edit_read.ensures

pub on_edit_write-requires : goal.on_edit_write-requires
on_edit_write-requires c = record { has_state = c.requires.has_state; named = (laws.edit_write_named c.args.purpose c.requires.named.0 _ c.in-EditWrite.is, record { ok = c.requires.named.1 }) }

pub returns-in-EditWrite : goal.returns-in-EditWrite
returns-in-EditWrite c = laws.edit_write _ _ c.args.purpose _ c.in-EditWrite.is c.on_edit_write.ensures

pub on_refresh-requires : goal.on_refresh-requires
on_refresh-requires c = record { has_state = c.requires.has_state; named = (laws.refresh_named c.args.purpose c.requires.named.0 _ c.in-Refresh.is, c.requires.named.1) }

pub returns-in-Refresh : goal.returns-in-Refresh
returns-in-Refresh c = laws.refresh _ _ c.args.purpose _ c.in-Refresh.is c.on_refresh.ensures
