use mathlib.Core.Path.{sym, ap, ◌∙◌}
use Rattle.state.proofs.Ops as ops
use Rattle.state.proofs.purpose_bytes.Goals as goal

pub returns-in-List : goal.returns-in-List
returns-in-List c = ops.purpose_is c.args.purpose _ c.requires (ap ops.purpose_slot (sym c.in-List.is))

pub returns-in-PassRead : goal.returns-in-PassRead
returns-in-PassRead c = ops.purpose_is c.args.purpose c.slot.result c.requires (c.slot.ensures ∙ ap ops.purpose_slot (sym c.in-PassRead.is))

pub returns-in-EditRead : goal.returns-in-EditRead
returns-in-EditRead c = ops.purpose_is c.args.purpose c.slot-in-EditRead.result c.requires (c.slot-in-EditRead.ensures ∙ ap ops.purpose_slot (sym c.in-EditRead.is))

pub returns-in-EditWrite : goal.returns-in-EditWrite
returns-in-EditWrite c = ops.purpose_is c.args.purpose c.slot-in-EditWrite.result c.requires (c.slot-in-EditWrite.ensures ∙ ap ops.purpose_slot (sym c.in-EditWrite.is))

pub returns-in-Refresh : goal.returns-in-Refresh
returns-in-Refresh c = ops.purpose_is c.args.purpose c.slot-in-Refresh.result c.requires (c.slot-in-Refresh.ensures ∙ ap ops.purpose_slot (sym c.in-Refresh.is))
