use Rattle.frame.specs.Meaning.{meant_edit}
use mathlib.Core.Path.{sym, ◌∙◌, subst}
use Rattle.model.specs.Event.{Text}
use Rattle.model.specs.Formats.{resource_id}
use Rattle.names.specs.declared.Name.{Name}
use Rattle.state.specs.Contract.{Reads}
use Rattle.state.specs.Values.{name_of}
use Rattle.queues.specs.Enqueue.{target_of}
use Rattle.queues.proofs.Folding as folding
use Rattle.queues.proofs.Queueing as queueing
use Rattle.queues.proofs.enqueuing.target.Goals as goal

pub name_from-name-requires : goal.name_from-name-requires
name_from-name-requires c =
    subst (λ (x : Text). resource_id.Ok x) (sym c.bytes.ensures.result_value)
    (folding.edit_parts (meant_edit c.args.frame.now c.args.edit) c.requires.ok).resource

pub returns-then-is_create-clause-reads : goal.returns-then-is_create-clause-reads
returns-then-is_create-clause-reads c = queueing.target_create (meant_edit c.args.frame.now c.args.edit) (c.is_create.ensures c.args.frame.now) c.if-is_create.true (c.name_from-name.ensures.0 ∙ c.bytes.ensures.result_value)

pub returns-clause-reads : goal.returns-clause-reads
returns-clause-reads c =
    subst (λ (n : Name). Reads (target_of (meant_edit c.args.frame.now c.args.edit)) c.args.work.now (name_of n.bytes)) (sym c.unwrap_or.ensures)
    (queueing.target_other (meant_edit c.args.frame.now c.args.edit) (c.is_create.ensures c.args.frame.now) c.name_from-name.result c.alias.result c.if-is_create.false (c.name_from-name.ensures.0 ∙ c.bytes.ensures.result_value) c.alias.ensures.reads)
