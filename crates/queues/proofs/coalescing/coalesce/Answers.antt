use mathlib.Core.Path.{◌∙◌}
use Rattle.frame.specs.Meaning.{meant_edit}
use Rattle.queues.proofs.Writers as writers
use Rattle.queues.proofs.Folding as folding
use native.Mathlib.Omega.{arith}
use borrow.Author.Rules.{rules}
use Rattle.queues.proofs.coalescing.coalesce.Goals as goal

pub put_role-n-requires : goal.put_role-n-requires
put_role-n-requires c = (search rules, (folding.edit_parts (meant_edit c.args.frame.now c.args.edit) c.requires.2).role)

pub slice_bounds-eq-end : goal.slice_bounds-eq-end
slice_bounds-eq-end c = writers.prefix c.put_role-n.ensures

pub fold_operation-requires : goal.fold_operation-requires
fold_operation-requires c = (let l = c.requires.0 in omega arith, c.requires.1, (folding.edit_parts (meant_edit c.args.frame.now c.args.edit) c.requires.2).operation)

pub returns-then-eq : goal.returns-then-eq
returns-then-eq c = folding.coalesce_so c.args.work.now c.args.at (meant_edit c.args.frame.now c.args.edit) c.role_at.ensures c.put_role-n.ensures.bytes (c.eq.ensures ∙ writers.same_of _ _) c.is_owner-deletes.result c.if-eq.true (c.is_owner-deletes.ensures c.args.frame.now) c.fold_operation.ensures

pub returns : goal.returns
returns c = folding.coalesce_apart c.args.work.now c.args.at (meant_edit c.args.frame.now c.args.edit) c.role_at.ensures c.put_role-n.ensures.bytes (c.eq.ensures ∙ writers.same_of _ _) c.if-eq.false
