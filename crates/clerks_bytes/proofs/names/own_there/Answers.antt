use Rattle.clerks_bytes.proofs.NameLaws.{there_owner, there_own, there_other}
use Rattle.clerks_bytes.proofs.names.own_there.Goals as goal

pub returns-then-is_owner : goal.returns-then-is_owner
returns-then-is_owner c = there_owner c.args.role.now c.args.list.now c.args.address.now _ c.is_owner.ensures c.if-is_owner.true

pub returns-then-same_folded : goal.returns-then-same_folded
returns-then-same_folded c = there_own c.args.role.now c.args.list.now c.args.address.now _ c.is_owner.ensures _ _ c.if-is_owner.false c.writer.ensures c.same_folded.ensures c.if-same_folded.true _ c.stands.ensures

pub returns : goal.returns
returns c = there_other c.args.role.now c.args.list.now c.args.address.now _ c.is_owner.ensures _ _ c.if-is_owner.false c.writer.ensures c.same_folded.ensures c.if-same_folded.false
