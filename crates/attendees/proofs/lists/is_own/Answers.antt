use Rattle.attendees.proofs.Laws as laws
use Rattle.attendees.proofs.lists.is_own.Goals as goal

pub returns-then-owner : goal.returns-then-owner
returns-then-owner c = laws.own_owner c.args.owner c.args.me.now c.args.wanted.now c.if-owner.true

pub returns : goal.returns
returns c = laws.own_me c.args.owner c.args.me.now c.args.wanted.now _ c.if-owner.false c.same_folded.ensures
