use Rattle.clerks_bytes.proofs.NameLaws.{entry_named}
use Rattle.pens.proofs.Laws.{wrote_then, wrote_as}
use mathlib.Core.Path.{◌∙◌}
use Rattle.clerks_bytes.proofs.names.entry_names.Goals as goal

pub shape_of-out : goal.shape_of-out
shape_of-out c = c.byte-2.ensures.long ∙ c.byte.ensures.long

pub returns : goal.returns
returns c = wrote_as (wrote_then c.byte.ensures c.byte-2.ensures) (entry_named c.args.order c.args.p.now c.args.q.now c.args.list.now c.args.address.now _ _ _ _ c.own_there-first.ensures c.own_there-second.ensures c.rest-rest.ensures c.reply-reply.ensures)
