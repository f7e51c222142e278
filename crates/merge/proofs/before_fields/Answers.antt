use Rattle.merge.proofs.Laws as laws
use Rattle.merge.proofs.before_fields.Goals as goal

pub returns : goal.returns
returns c = laws.before_is c.args.event.now _ _ c.fields_place-c.ensures c.part.ensures
