use Rattle.merge.proofs.Laws as laws
use Rattle.merge.proofs.fields_end.Goals as goal

pub returns : goal.returns
returns c = laws.end_is c.args.event.now _ _ c.fields_place.ensures c.skip_fields.ensures
