use Rattle.merge.proofs.Laws as laws
use Rattle.merge.proofs.after_fields.Goals as goal

pub returns : goal.returns
returns c = laws.after_is c.args.event.now _ _ _ c.fields_end-c.ensures c.skip_tag-d.ensures c.part.ensures
