use Rattle.merge.proofs.Laws as laws
use Rattle.merge.proofs.fields_place.Goals as goal

pub returns : goal.returns
returns c = laws.place_is c.args.event.now _ _ _ c.skip_ids.ensures c.skip_option_short_text.ensures c.number-version.ensures.place
