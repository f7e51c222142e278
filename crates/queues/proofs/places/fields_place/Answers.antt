use Rattle.queues.proofs.Folding as folding
use Rattle.queues.proofs.places.fields_place.Goals as goal

pub returns : goal.returns
returns c = folding.place_of_fields c.args.src.now c.args.at c.requires c.skip_ids-ids.ensures c.skip_option_short_text.ensures c.number-version.ensures
