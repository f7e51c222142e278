use Rattle.std.proofs.Common.{refl}
use Rattle.waiting.proofs.Reading as reading
use Rattle.waiting.proofs.readers.text_name.Goals as goal

pub returns : goal.returns
returns c = reading.text_copied c.args.src.now _ _ c.args.at c.from.result c.from.ensures refl c.requires.1 c.requires.2 c.copy_into.ensures
