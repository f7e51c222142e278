use Rattle.format.proofs.FormatLaws.{number_law}
use Rattle.frame.specs.declared.Cursor.{Cursor}
use mathlib.Core.Path.{ap}
use Rattle.queues.proofs.Parts as parts
use Rattle.queues.proofs.places.tag_at.Goals as goal

pub returns : goal.returns
returns c = parts.part_stands (number_law 8) c.args.src.now c.args.at _ _ (ap (λ (c : Cursor). c.at) c.skip_tag-end.ensures) c.part.ensures
