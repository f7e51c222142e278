use Rattle.model.proofs.FormatsLaws.{fields_f_law}
use Rattle.frame.specs.declared.Cursor.{Cursor}
use mathlib.Core.Path.{ap}
use Rattle.queues.proofs.Parts as parts
use Rattle.queues.proofs.places.fields_at.Goals as goal

pub returns : goal.returns
returns c = parts.part_stands fields_f_law c.args.src.now c.args.at _ _ (ap (λ (c : Cursor). c.at) c.skip_fields-end.ensures) c.part.ensures
