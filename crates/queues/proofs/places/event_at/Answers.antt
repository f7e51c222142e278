use Rattle.model.proofs.FormatsLaws.{event_f_law}
use Rattle.frame.specs.declared.Cursor.{Cursor}
use mathlib.Core.Path.{ap}
use Rattle.queues.proofs.Parts as parts
use Rattle.queues.proofs.places.event_at.Goals as goal

pub returns : goal.returns
returns c = parts.part_stands event_f_law c.args.src.now c.args.at _ _ (ap (λ (c : Cursor). c.at) c.skip_event-end.ensures) c.part.ensures
