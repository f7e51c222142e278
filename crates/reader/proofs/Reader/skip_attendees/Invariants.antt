use Rattle.std.proofs.Common.{◌≡◌, ◌-◌}
use Rattle.format.specs.Format.{list}
use Rattle.model.specs.Limits.{max_attendees}
use Rattle.model.specs.Formats.{attendee_f}
use Rattle.reader.specs.Left.{rest, after}
use Rattle.reader.proofs.Laws.{after_many}
use Rattle.reader.proofs.Reader.skip_attendees.Given as goal

abbrev pub invariant-loop-i : goal.invariant-loop-i
invariant-loop-i l = after (list max_attendees attendee_f) l.self.rest.now ≡ after_many attendee_f (l.count - l._i) (rest l.next)
