-- Change request 9/13, of `merged_attendees` and `merged_event` over bytes. A call is known by what its function ensures, and by nothing else. OwnAnswer.antt of
-- proofs/ has the proof. Assumes nothing.
use Rattle.std.specs.Prelude.{ℕ, ◌≤◌, ◌≡◌, ◌++◌, length}
use Rattle.model.specs.Event.{Text, NormalizedEvent, ProviderEvent}
use Rattle.model.specs.Parts.{Role}
use Rattle.model.specs.Limits.{max_attendees}
use Rattle.model.specs.Formats.{Bytes, event_f}
use Rattle.model.specs.Merge.{merge}
use Rattle.model.specs.OwnAnswer.{SameBut, own_marks}
use Rattle.pens.specs.Writing.{Wrote}
use Rattle.pens.specs.declared.Pen.{Pen}
use Rattle.merge.specs.Given.{Given}

-- a call of each, lent the same base, ours, theirs and role
pub record Called : Type 0 where
  pub base : Bytes
  pub ours : Bytes
  pub theirs : Bytes
  pub role : Bytes
  -- what `merged_attendees` answered, and what it ensures: over 8 is refusal 6
  pub attendees : ℕ
  pub counted : (b o : NormalizedEvent) (t : ProviderEvent) (by : Role) → Given base ours theirs role b o t by
      → attendees ≡ length (merge b o t by).event.fields.attendees
  -- the buffer and the writing place before and after `merged_event`, and what it ensures
  pub before : Bytes
  pub after : Bytes
  pub pen : Pen
  pub next : Pen
  pub wrote : (b o : NormalizedEvent) (t : ProviderEvent) (by : Role) → Given base ours theirs role b o t by
      → Wrote before after pen next (event_f.enc (merge b o t by).event)

-- the writer is an attendee: refusal 6 does not come, and the bytes written are theirs, one for one, but for the writer's own answer
pub record OwnAnswerWritten (c : Called) (address : Text) (t : ProviderEvent) : Type 0 where
  pub few : c.attendees ≤ max_attendees
  pub event : Bytes
  pub behind : Bytes
  pub theirs : c.theirs ≡ event ++ behind
  pub written : Bytes
  pub wrote : Wrote c.before c.after c.pen c.next written
  pub same : SameBut (own_marks address t) event written

abbrev pub OnlyOwnAnswerWritten : Type 0
OnlyOwnAnswerWritten = (c : Called) (base ours : NormalizedEvent) (theirs : ProviderEvent) (address : Text)
    → Given c.base c.ours c.theirs c.role base ours theirs (Role.Attendee address) → OwnAnswerWritten c address theirs
