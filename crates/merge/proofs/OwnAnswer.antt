-- Change request 9/13, of `merged_attendees` and `merged_event`. Assumes nothing.
use Prim.Native.Nat.{ℕ, ◌≤◌}
use mathlib.Core.Path.{sym, ◌∙◌, subst}
use Rattle.model.specs.Parts.{Role}
use Rattle.model.specs.Limits.{max_attendees}
use Rattle.model.specs.Formats.{event_f}
use Rattle.model.specs.Merge.{merge}
use Rattle.model.proofs.ValidParts.{event_few}
use Rattle.model.proofs.Theorems as model
use Rattle.merge.specs.OwnAnswer.{OnlyOwnAnswerWritten}

pub only_own_answer_written : OnlyOwnAnswerWritten
only_own_answer_written c base ours theirs address given =
    let only = model.only_own_answer base ours theirs address in
    record {
      few = subst (λ (n : ℕ). n ≤ max_attendees) (sym (c.counted base ours theirs _ given ∙ only.count)) (event_few theirs given.theirs.fits);
      event = event_f.enc theirs;
      behind = given.theirs.rest;
      theirs = given.theirs.bytes;
      written = event_f.enc (merge base ours theirs (Role.Attendee address)).event;
      wrote = c.wrote base ours theirs _ given;
      same = only.bytes;
    }
