-- A merged event that has not too many attendees fits, and so many bytes are room enough for it. Assumes nothing.
use Prim.Native.Nat.{ℕ, ◌≤◌}
use native.Mathlib.Omega.{arith}
use mathlib.Core.List.{List}
use lib.ListN.{length}
use Rattle.model.specs.Event.{NormalizedEvent, ProviderEvent}
use Rattle.model.specs.Parts.{Role}
use Rattle.model.specs.Limits.{max_attendees}
use Rattle.model.specs.Sizes.{event_bytes}
use Rattle.model.specs.Formats.{event_f}
use Rattle.model.specs.Merge.{merge}
use Rattle.model.proofs.MergesFit.{merges_fit}
use Rattle.model.proofs.Sizes.{event_within}
use Rattle.pens.specs.Writing.{Wrote}
use Rattle.pens.specs.declared.Pen.{Pen}
use Rattle.merge.specs.Given.{Given}
use Rattle.merge.specs.Within.{WroteWithin}

module _ {sb so st sr : List ℕ} {b o : NormalizedEvent} {t : ProviderEvent} {r : Role} (G : Given sb so st sr b o t r)
    (h : length (merge b o t r).event.fields.attendees ≤ max_attendees) where
  pub event_fits : event_f.Ok (merge b o t r).event
  event_fits = (merges_fit b o t r G.base.fits G.ours.fits G.theirs.fits).event h

  pub event_room : {a c : List ℕ} {p q : Pen} → Wrote a c p q (event_f.enc (merge b o t r).event) → WroteWithin event_bytes a c p q (event_f.enc (merge b o t r).event)
  event_room W = record { wrote = W; enough = λ e l. W.room e (omega (arith, l, event_within.bytes (merge b o t r).event event_fits)) }
