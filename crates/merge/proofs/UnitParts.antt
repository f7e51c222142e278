-- The units of fields at the front of bytes are the encoded parts of the event. Assumes nothing.
use Prim.Native.Nat.{ℕ}
use mathlib.Core.Path.{◌≡◌}
use mathlib.Core.List.{List}
use Rattle.format.specs.Format.{option, list, ◌⊗◌}
use Rattle.format.proofs.FormatLaws.{option_law, list_law}
use Rattle.model.specs.Event.{NormalizedEvent}
use Rattle.model.specs.Limits.{max_attendees}
use Rattle.model.specs.Shapes.{fields_to, fields_from}
use Rattle.model.specs.Formats.{short_text, tag, organizer_f, attendee_f, status_f, transparency_f, visibility_f, fields_f}
use Rattle.model.proofs.FormatsLaws.{short_text_law, tag_law, organizer_f_law, attendee_f_law, status_f_law, transparency_f_law, visibility_f_law}
use Rattle.frame.specs.Read.{start}
use Rattle.units.specs.Units.{unit_at, unit_bytes}
use Rattle.merge.proofs.Stood.{Stood, span_is, stood_first, stood_second, stood_via}

module _ {s : List ℕ} {e : NormalizedEvent} (S : Stood fields_f s start e) where
  from_0 : Stood (option short_text ⊗ tag ⊗ option tag ⊗ option organizer_f ⊗ list max_attendees attendee_f ⊗ option short_text ⊗ option tag ⊗ status_f ⊗ transparency_f ⊗ visibility_f ⊗ tag) s (unit_at s 0) (fields_from e)
  unfolding fields_f unit_at
  from_0 = stood_via fields_to fields_from _ S

  pub part_0 : unit_bytes s 0 ≡ (option short_text).enc e.title
  unfolding unit_bytes
  part_0 = span_is (option_law short_text_law) (stood_first (option short_text) (tag ⊗ option tag ⊗ option organizer_f ⊗ list max_attendees attendee_f ⊗ option short_text ⊗ option tag ⊗ status_f ⊗ transparency_f ⊗ visibility_f ⊗ tag) (option_law short_text_law) from_0)

  from_1 : Stood (tag ⊗ option tag ⊗ option organizer_f ⊗ list max_attendees attendee_f ⊗ option short_text ⊗ option tag ⊗ status_f ⊗ transparency_f ⊗ visibility_f ⊗ tag) s (unit_at s 1) (fields_from e).1
  unfolding unit_at
  from_1 = stood_second (option short_text) (tag ⊗ option tag ⊗ option organizer_f ⊗ list max_attendees attendee_f ⊗ option short_text ⊗ option tag ⊗ status_f ⊗ transparency_f ⊗ visibility_f ⊗ tag) (option_law short_text_law) from_0

  pub part_1 : unit_bytes s 1 ≡ tag.enc e.times
  unfolding unit_bytes
  part_1 = span_is tag_law (stood_first (tag) (option tag ⊗ option organizer_f ⊗ list max_attendees attendee_f ⊗ option short_text ⊗ option tag ⊗ status_f ⊗ transparency_f ⊗ visibility_f ⊗ tag) tag_law from_1)

  from_2 : Stood (option tag ⊗ option organizer_f ⊗ list max_attendees attendee_f ⊗ option short_text ⊗ option tag ⊗ status_f ⊗ transparency_f ⊗ visibility_f ⊗ tag) s (unit_at s 2) (fields_from e).1.1
  unfolding unit_at
  from_2 = stood_second (tag) (option tag ⊗ option organizer_f ⊗ list max_attendees attendee_f ⊗ option short_text ⊗ option tag ⊗ status_f ⊗ transparency_f ⊗ visibility_f ⊗ tag) tag_law from_1

  pub part_2 : unit_bytes s 2 ≡ (option tag).enc e.recurrence
  unfolding unit_bytes
  part_2 = span_is (option_law tag_law) (stood_first (option tag) (option organizer_f ⊗ list max_attendees attendee_f ⊗ option short_text ⊗ option tag ⊗ status_f ⊗ transparency_f ⊗ visibility_f ⊗ tag) (option_law tag_law) from_2)

  from_3 : Stood (option organizer_f ⊗ list max_attendees attendee_f ⊗ option short_text ⊗ option tag ⊗ status_f ⊗ transparency_f ⊗ visibility_f ⊗ tag) s (unit_at s 3) (fields_from e).1.1.1
  unfolding unit_at
  from_3 = stood_second (option tag) (option organizer_f ⊗ list max_attendees attendee_f ⊗ option short_text ⊗ option tag ⊗ status_f ⊗ transparency_f ⊗ visibility_f ⊗ tag) (option_law tag_law) from_2

  pub part_3 : unit_bytes s 3 ≡ (option organizer_f).enc e.organizer
  unfolding unit_bytes
  part_3 = span_is (option_law organizer_f_law) (stood_first (option organizer_f) (list max_attendees attendee_f ⊗ option short_text ⊗ option tag ⊗ status_f ⊗ transparency_f ⊗ visibility_f ⊗ tag) (option_law organizer_f_law) from_3)

  from_4 : Stood (list max_attendees attendee_f ⊗ option short_text ⊗ option tag ⊗ status_f ⊗ transparency_f ⊗ visibility_f ⊗ tag) s (unit_at s 4) (fields_from e).1.1.1.1
  unfolding unit_at
  from_4 = stood_second (option organizer_f) (list max_attendees attendee_f ⊗ option short_text ⊗ option tag ⊗ status_f ⊗ transparency_f ⊗ visibility_f ⊗ tag) (option_law organizer_f_law) from_3

  pub part_4 : unit_bytes s 4 ≡ (list max_attendees attendee_f).enc e.attendees
  unfolding unit_bytes
  part_4 = span_is (list_law attendee_f_law max_attendees) (stood_first (list max_attendees attendee_f) (option short_text ⊗ option tag ⊗ status_f ⊗ transparency_f ⊗ visibility_f ⊗ tag) (list_law attendee_f_law max_attendees) from_4)

  from_5 : Stood (option short_text ⊗ option tag ⊗ status_f ⊗ transparency_f ⊗ visibility_f ⊗ tag) s (unit_at s 5) (fields_from e).1.1.1.1.1
  unfolding unit_at
  from_5 = stood_second (list max_attendees attendee_f) (option short_text ⊗ option tag ⊗ status_f ⊗ transparency_f ⊗ visibility_f ⊗ tag) (list_law attendee_f_law max_attendees) from_4

  pub part_5 : unit_bytes s 5 ≡ (option short_text).enc e.location
  unfolding unit_bytes
  part_5 = span_is (option_law short_text_law) (stood_first (option short_text) (option tag ⊗ status_f ⊗ transparency_f ⊗ visibility_f ⊗ tag) (option_law short_text_law) from_5)

  from_6 : Stood (option tag ⊗ status_f ⊗ transparency_f ⊗ visibility_f ⊗ tag) s (unit_at s 6) (fields_from e).1.1.1.1.1.1
  unfolding unit_at
  from_6 = stood_second (option short_text) (option tag ⊗ status_f ⊗ transparency_f ⊗ visibility_f ⊗ tag) (option_law short_text_law) from_5

  pub part_6 : unit_bytes s 6 ≡ (option tag).enc e.description
  unfolding unit_bytes
  part_6 = span_is (option_law tag_law) (stood_first (option tag) (status_f ⊗ transparency_f ⊗ visibility_f ⊗ tag) (option_law tag_law) from_6)

  from_7 : Stood (status_f ⊗ transparency_f ⊗ visibility_f ⊗ tag) s (unit_at s 7) (fields_from e).1.1.1.1.1.1.1
  unfolding unit_at
  from_7 = stood_second (option tag) (status_f ⊗ transparency_f ⊗ visibility_f ⊗ tag) (option_law tag_law) from_6

  pub part_7 : unit_bytes s 7 ≡ status_f.enc e.status
  unfolding unit_bytes
  part_7 = span_is status_f_law (stood_first (status_f) (transparency_f ⊗ visibility_f ⊗ tag) status_f_law from_7)

  from_8 : Stood (transparency_f ⊗ visibility_f ⊗ tag) s (unit_at s 8) (fields_from e).1.1.1.1.1.1.1.1
  unfolding unit_at
  from_8 = stood_second (status_f) (transparency_f ⊗ visibility_f ⊗ tag) status_f_law from_7

  pub part_8 : unit_bytes s 8 ≡ transparency_f.enc e.transparency
  unfolding unit_bytes
  part_8 = span_is transparency_f_law (stood_first (transparency_f) (visibility_f ⊗ tag) transparency_f_law from_8)

  from_9 : Stood (visibility_f ⊗ tag) s (unit_at s 9) (fields_from e).1.1.1.1.1.1.1.1.1
  unfolding unit_at
  from_9 = stood_second (transparency_f) (visibility_f ⊗ tag) transparency_f_law from_8

  pub part_9 : unit_bytes s 9 ≡ visibility_f.enc e.visibility
  unfolding unit_bytes
  part_9 = span_is visibility_f_law (stood_first (visibility_f) (tag) visibility_f_law from_9)

  from_10 : Stood (tag) s (unit_at s 10) (fields_from e).1.1.1.1.1.1.1.1.1.1
  unfolding unit_at
  from_10 = stood_second (visibility_f) (tag) visibility_f_law from_9

  pub part_10 : unit_bytes s 10 ≡ tag.enc e.reminders
  unfolding unit_bytes
  part_10 = span_is tag_law from_10
