-- The parts of an entry that a merge is lent, and what it fills. Assumes nothing.
use Prim.Native.Nat.{ℕ, ◌+◌, ◌≤◌}
use native.Mathlib.Omega.{arith}
use mathlib.Core.Path.{◌≡◌, refl, sym, ap, ◌∙◌}
use mathlib.Core.List.{List}
use mathlib.Core.Bool.{true}
use lib.ListN.{length, take, drop}
use lib.Seq.{take_at}
use Rattle.pens.specs.Writing.{Wrote}
use Rattle.pens.specs.declared.Pen.{Pen}
use Rattle.merge.specs.Within.{WroteWithin}
use Rattle.model.specs.Event.{NormalizedEvent, ProviderEvent}
use Rattle.model.specs.Parts.{Role}
use Rattle.model.specs.Limits.{max_id, max_text, max_attendees, max_conflict_bytes, max_refused_bytes}
use Rattle.model.specs.Sizes.{event_bytes, id_bytes, text_bytes, fields_bytes, organizer_bytes, attendee_bytes}
use Rattle.model.specs.Formats.{fields_f, event_f, conflicts_f, refusals_f}
use Rattle.model.specs.Merge.{merge}
use Rattle.frame.specs.Read.{skips, start}
use Rattle.frame.specs.declared.Cursor.{Cursor}
use Rattle.comparison.specs.Bytes.{span}
use Rattle.merge.specs.Given.{Given}
use Rattle.merge.proofs.Room.{event_room}
use Rattle.writes.specs.Plans.{operation_part, ours_part, role_part, GivenAt, Filled}

-- an array that is long enough, filled from its first byte
pub filled : (most : ℕ) {a b x : List ℕ} {q : Pen} → length a ≡ most → WroteWithin most a b (record { at = 0; ok = true }) q x → Filled b q.at x
filled most {a} {b} {x} {q} l W =
    let k : q.ok ≡ true = W.enough refl (omega arith) in
    let S = W.wrote.wrote k (omega arith) in
    let n : q.at ≡ length x = S.place ∙ (let z : 0 + length x ≡ length x = omega arith in z) in
    record {
      fits = let h = S.fits in let g = W.wrote.long in omega arith;
      bytes = ap (take q.at) S.bytes ∙ take_at x (drop q.at a) q.at (sym n);
    }

-- ---- the parts

pub operation_is : (w r : List ℕ) (at : ℕ) → r ≡ span w (at + 67) (at + 1535) → r ≡ operation_part w at
unfolding operation_part
operation_is w r at e = e

pub ours_is : (w s r : List ℕ) (at : ℕ) (c : Cursor) → s ≡ operation_part w at → c ≡ skips fields_f s start → r ≡ span s c.at 1468 → r ≡ ours_part w at
unfolding ours_part
ours_is w s r at c a b e = e ∙ ap (λ (c : Cursor). span s c.at 1468) b ∙ ap (λ (s : List ℕ). span s (skips fields_f s start).at 1468) a

pub role_is : (w r : List ℕ) (at : ℕ) → r ≡ span w (at + 1535) (at + 1569) → r ≡ role_part w at
unfolding role_part
role_is w r at e = e

module _ (w : List ℕ) (at : ℕ) {th x y z : List ℕ} (a : x ≡ operation_part w at) (b : y ≡ ours_part w at) (c : z ≡ role_part w at) where
  pub given_as : {f g : NormalizedEvent} {t : ProviderEvent} {by : Role} → GivenAt w at th f g t by → Given x y th z f g t by
  given_as G = record { base = rw a G.base; ours = rw b G.ours; theirs = G.theirs; role = rw c G.role }

-- ---- what a merge fills

event_long : event_bytes ≡ 882
unfolding event_bytes id_bytes max_id text_bytes max_text fields_bytes organizer_bytes max_attendees attendee_bytes
event_long = refl

module _ {sb so st sr : List ℕ} {b o : NormalizedEvent} {t : ProviderEvent} {by : Role} (G : Given sb so st sr b o t by) {a c : List ℕ} {q : Pen} where
  pub event_filled : length a ≡ 882 → length (merge b o t by).event.fields.attendees ≤ max_attendees → Wrote a c (record { at = 0; ok = true }) q (event_f.enc (merge b o t by).event) → Filled c q.at (event_f.enc (merge b o t by).event)
  event_filled l h W = filled event_bytes (l ∙ sym event_long) (event_room G h W)

  pub conflicts_filled : length a ≡ 3072 → WroteWithin max_conflict_bytes a c (record { at = 0; ok = true }) q (conflicts_f.enc (merge b o t by).conflicts) → Filled c q.at (conflicts_f.enc (merge b o t by).conflicts)
  unfolding max_conflict_bytes
  conflicts_filled l W = filled 3072 l W

  pub refused_filled : length a ≡ 1024 → WroteWithin max_refused_bytes a c (record { at = 0; ok = true }) q (refusals_f.enc (merge b o t by).refused) → Filled c q.at (refusals_f.enc (merge b o t by).refused)
  unfolding max_refused_bytes
  refused_filled l W = filled 1024 l W
