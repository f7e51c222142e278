-- Planning: what a merge leaves in the head of a queue, and the parts of an event. Assumes nothing.
use Prim.Native.Nat.{ℕ, ◌-◌, ◌≤◌}
use native.Mathlib.Omega.{arith}
use mathlib.Core.Path.{◌≡◌, ap, ap₂, ◌∙◌}
use mathlib.Core.List.{List}
use mathlib.Core.Bool.{Bool}
use lib.ListN.{length, take, length-take}
use Rattle.format.specs.Format.{option, ◌⊗◌}
use Rattle.format.proofs.FormatLaws.{option_law}
use Rattle.model.specs.Event.{NormalizedEvent, ProviderEvent}
use Rattle.model.specs.Parts.{Role, Conflict, Refused}
use Rattle.model.specs.Seam.{ResourceId}
use Rattle.model.specs.Shapes.{event_to, event_from}
use Rattle.model.specs.Maps.{same_text}
use Rattle.model.specs.Formats.{same, short_text, tag, u32, ids_f, fields_f, event_f, conflicts_f, refusals_f}
use Rattle.model.specs.Merge.{merge}
use Rattle.model.specs.Sync.{change_front}
use Rattle.model.proofs.FormatsLaws.{short_text_law, ids_f_law}
use Rattle.model.proofs.MergesFit.{merges_fit}
use Rattle.frame.specs.Read.{skips, start}
use Rattle.frame.specs.declared.Cursor.{Cursor}
use Rattle.comparison.specs.Bytes.{span}
use Rattle.merge.specs.Given.{Begins}
use Rattle.merge.specs.Parts.{fields_of}
use Rattle.merge.proofs.Stood.{Stood, stood_start, stood_via, stood_first, stood_second, span_is}
use Rattle.merge.proofs.EventParts.{fields_enc}
use Rattle.state.specs.Contract.{Edits}
use Rattle.waiting.specs.Queues.{queue, put_queue, planned}
use Rattle.waiting.specs.Entries.{PlanBytes}
use Rattle.writes.specs.Plans.{GivenAt, Filled, with_merge}

-- ---- parts of an array

pub filled_part : {a x y : List ℕ} (n : ℕ) → Filled a n x → y ≡ span a 0 n → y ≡ x
filled_part {a} n F e = e ∙ ap (λ (k : ℕ). take k a) (let z : n - 0 ≡ n = omega arith in z) ∙ F.bytes

pub part_short : (a y : List ℕ) (n most : ℕ) → length a ≡ most → y ≡ span a 0 n → length y ≤ most
part_short a y n most l e =
    let k : length y ≤ length a = rw e (simp length-take (omega arith)) in
    omega arith

-- ---- the reports

pub plans : (r : ResourceId) (at : ℕ) {w w' th cs rs x y : List ℕ} {m n : ℕ} {b o : NormalizedEvent} {t : ProviderEvent} {by : Role} → GivenAt w at th b o t by
    → Filled cs m (conflicts_f.enc (merge b o t by).conflicts) → Filled rs n (refusals_f.enc (merge b o t by).refused) → x ≡ span cs 0 m → y ≡ span rs 0 n
    → ((c : List Conflict) (d : List Refused) → PlanBytes c d x y → Edits (λ s. put_queue r (change_front (planned c d) (queue r s)) s) w w')
    → Edits (with_merge r (merge b o t by)) w w'
plans r at {m = m} {n} {b} {o} {t} {by} G F H e f E =
    let k = merges_fit b o t by G.base.fits G.ours.fits G.theirs.fits in
    E (merge b o t by).conflicts (merge b o t by).refused (record {
      conflicts_ok = k.conflicts;
      conflicts_is = filled_part m F e;
      refused_ok = k.refused;
      refused_is = filled_part n H f;
    })

-- ---- parts of an event

pub revision_is : {s y : List ℕ} {from to : Cursor} → from ≡ skips ids_f s start → to ≡ skips (option short_text) s from → y ≡ span s from.at to.at → (t : ProviderEvent) → Begins event_f s t → y ≡ (option short_text).enc t.revision
unfolding event_f
revision_is {s} {y} {from} {to} a b e t B =
    let W : Stood (ids_f ⊗ option short_text ⊗ u32 ⊗ fields_f ⊗ tag) s start (event_from t) = stood_via event_to event_from _ (stood_start B) in
    let R : Stood (option short_text ⊗ u32 ⊗ fields_f ⊗ tag) s (skips ids_f s start) (event_from t).1 = stood_second ids_f (option short_text ⊗ u32 ⊗ fields_f ⊗ tag) ids_f_law W in
    e ∙ ap (λ (c : Cursor). span s from.at c.at) b ∙ ap (λ (c : Cursor). span s c.at (skips (option short_text) s c).at) a
    ∙ span_is (option_law short_text_law) (stood_first (option short_text) (u32 ⊗ fields_f ⊗ tag) (option_law short_text_law) R)

pub fields_same : {s u x y z : List ℕ} {b : Bool} → z ≡ s → x ≡ fields_of u → y ≡ fields_of z → b ≡ same_text x y → (e t : ProviderEvent) → Begins event_f s e → Begins event_f u t → b ≡ same fields_f t.fields e.fields
unfolding same
fields_same c h i q e t B D = q ∙ ap₂ same_text (h ∙ fields_enc D) (i ∙ ap fields_of c ∙ fields_enc B)
