-- The state that a buffer holds: what the reading functions answer is asked of it, and what is seen of it may stand in a frame. Assumes nothing.
use Rattle.std.specs.Prelude.{Option, Some, None}
use Prim.Native.Nat.{ℕ, ◌≤◌}
use native.Mathlib.Omega.{arith}
use mathlib.Core.Path.{◌≡◌, refl, ap, ◌∙◌}
use mathlib.Core.Bool.{Bool, true, false}
use mathlib.Core.List.{[], ◌∷◌}
use lib.ListN.{length, length-append}
use lib.Dec.{eqb}
use borrow.Author.Tests.{eqb-false}
use Rattle.format.specs.Format.{All, ◌⊗◌, via, list, number}
use Rattle.format.proofs.SizeLaws.{Within, pair_within, list_within, number_within}
use Rattle.lines.specs.Lines.{digits}
use Rattle.lines.proofs.Laws.{length_digits}
use Rattle.model.specs.Seam.{RequestId, ResourceId}
use Rattle.model.specs.State.{Map, Purpose, Queue, SyncState, new}
use Rattle.model.specs.Limits.{document01, max_id, max_text, max_attendees}
use Rattle.model.specs.Maps.{when◌then◌else◌, map, keys}
use Rattle.model.specs.Machine.{match◌none:◌some:◌}
use Rattle.model.specs.Sizes.{id_bytes, text_bytes, organizer_bytes, attendee_bytes, fields_bytes, event_bytes, option_bytes}
use Rattle.model.specs.Formats.{Bytes, resource_id, u64}
use Rattle.model.specs.SavedForm.{state_f, purpose_f}
use Rattle.model.specs.SavedForm as saved
use Rattle.model.specs.WellFormed.{WellFormed}
use Rattle.model.specs.Entry.{read_state}
use Rattle.model.proofs.Sizes as sizes
use Rattle.model.proofs.Fitting.{length-map, length_keys}
use Rattle.model.proofs.StaysWellFormed.{fresh_well_formed}
use Rattle.model.proofs.Theorems.{states_exact}
use Rattle.state.specs.Contract.{state_length}
use Rattle.wellformed.proofs.States.{keeps_of, is_read}
use Rattle.access.specs.Answers.{asked, Answers}
use Rattle.looks.specs.Look.{counted, seen, queue_f, seen_f, held_state, look_line, seen_bytes, look_bytes}

-- ---- what is asked of a buffer

pub answer_is : {A : Type 0} {f : SyncState → A} {missing : A} {b : Bytes} {code : ℕ} {r : A} → Answers f missing b code r → missing ≡ f new → r ≡ f (held_state b)
unfolding asked held_state when◌then◌else◌ match◌none:◌some:◌
answer_is {A} {f = f} {missing = missing} {b = b} {code = code} {r = r} R m = go (eqb (length b) state_length) refl (read_state document01 b) refl R.is
  where
    go : (e : Bool) → eqb (length b) state_length ≡ e → (o : Option SyncState) → read_state document01 b ≡ o
        → ◌≡◌ {A = ℕ × A} (code, r) (when e then (match o none: (2, missing) some: (λ s. (0, f s))) else (1, missing)) → r ≡ f (match o none: new some: (λ s. s))
    go true e None o h = ap (λ (p : ℕ × A). p.1) h ∙ m
    go true e (Some s) o h = ap (λ (p : ℕ × A). p.1) h
    go false e None o h = ap (λ (p : ℕ × A). p.1) h ∙ m
    go false e (Some s) o h = absurd (eqb-false (length b) state_length e (keeps_of (is_read o)).long)

held_well : (b : Bytes) → WellFormed document01 (held_state b)
unfolding held_state match◌none:◌some:◌
held_well b = go (read_state document01 b) refl
  where
    go : (o : Option SyncState) → read_state document01 b ≡ o → WellFormed document01 (match o none: new some: (λ s. s))
    go None e = fresh_well_formed document01
    go (Some s) e = ((states_exact document01 b s).0 e).0

-- ---- what is seen may stand in a frame

keys_ok : (m : Map RequestId Purpose) → All (u64 ⊗ purpose_f).Ok m → All u64.Ok (keys m)
unfolding keys map ◌⊗◌
keys_ok [] a = tt
keys_ok (e ∷ m) a = (a.0.0, keys_ok m a.1)

counted_ok : (m : Map ResourceId Queue) → All (resource_id ⊗ saved.queue_f document01).Ok m → All queue_f.Ok (map counted m)
unfolding map ◌⊗◌ saved.queue_f list number document01
counted_ok [] a = tt
counted_ok (e ∷ m) a = ((a.0.0, let l : length e.1 ≤ 6 = a.0.1.0 in omega arith), counted_ok m a.1)

seen_fits : (s : SyncState) → WellFormed document01 s → (seen_f document01).Ok (seen s)
unfolding seen_f seen state_f via ◌⊗◌ list
seen_fits s W =
    let f = W.fits in
    let k : length (keys s.in_flight) ≡ length s.in_flight = length_keys s.in_flight in
    let n : length (map counted s.edits) ≡ length s.edits = length-map counted s.edits in
    let e = f.1.1.1 in
    (f.1.0, (f.0, ((rw k e.1.0.0, keys_ok s.in_flight e.1.0.1), (rw n e.0.0, counted_ok s.edits e.0.1))))

pub seen_ok : (b : Bytes) → (seen_f document01).Ok (seen (held_state b))
seen_ok b = seen_fits (held_state b) (held_well b)

-- ---- the room that the line takes

seen_within : Within (seen_bytes document01) (seen_f document01)
unfolding seen_f seen_bytes
seen_within =
    pair_within sizes.cursor_within (pair_within (list_within document01.records (pair_within sizes.id_within sizes.event_within))
    (pair_within (list_within document01.in_flight (number_within 8)) (list_within document01.waiting (pair_within sizes.id_within (number_within 1)))))

pub look_within : (b : Bytes) → length (look_line b) ≤ look_bytes document01
unfolding look_line look_bytes
look_within b =
    let x : Bytes = (seen_f document01).enc (seen (held_state b)) in
    let l : length x ≤ seen_bytes document01 = seen_within.bytes (seen (held_state b)) (seen_ok b) in
    let d = length_digits x in
    let a = length-append (digits x) (10 ∷ []) in
    omega arith

pub look_bytes_are : look_bytes document01 ≡ 19167
unfolding look_bytes seen_bytes document01 option_bytes event_bytes fields_bytes attendee_bytes organizer_bytes id_bytes text_bytes max_id max_text max_attendees
look_bytes_are = refl
