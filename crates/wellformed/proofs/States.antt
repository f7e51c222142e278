-- The whole buffer: a state that fits, with the rules across its tables, is a well-formed one. Assumes nothing.
use Rattle.std.specs.Prelude.{Some}
use Prim.Native.Nat.{ℕ, ◌+◌, ◌*◌, ◌≤◌, ◌<◌}
use native.Mathlib.Nat.{mul-le-mul_right}
use native.Mathlib.Omega.{arith}
use mathlib.Core.Path.{◌≡◌, sym, ap, ap₂, ◌∙◌, subst}
use mathlib.Core.List.{List}
use mathlib.Core.Bool.{Bool, true}
use lib.ListN.{length, get_or}
use lib.Dec.{ltb, eqb}
use Rattle.spans.specs.Bytes.{both}
use Rattle.tables.specs.Table.{Table, Sized, enc_table, slots_of, Holds}
use Rattle.tables.proofs.Laws as tables
use Rattle.lent.specs.Lent.{part}
use Rattle.model.specs.State.{SyncState}
use Rattle.model.specs.Limits.{document01}
use Rattle.model.specs.Maps.{map, keys, values}
use Rattle.model.specs.WellFormed.{all, edit_requests, has_queue}
use Rattle.model.proofs.Fitting.{length-map}
use Rattle.model.specs.Entry.{read_state}
use Rattle.model.proofs.EntryLaws.{states_exact}
use Rattle.state.specs.Layout.{flight_slot, edit_slots}
use Rattle.state.specs.Contract.{Keeps, HasState, Reads}
use Rattle.state.proofs.Rows.{sized_rows}
use Rattle.state.proofs.Regions.{flight_long, edits_sized}
use Rattle.state.proofs.Parts as parts
use Rattle.regions.specs.Inside.{EditsIn, OthersIn}
use Rattle.regions.proofs.Whole as whole
use Rattle.wellformed.specs.Across.{Across}
use Rattle.wellformed.specs.Entries.{QueuesIn}
use Rattle.wellformed.specs.Tests.{agree}
use Rattle.wellformed.specs.IsState.{IsState}
use Rattle.wellformed.proofs.Fitted.{fits_of, across_of, well_of}
use Rattle.wellformed.proofs.Flights.{FlightFits, all_below, all_queued, all_asked}
use Rattle.format.proofs.FormatLaws.{true_T, T_true}
use Rattle.layout.proofs.Bytes.{layout_is}

-- ---- the waiting entries in the buffer

pub edits_of : (b : List ℕ) → QueuesIn (part 20002 35641 b) → EditsIn b
unfolding document01
edits_of b Q = record { edits = Q.edits; fits = Q.fit; bytes = Q.bytes }

pub queues_of : (b : List ℕ) → EditsIn b → QueuesIn (part 20002 35641 b)
unfolding document01
queues_of b E = record { edits = E.edits; fit = E.fits; bytes = E.bytes }

-- ---- the tables of the rules

count_holds : (stride limit : ℕ) (b : List ℕ) (t : Table) → 0 < stride → length b ≡ 1 + limit * stride → b ≡ enc_table (1 + limit * stride) t → length t ≤ limit → Holds stride b
count_holds stride limit b t w l e h =
    let n : get_or b 0 0 ≡ length t = ap (λ (x : List ℕ). get_or x 0 0) e ∙ tables.count_enc (1 + limit * stride) t in
    let m : length t * stride ≤ limit * stride = mul-le-mul_right stride h in
    let k : get_or b 0 0 * stride ≡ length t * stride = ap (λ (x : ℕ). x * stride) n in
    (w, omega arith)

module _ {s : SyncState} {w : List ℕ} (K : Keeps s w) where
  flights_sized : Sized 43 (map flight_slot s.in_flight)
  flights_sized = sized_rows flight_slot 43 FlightFits flight_long s.in_flight K.fits.in_flight.each

  entries_sized : Sized 5940 (edit_slots document01 s.edits)
  unfolding document01
  entries_sized = edits_sized document01 s.edits K.fits.edits.each

  flights_are : slots_of 43 (part 55643 1033 w) ≡ map flight_slot s.in_flight
  flights_are = ap (slots_of 43) (parts.in_flight_part s w K) ∙ tables.slots_enc 43 1033 (map flight_slot s.in_flight) flights_sized

  pub entries_are : slots_of 5940 (part 20002 35641 w) ≡ edit_slots document01 s.edits
  entries_are = ap (slots_of 5940) (parts.edits_part s w K) ∙ tables.slots_enc 5940 35641 (edit_slots document01 s.edits) entries_sized

  pub flights_hold : (55643 + 1033 ≤ length w) × Holds 43 (part 55643 1033 w)
  unfolding document01
  flights_hold =
      let l : length w ≡ 58543 = K.long in
      let k : 55643 + 1033 ≤ length w = omega arith in (
        k,
        count_holds 43 24 (part 55643 1033 w) (map flight_slot s.in_flight) (omega arith) (tables.part_length w 55643 1033 k) (parts.in_flight_part s w K)
            (subst (λ (n : ℕ). n ≤ 24) (sym (length-map flight_slot s.in_flight)) K.fits.in_flight.small),
      )

  pub entries_hold : (20002 + 35641 ≤ length w) × Holds 5940 (part 20002 35641 w)
  unfolding document01
  entries_hold =
      let l : length w ≡ 58543 = K.long in
      let k : 20002 + 35641 ≤ length w = omega arith in
      (k, count_holds 5940 6 (part 20002 35641 w) (edit_slots document01 s.edits) (omega arith) (tables.part_length w 20002 35641 k) (parts.edits_part s w K) K.fits.edits.small)

  abbrev ruled : Bool
  ruled = both (all (λ id. ltb id s.next_request) (keys s.in_flight)) (both (all (λ resource. eqb (edit_requests resource s) 1) (keys s.edits)) (all (has_queue s) (values s.in_flight)))

  agree_is : agree s.next_request (slots_of 43 (part 55643 1033 w)) (slots_of 5940 (part 20002 35641 w)) ≡ ruled
  unfolding agree
  agree_is =
      let f = K.fits.in_flight.each in
      let e = K.fits.edits.each in
      rw (flights_are, entries_are, all_below s.next_request s.in_flight f, all_asked s f s.edits e, all_queued s e s.in_flight f)

pub across_is : (w : List ℕ) (n : ℕ) (r : Bool) → Reads (λ s. s.next_request) w n → r ≡ agree n (slots_of 43 (part 55643 1033 w)) (slots_of 5940 (part 20002 35641 w))
    → (s : SyncState) → Keeps s w → (r ≡ true → Across s) × (Across s → r ≡ true)
across_is w n r N e s K =
    let a : Bool = all (λ id. ltb id s.next_request) (keys s.in_flight) in
    let b : Bool = all (λ resource. eqb (edit_requests resource s) 1) (keys s.edits) in
    let c : Bool = all (has_queue s) (values s.in_flight) in
    let q : r ≡ both a (both b c) = e ∙ ap (λ (x : ℕ). agree x (slots_of 43 (part 55643 1033 w)) (slots_of 5940 (part 20002 35641 w))) (N.is s K) ∙ agree_is K in (
      λ h.
          let u = tables.both_true a (both b c) (sym q ∙ h) in
          let v = tables.both_true b c u.1 in
          record { below = true_T a u.0; one_each = true_T b v.0; queued = true_T c v.1 },
      λ A. q ∙ ap₂ both (T_true a A.below) (ap₂ both (T_true b A.one_each) (T_true c A.queued)),
    )

-- ---- the whole

pub keeps_of : {b : List ℕ} (I : IsState b) → Keeps I.state b
keeps_of {b} I = parts.keep I.state b I.bytes (fits_of document01 I.state I.well)

pub state_of : {b : List ℕ} (H : HasState b) → Across H.state → IsState b
state_of H A = record { state = H.state; well = well_of document01 H.state H.keeps.fits A; bytes = H.keeps.bytes }

pub rules_of : {b : List ℕ} (I : IsState b) → Across I.state
rules_of I = across_of document01 I.state I.well

pub others_of : (b : List ℕ) → IsState b → OthersIn b
others_of b I = whole.others_part I.state b (keeps_of I)

pub waiting_of : (b : List ℕ) → IsState b → EditsIn b
waiting_of b I = whole.edits_part I.state b (keeps_of I)

-- ---- which bytes are read as a state

pub read_of : {b : List ℕ} (I : IsState b) → read_state document01 b ≡ Some I.state
read_of {b} I = (states_exact document01 b I.state).1 (I.well, I.bytes ∙ layout_is document01 I.state (fits_of document01 I.state I.well))

pub is_read : {b : List ℕ} {s : SyncState} → read_state document01 b ≡ Some s → IsState b
is_read {b} {s} e =
    let h = (states_exact document01 b s).0 e in
    record { state = s; well = h.0; bytes = h.1 ∙ sym (layout_is document01 s (fits_of document01 s h.0)) }
