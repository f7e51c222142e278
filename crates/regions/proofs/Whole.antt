-- A buffer of the whole length is a state's bytes exactly where each region holds a value that fits. Assumes nothing.
use Prim.Native.Nat.{ℕ}
use mathlib.Core.Path.{◌≡◌, refl, sym, ap, ◌∙◌}
use mathlib.Core.List.{List, [], ◌∷◌}
use lib.ListN.{length}
use Rattle.format.specs.Format.{number}
use Rattle.tables.specs.Table.{flat, cut_at}
use Rattle.tables.proofs.Laws as tables
use Rattle.model.specs.State.{SyncState}
use Rattle.model.specs.Limits.{document01}
use Rattle.state.specs.Layout.{regions, layout}
use Rattle.state.specs.Fits.{Fits}
use Rattle.state.specs.Contract.{state_length, Keeps, HasState}
use Rattle.state.proofs.Parts as parts
use Rattle.regions.specs.Inside.{EditsIn, OthersIn}

abbrev numbered : List ℕ
numbered = 9151 ∷ 34 ∷ 1 ∷ 1 ∷ 34 ∷ 9161 ∷ 1057 ∷ 529 ∷ 34 ∷ 35641 ∷ 1033 ∷ 8 ∷ 1313 ∷ 8 ∷ 9 ∷ 529 ∷ []

-- ---- from the regions to the state

module _ (b : List ℕ) (l : length b ≡ state_length) (O : OthersIn b) (I : EditsIn b) where
  abbrev state_in : SyncState
  state_in = record {
    records = O.records.entries;
    cursor = O.cursor.value;
    pass = O.pass.pass;
    edits = I.edits;
    in_flight = O.in_flight.entries;
    next_request = O.next_request.value;
    learned = O.learned.entries;
    learned_all = O.learned_all.value;
    now = O.now.value;
    aliases = O.aliases.entries;
  }

  state_fits : Fits document01 state_in
  unfolding number
  state_fits = record {
    records = O.records.held;
    cursor = O.cursor.ok;
    pass = O.pass.fits;
    edits = I.fits;
    in_flight = O.in_flight.held;
    next_request = O.next_request.ok;
    learned = O.learned.held;
    learned_all = O.learned_all.ok;
    now = O.now.ok;
    aliases = O.aliases.held;
  }

  state_regions : cut_at 0 numbered b ≡ regions document01 state_in
  unfolding regions
  state_regions =
      tables.join O.records.bytes (
      tables.join O.cursor.bytes (
      tables.join O.pass.is_open (
      tables.join O.pass.full (
      tables.join O.pass.from (
      tables.join O.pass.staged (
      tables.join O.pass.seen (
      tables.join O.pass.observed (
      tables.join O.pass.done (
      tables.join I.bytes (
      tables.join O.in_flight.bytes (
      tables.join O.next_request.bytes (
      tables.join O.learned.bytes (
      tables.join O.learned_all.bytes (
      tables.join O.now.bytes (
      tables.join O.aliases.bytes refl)))))))))))))))

  state_bytes : b ≡ layout document01 state_in
  unfolding layout
  state_bytes = tables.cut_is 0 numbered b (sym l) ∙ ap flat state_regions

  pub holds : HasState b
  holds = record { state = state_in; keeps = record { bytes = state_bytes; fits = state_fits; long = l } }

-- ---- and back

module _ (s : SyncState) (b : List ℕ) (K : Keeps s b) where
  pub edits_part : EditsIn b
  unfolding document01
  edits_part = record { edits = s.edits; fits = K.fits.edits; bytes = parts.edits_part s b K }

  pub others_part : OthersIn b
  unfolding document01 number
  others_part = record {
    records = record { entries = s.records; held = K.fits.records; bytes = parts.records_part s b K };
    cursor = record { value = s.cursor; ok = K.fits.cursor; bytes = parts.cursor_part s b K };
    pass = record {
      pass = s.pass;
      fits = K.fits.pass;
      is_open = parts.open_part s b K;
      full = parts.full_part s b K;
      from = parts.from_part s b K;
      staged = parts.staged_part s b K;
      seen = parts.seen_part s b K;
      observed = parts.observed_part s b K;
      done = parts.done_part s b K;
    };
    in_flight = record { entries = s.in_flight; held = K.fits.in_flight; bytes = parts.in_flight_part s b K };
    next_request = record { value = s.next_request; ok = K.fits.next_request; bytes = parts.next_request_part s b K };
    learned = record { entries = s.learned; held = K.fits.learned; bytes = parts.learned_part s b K };
    learned_all = record { value = s.learned_all; ok = K.fits.learned_all; bytes = parts.learned_all_part s b K };
    now = record { value = s.now; ok = K.fits.now; bytes = parts.now_part s b K };
    aliases = record { entries = s.aliases; held = K.fits.aliases; bytes = parts.aliases_part s b K };
  }
