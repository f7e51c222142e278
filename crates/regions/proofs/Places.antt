-- Each region by its place: it passes its test exactly where it holds a value that fits. Assumes nothing.
use Prim.Native.Nat.{ℕ, ◌+◌, ◌*◌, ◌≤◌, Ordering}
use native.Mathlib.Omega.{arith}
use mathlib.Core.Path.{◌≡◌, sym, ◌∙◌}
use mathlib.Core.List.{List}
use mathlib.Core.Bool.{Bool, true}
use lib.ListN.{length}
use Rattle.format.specs.Format.{Format, Lawful}
use Rattle.tables.proofs.Laws as tables
use Rattle.lent.specs.Lent.{part}
use Rattle.model.specs.Event.{ProviderEvent}
use Rattle.model.specs.Seam.{ResourceId}
use Rattle.model.specs.State.{Staged}
use Rattle.model.specs.Limits.{document01}
use Rattle.model.specs.Maps.{by_name}
use Rattle.model.specs.Formats.{resource_id, u64, event_f}
use Rattle.model.specs.SavedForm.{staged_f}
use Rattle.model.proofs.FormatsLaws.{resource_id_law, u64_law, event_f_law}
use Rattle.model.proofs.SavedFormLaws.{staged_f_law}
use Rattle.state.specs.Layout.{record_slot, staged_slot, learned_slot, alias_slot}
use Rattle.state.specs.Contract.{state_length}
use Rattle.state.proofs.Widths.{event_within, staged_within, number_8, name_within}
use Rattle.reader.specs.Left.{after}
use Rattle.regions.specs.Tests.{zeros_left, filled, is_named, is_flight}
use Rattle.regions.specs.Inside.{FieldIn, TableIn, RecordsIn, StagedIn, SeenIn, ObservedIn, FlightsIn, LearnedIn, AliasesIn}
use Rattle.regions.proofs.Fields.{field_yes, field_no}
use Rattle.regions.proofs.Entries.{Rows, Held-in, rows_yes, rows_table, rows_slots, named_rows, name_rows, flight_rows, to_map, of_map, to_names, of_names}

-- a field, by what is left behind its value
pub field_both : {A : Type 0} {f : Format A} → Lawful f → (at len : ℕ) (b : List ℕ) {r : Bool} → at + len ≤ length b → r ≡ zeros_left (after f (part at len b))
    → (r ≡ true → FieldIn len f (part at len b)) × (FieldIn len f (part at len b) → r ≡ true)
unfolding filled
field_both F at len b h e = (λ y. field_yes F len (part at len b) (tables.part_length b at len h) (sym e ∙ y), λ I. e ∙ field_no F len (part at len b) I)

-- a table
module _ {E K : Type 0} {slot : E → List ℕ} {P : E → Type 0} {key : E → K} {ord : K → K → Ordering} {test : List ℕ → Bool} {stride width : ℕ} (R : Rows slot P key ord test stride width) where
  table_yes : (at len limit : ℕ) (b : List ℕ) → at + len ≤ length b → len ≡ 1 + limit * stride → TableIn stride width test limit (part at len b) → Held-in slot P key ord limit stride (part at len b)
  table_yes at len limit b h e I = rows_yes R limit (part at len b) (tables.part_length b at len h ∙ e) I.table I.slots

  table_no : (limit : ℕ) (r : List ℕ) → Held-in slot P key ord limit stride r → TableIn stride width test limit r
  table_no limit r H = record { table = rows_table R limit r H; slots = rows_slots R limit r H }

record_rows : Rows record_slot (λ (e : ResourceId × ProviderEvent). resource_id.Ok e.0 × event_f.Ok e.1) (λ e. e.0) by_name (is_named 882 event_f) 915 33
record_rows = named_rows event_f_law event_within

staged_rows : Rows staged_slot (λ (e : ResourceId × Staged). resource_id.Ok e.0 × staged_f.Ok e.1) (λ e. e.0) by_name (is_named 883 staged_f) 916 33
staged_rows = named_rows staged_f_law staged_within

learned_rows : Rows learned_slot (λ (e : ResourceId × ℕ). resource_id.Ok e.0 × u64.Ok e.1) (λ e. e.0) by_name (is_named 8 u64) 41 33
learned_rows = named_rows u64_law number_8

alias_rows : Rows alias_slot (λ (e : ResourceId × ResourceId). resource_id.Ok e.0 × resource_id.Ok e.1) (λ e. e.0) by_name (is_named 33 resource_id) 66 33
alias_rows = named_rows resource_id_law name_within

module _ (b : List ℕ) (l : length b ≡ state_length) {r : Bool} where
  pub records_both : (r ≡ true → TableIn 915 33 (is_named 882 event_f) 10 (part 0 9151 b)) × (TableIn 915 33 (is_named 882 event_f) 10 (part 0 9151 b) → r ≡ true) → (r ≡ true → RecordsIn b) × (RecordsIn b → r ≡ true)
  unfolding document01
  records_both q = (λ e. to_map (table_yes record_rows 0 9151 10 b (omega arith) (omega arith) (q.0 e)), λ M. q.1 (table_no record_rows 10 (part 0 9151 b) (of_map M)))

  pub staged_both : (r ≡ true → TableIn 916 33 (is_named 883 staged_f) 10 (part 9221 9161 b)) × (TableIn 916 33 (is_named 883 staged_f) 10 (part 9221 9161 b) → r ≡ true) → (r ≡ true → StagedIn b) × (StagedIn b → r ≡ true)
  unfolding document01
  staged_both q = (λ e. to_map (table_yes staged_rows 9221 9161 10 b (omega arith) (omega arith) (q.0 e)), λ M. q.1 (table_no staged_rows 10 (part 9221 9161 b) (of_map M)))

  pub seen_both : (r ≡ true → TableIn 33 33 (filled resource_id) 32 (part 18382 1057 b)) × (TableIn 33 33 (filled resource_id) 32 (part 18382 1057 b) → r ≡ true) → (r ≡ true → SeenIn b) × (SeenIn b → r ≡ true)
  unfolding document01
  seen_both q = (λ e. to_names (table_yes name_rows 18382 1057 32 b (omega arith) (omega arith) (q.0 e)), λ M. q.1 (table_no name_rows 32 (part 18382 1057 b) (of_names M)))

  pub observed_both : (r ≡ true → TableIn 33 33 (filled resource_id) 16 (part 19439 529 b)) × (TableIn 33 33 (filled resource_id) 16 (part 19439 529 b) → r ≡ true) → (r ≡ true → ObservedIn b) × (ObservedIn b → r ≡ true)
  unfolding document01
  observed_both q = (λ e. to_names (table_yes name_rows 19439 529 16 b (omega arith) (omega arith) (q.0 e)), λ M. q.1 (table_no name_rows 16 (part 19439 529 b) (of_names M)))

  pub flights_both : (r ≡ true → TableIn 43 9 is_flight 24 (part 55643 1033 b)) × (TableIn 43 9 is_flight 24 (part 55643 1033 b) → r ≡ true) → (r ≡ true → FlightsIn b) × (FlightsIn b → r ≡ true)
  unfolding document01
  flights_both q = (λ e. to_map (table_yes flight_rows 55643 1033 24 b (omega arith) (omega arith) (q.0 e)), λ M. q.1 (table_no flight_rows 24 (part 55643 1033 b) (of_map M)))

  pub learned_both : (r ≡ true → TableIn 41 33 (is_named 8 u64) 32 (part 56684 1313 b)) × (TableIn 41 33 (is_named 8 u64) 32 (part 56684 1313 b) → r ≡ true) → (r ≡ true → LearnedIn b) × (LearnedIn b → r ≡ true)
  unfolding document01
  learned_both q = (λ e. to_map (table_yes learned_rows 56684 1313 32 b (omega arith) (omega arith) (q.0 e)), λ M. q.1 (table_no learned_rows 32 (part 56684 1313 b) (of_map M)))

  pub aliases_both : (r ≡ true → TableIn 66 33 (is_named 33 resource_id) 8 (part 58014 529 b)) × (TableIn 66 33 (is_named 33 resource_id) 8 (part 58014 529 b) → r ≡ true) → (r ≡ true → AliasesIn b) × (AliasesIn b → r ≡ true)
  unfolding document01
  aliases_both q = (λ e. to_map (table_yes alias_rows 58014 529 8 b (omega arith) (omega arith) (q.0 e)), λ M. q.1 (table_no alias_rows 8 (part 58014 529 b) (of_map M)))
