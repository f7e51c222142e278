-- What the bytes of each region of a state are: those of a value that fits. Assumes nothing.
use Prim.Native.Nat.{ℕ, Ordering}
use Rattle.std.specs.Prelude.{◌≡◌, true, Bool, List, Option}
use Rattle.std.specs.List.{list_all}
use Rattle.format.specs.Format.{Format, option, stamp, bool}
use Rattle.tables.specs.Table.{WellFormed, slots_of}
use Rattle.lent.specs.Lent.{part}
use Rattle.model.specs.Event.{Text}
use Rattle.model.specs.Seam.{ResourceId}
use Rattle.model.specs.State.{Map, Set, Pass, Queue}
use Rattle.model.specs.Limits.{document01}
use Rattle.model.specs.Maps.{by_name, by_number, map, is_some}
use Rattle.model.specs.Formats.{resource_id, short_text, u64, event_f, list_from_f}
use Rattle.model.specs.SavedForm.{staged_f, purpose_f}
use Rattle.state.specs.Layout.{field, region, name_slot, record_slot, staged_slot, flight_slot, learned_slot, alias_slot, edit_slots, pending_width, pass_of}
use Rattle.state.specs.Fits.{Held, Names, PassFits, EditsFit}

-- a field holds a value that may stand in it
pub record FieldIn {A : Type 0} (width : ℕ) (f : Format A) (b : List ℕ) : Type 0 where
  pub value : A
  pub ok : f.Ok value
  pub bytes : b ≡ field width f value

-- a region holds a map
pub record MapIn {K A : Type 0} (order : K → K → Ordering) (k : Format K) (f : Format A) (slot : K × A → List ℕ) (limit stride : ℕ) (b : List ℕ) : Type 0 where
  pub entries : Map K A
  pub held : Held order k f limit entries
  pub bytes : b ≡ region limit stride (map slot entries)

-- a region holds a set of names
pub record NamesIn (limit : ℕ) (b : List ℕ) : Type 0 where
  pub names : Set Text
  pub held : Names limit names
  pub bytes : b ≡ region limit 33 (map name_slot names)

-- a region holds a table of slots that pass a test: what the code tests
pub record TableIn (stride width : ℕ) (test : List ℕ → Bool) (limit : ℕ) (b : List ℕ) : Type 0 where
  pub table : WellFormed stride width limit b
  pub slots : list_all test (slots_of stride b) ≡ true

-- ---- the regions of a state

abbrev pub RecordsIn : List ℕ → Type 0
RecordsIn b = MapIn by_name resource_id event_f record_slot document01.records 915 (part 0 9151 b)

abbrev pub CursorIn : List ℕ → Type 0
CursorIn b = FieldIn 34 (option short_text) (part 9151 34 b)

abbrev pub FullIn : List ℕ → Type 0
FullIn b = FieldIn 1 bool (part 9186 1 b)

abbrev pub FromIn : List ℕ → Type 0
FromIn b = FieldIn 34 list_from_f (part 9187 34 b)

abbrev pub StagedIn : List ℕ → Type 0
StagedIn b = MapIn by_name resource_id staged_f staged_slot document01.staged 916 (part 9221 9161 b)

abbrev pub SeenIn : List ℕ → Type 0
SeenIn b = NamesIn document01.seen (part 18382 1057 b)

abbrev pub ObservedIn : List ℕ → Type 0
ObservedIn b = NamesIn document01.observed (part 19439 529 b)

abbrev pub DoneIn : List ℕ → Type 0
DoneIn b = FieldIn 34 (option short_text) (part 19968 34 b)

abbrev pub FlightsIn : List ℕ → Type 0
FlightsIn b = MapIn by_number u64 purpose_f flight_slot document01.in_flight 43 (part 55643 1033 b)

abbrev pub NextIn : List ℕ → Type 0
NextIn b = FieldIn 8 u64 (part 56676 8 b)

abbrev pub LearnedIn : List ℕ → Type 0
LearnedIn b = MapIn by_name resource_id u64 learned_slot document01.learned 41 (part 56684 1313 b)

abbrev pub LearnedAllIn : List ℕ → Type 0
LearnedAllIn b = FieldIn 8 u64 (part 57997 8 b)

abbrev pub NowIn : List ℕ → Type 0
NowIn b = FieldIn 9 (option stamp) (part 58005 9 b)

abbrev pub AliasesIn : List ℕ → Type 0
AliasesIn b = MapIn by_name resource_id resource_id alias_slot document01.aliases 66 (part 58014 529 b)

-- the regions of an open pass, behind its open byte
pub record OpenIn (b : List ℕ) : Type 0 where
  pub full : FullIn b
  pub from : FromIn b
  pub staged : StagedIn b
  pub seen : SeenIn b
  pub observed : ObservedIn b
  pub done : DoneIn b

-- the regions of a pass: those of `no_pass` where none is open
pub record PassIn (b : List ℕ) : Type 0 where
  pub pass : Option Pass
  pub fits : PassFits document01 (pass_of pass)
  pub is_open : part 9185 1 b ≡ field 1 bool (is_some pass)
  pub full : part 9186 1 b ≡ field 1 bool (pass_of pass).full
  pub from : part 9187 34 b ≡ field 34 list_from_f (pass_of pass).from
  pub staged : part 9221 9161 b ≡ region document01.staged 916 (map staged_slot (pass_of pass).staged)
  pub seen : part 18382 1057 b ≡ region document01.seen 33 (map name_slot (pass_of pass).seen)
  pub observed : part 19439 529 b ≡ region document01.observed 33 (map name_slot (pass_of pass).observed)
  pub done : part 19968 34 b ≡ field 34 (option short_text) (pass_of pass).done

-- the waiting entries
pub record EditsIn (b : List ℕ) : Type 0 where
  pub edits : Map ResourceId Queue
  pub fits : EditsFit document01 edits
  pub bytes : part 20002 35641 b ≡ region document01.waiting (pending_width document01) (edit_slots document01 edits)

-- all regions but the waiting entries'
pub record OthersIn (b : List ℕ) : Type 0 where
  pub records : RecordsIn b
  pub cursor : CursorIn b
  pub pass : PassIn b
  pub in_flight : FlightsIn b
  pub next_request : NextIn b
  pub learned : LearnedIn b
  pub learned_all : LearnedAllIn b
  pub now : NowIn b
  pub aliases : AliasesIn b
