-- The table of the waiting entries in the work buffer: 35,641 bytes at 20,002, slots of 5,940. Assumes nothing.
use Rattle.std.specs.Prelude.{ℕ, ◌+◌, ◌≤◌, ◌≡◌, List, [], ◌∷◌, ◌++◌, Bool, ◌==◌, count_by, length, take, drop, get_or, set}
use Rattle.spans.specs.Compare.{order}
use Rattle.std.specs.Ordering.{ordering_index}
use Rattle.std.specs.declared.cmp.Ordering.{Ordering}
use Rattle.tables.specs.Table.{Table, Sized, enc_table, text}
use Rattle.spans.specs.Bytes.{zeros}
use Rattle.lent.specs.Lent.{placed}
use Rattle.state.specs.Layout.{padded}
use Rattle.state.specs.Contract.{state_length}

-- w is w₀ with the slots t for its waiting entries. Between two writes of a function they need not be a state's.
pub record Slots (t : Table) (w₀ w : List ℕ) : Type 0 where
  pub bytes : w ≡ placed 20002 35641 (enc_table 35641 t) w₀
  pub sized : Sized 5940 t
  pub few : length t ≤ 6
  pub outer : length w₀ ≡ state_length
  pub long : length w ≡ state_length
  pub count : get_or w 20002 0 ≡ length t

-- what callers show
pub record HasSlots (w : List ℕ) : Type 0 where
  pub t : Table
  pub w₀ : List ℕ
  pub slots : Slots t w₀ w

-- a reading function gives f of the slots
pub record ReadsSlots {A : Type 0} (f : Table → A) (w : List ℕ) (r : A) : Type 0 where
  pub is : (t : Table) (w₀ : List ℕ) → Slots t w₀ w → r ≡ f t

-- an edit does f to the slots
pub record EditsSlots (f : Table → Table) (w w' : List ℕ) : Type 0 where
  pub makes : (t : Table) (w₀ : List ℕ) → Slots t w₀ w → Slots (f t) w₀ w'

-- ---- counting slots by their keys

abbrev pub is_rank : Ordering → Ordering → Bool
is_rank rank o = ordering_index o == ordering_index rank

-- those whose key has this rank beside the one asked for
abbrev pub tallied : Ordering → List ℕ → Table → ℕ
tallied rank key t = count_by (λ s. is_rank rank (order (text s) (text key))) t

-- ---- slots changed

-- a value of at most `width` bytes in the place of what stands at o of slot i
abbrev pub rewritten : ℕ → ℕ → ℕ → List ℕ → Table → Table
rewritten i o width b t = set t i (placed o width (padded width b) (get_or t i []))

-- the five fields of a new entry in the place of what stands in a slot
abbrev pub new_fields : (name id operation role expiry : List ℕ) → List ℕ → List ℕ
new_fields name id operation role expiry x =
    placed 1569 9 (padded 9 expiry) (placed 1535 34 (padded 34 role) (placed 66 1469 (padded 1469 operation) (placed 33 33 (padded 33 id) (placed 0 33 (padded 33 name) x))))

-- an operation, an expiry, an id at o and the count of the ids in the place of what stands in a slot
abbrev pub more_fields : ℕ → ℕ → (operation expiry id : List ℕ) → List ℕ → List ℕ
more_fields o count operation expiry id x =
    placed 5675 1 (padded 1 (count ∷ [])) (placed o (length id) (padded (length id) id) (placed 1569 9 (padded 9 expiry) (placed 66 1469 (padded 1469 operation) x)))

-- slot x before slot i
abbrev pub inserted : ℕ → List ℕ → Table → Table
inserted i x t = take i t ++ (x ∷ drop i t)

-- what the functions below the queues do: the buffer still has slots, so that the next may follow

pub record Rewrites (i o width : ℕ) (b w w' : List ℕ) : Type 0 where
  pub edits : EditsSlots (rewritten i o width b) w w'
  pub has : HasSlots w'
  pub count : get_or w' 20002 0 ≡ get_or w 20002 0

pub record Opens (i : ℕ) (w w' : List ℕ) : Type 0 where
  pub edits : EditsSlots (inserted i (zeros 5940)) w w'
  pub has : HasSlots w'
  pub count : get_or w' 20002 0 ≡ get_or w 20002 0 + 1
