-- The regions of a state that fits, one after the other, are the model's bytes of it. Assumes nothing.
use Rattle.std.specs.Prelude.{Option, Some, None}
use Prim.Native.Nat.{ℕ, suc, ◌+◌, ◌-◌, ◌*◌}
use native.Mathlib.Omega.{arith}
use mathlib.Core.Path.{◌≡◌, refl, sym, ap, ap₂, ◌∙◌}
use mathlib.Core.List.{List, [], ◌∷◌, ◌++◌, append_assoc, append-nil}
use mathlib.Core.Bool.{Bool}
use lib.ListN.{length, length-append, replicate-append-replicate}
use Rattle.format.specs.Format.{Format, All, concat_map, ◌⊗◌, via, enum, nothing, ◌∣◌, option, bool, below, number, list, such, stamp}
use Rattle.format.specs.Format as format
use Rattle.format.proofs.SizeLaws.{bool_within}
use Rattle.spans.specs.Bytes.{zeros}
use Rattle.tables.specs.Table.{Table, flat, enc_table, Lens}
use Rattle.tables.proofs.Laws as tables
use Rattle.model.specs.Seam.{ResourceId}
use Rattle.model.specs.State.{Map, Pass, Pending, Queue, SyncState}
use Rattle.model.specs.Limits.{Limits, max_id, max_text, max_attendees, max_conflict_bytes, max_refused_bytes}
use Rattle.model.specs.Maps.{map, is_some}
use Rattle.model.specs.Formats.{short_text, u64, event_f, list_from_f}
use Rattle.model.specs.SavedForm.{staged_f, purpose_f}
use Rattle.model.specs.Sizes.{id_bytes, text_bytes, organizer_bytes, attendee_bytes, fields_bytes, event_bytes, operation_bytes, option_bytes, time_bytes, edit_bytes, purpose_bytes, absorbed_bytes, entry_bytes, staged_bytes, pass_bytes}
use Rattle.model.specs.Layout.{table, name_key_layout, number_key_layout, pass_layout, entry_layout, entries_of, queues_layout, parts_layout, state_layout}
use Rattle.model.proofs.Fitting.{length-map}
use Rattle.state.specs.Layout.{padded, field, name_slot, number_key, record_slot, staged_slot, flight_slot, learned_slot, alias_slot, pending_slot, pending_width, queue_slots, edit_slots, region, table_size, regions, layout, pass_of, no_pass}
use Rattle.state.specs.Fits.{PassFits, PendingFits, QueueFits, Fits}
use Rattle.state.proofs.Widths.{cursor_within, from_within}
use Rattle.state.proofs.Padded.{length_field, length_name}
use Rattle.state.proofs.Regions.{staged_long, bool_ok, rows_long}

-- ---- a table

-- slots that are the bytes of the entries
rows_flat : {A : Type 0} (f : Format A) (slot : A → List ℕ) → ((a : A) → slot a ≡ f.enc a) → (l : List A) → flat (map slot l) ≡ concat_map f.enc l
unfolding map
rows_flat f slot e [] = refl
rows_flat f slot e (a ∷ l) = ap₂ ◌++◌ (e a) (rows_flat f slot e l)

region_is : {A : Type 0} (limit width : ℕ) (f : Format A) (l : List A) (t : Table) → length t ≡ length l → flat t ≡ concat_map f.enc l
    → region limit width t ≡ (table limit width f).enc l
unfolding enc_table table format.padded list
region_is limit width f l t n e =
    let k : 1 + limit * width - 1 - length (concat_map f.enc l) ≡ 1 + limit * width - suc (length (concat_map f.enc l)) = omega arith in
    rw (n, e, k)

table_is : {A : Type 0} (limit width : ℕ) (f : Format A) (slot : A → List ℕ) → ((a : A) → slot a ≡ f.enc a) → (l : List A)
    → region limit width (map slot l) ≡ (table limit width f).enc l
table_is limit width f slot e l = region_is limit width f l (map slot l) (length-map slot l) (rows_flat f slot e l)

-- ---- values and slots

value_is : {A : Type 0} (n : ℕ) (f : Format A) (a : A) → field n f a ≡ (format.padded n f).enc a
unfolding padded format.padded
value_is n f a = refl

bool_is : (b : Bool) → field 1 bool b ≡ bool.enc b
unfolding padded bool via below
bool_is b = refl

number_is : (n : ℕ) → field 8 u64 n ≡ u64.enc n
unfolding padded number
number_is n = refl

name_is : (name : ResourceId) → name_slot name ≡ name_key_layout.enc name
unfolding padded format.padded name_key_layout id_bytes max_id
name_is name = refl

key_is : (n : ℕ) → number_key n ≡ number_key_layout.enc n
unfolding number_key number_key_layout via such below ◌⊗◌
key_is n = refl

-- two fields
pair_is : {A B : Type 0} (f : Format A) (g : Format B) {a b : List ℕ} (p : A × B) → a ≡ f.enc p.0 → b ≡ g.enc p.1 → a ++ b ≡ (f ⊗ g).enc p
unfolding ◌⊗◌
pair_is f g p e h = ap₂ ◌++◌ e h

-- ---- the queues

entry_is : (limits : Limits) (r : ResourceId) (p : Pending) → p.edit.resource ≡ r → pending_slot limits r p ≡ (entry_layout limits).enc p
unfolding pending_slot entry_layout via ◌⊗◌ name_key_layout padded format.padded bool below id_bytes text_bytes operation_bytes option_bytes time_bytes absorbed_bytes fields_bytes attendee_bytes organizer_bytes max_id max_text max_attendees max_conflict_bytes max_refused_bytes
entry_is limits r p e = rw (← e)

concat_append : {A : Type 0} (f : A → List ℕ) (a b : List A) → concat_map f (a ++ b) ≡ concat_map f a ++ concat_map f b
concat_append f [] b = refl
concat_append f (x ∷ a) b = ap (λ (l : List ℕ). f x ++ l) (concat_append f a b) ∙ sym (append_assoc (f x) (concat_map f a) (concat_map f b))

module _ (limits : Limits) where
  queue_flat : (r : ResourceId) (q : Queue) → All (PendingFits limits r) q → flat (queue_slots limits r q) ≡ concat_map (entry_layout limits).enc q
  unfolding map
  queue_flat r [] a = refl
  queue_flat r (p ∷ q) a = ap₂ ◌++◌ (entry_is limits r p a.0.resource_is) (queue_flat r q a.1)

  edits_flat : (m : Map ResourceId Queue) → All (QueueFits limits) m → flat (edit_slots limits m) ≡ concat_map (entry_layout limits).enc (entries_of m)
  unfolding edit_slots entries_of
  edits_flat [] a = refl
  edits_flat (e ∷ m) a =
      tables.flat_append (queue_slots limits e.0 e.1) (edit_slots limits m)
      ∙ ap₂ ◌++◌ (queue_flat e.0 e.1 a.0.each) (edits_flat m a.1)
      ∙ sym (concat_append (entry_layout limits).enc e.1 (entries_of m))

  edits_length : (m : Map ResourceId Queue) → length (edit_slots limits m) ≡ length (entries_of m)
  unfolding edit_slots entries_of
  edits_length [] = refl
  edits_length (e ∷ m) =
      length-append (queue_slots limits e.0 e.1) (edit_slots limits m)
      ∙ ap₂ ◌+◌ (length-map (pending_slot limits e.0) e.1) (edits_length m)
      ∙ sym (length-append e.1 (entries_of m))

  width_is : pending_width limits ≡ entry_bytes limits
  unfolding entry_bytes edit_bytes absorbed_bytes operation_bytes option_bytes time_bytes fields_bytes attendee_bytes organizer_bytes text_bytes id_bytes max_id max_text max_attendees max_conflict_bytes max_refused_bytes
  width_is = omega arith

  queues_is : (m : Map ResourceId Queue) → All (QueueFits limits) m → region limits.waiting (pending_width limits) (edit_slots limits m) ≡ (queues_layout limits).enc m
  unfolding queues_layout
  queues_is m a =
      ap (λ (w : ℕ). region limits.waiting w (edit_slots limits m)) width_is
      ∙ region_is limits.waiting (entry_bytes limits) (entry_layout limits) (entries_of m) (edit_slots limits m) (edits_length m) (edits_flat m a)

-- ---- the pass

-- n zeros
record Blank (b : List ℕ) (n : ℕ) : Type 0 where
  is : b ≡ zeros n

module _ (limits : Limits) where
  abbrev pass_fields : Pass → Table
  pass_fields p =
      field 1 bool p.full
      ∷ field 34 list_from_f p.from
      ∷ region limits.staged 916 (map staged_slot p.staged)
      ∷ region limits.seen 33 (map name_slot p.seen)
      ∷ region limits.observed 33 (map name_slot p.observed)
      ∷ field 34 (option short_text) p.done
      ∷ []

  abbrev pass_sizes : List ℕ
  pass_sizes = 1 ∷ 34 ∷ table_size limits.staged 916 ∷ table_size limits.seen 33 ∷ table_size limits.observed 33 ∷ 34 ∷ []

  fields_sized : (p : Pass) → PassFits limits p → Lens pass_sizes (pass_fields p)
  fields_sized p f = (
    length_field bool_within p.full (bool_ok p.full),
    (
      length_field from_within p.from f.from,
      (
        rows_long staged_slot _ limits.staged 916 staged_long p.staged f.staged.each f.staged.small,
        (
          rows_long name_slot _ limits.seen 33 length_name p.seen f.seen.each f.seen.small,
          (
            rows_long name_slot _ limits.observed 33 length_name p.observed f.observed.each f.observed.small,
            (length_field cursor_within p.done f.done, tt),
          ),
        ),
      ),
    ),
  )

  fields_are : (p : Pass) → flat (pass_fields p) ≡ (pass_layout limits).enc p
  unfolding pass_layout via ◌⊗◌ option_bytes text_bytes staged_bytes event_bytes fields_bytes attendee_bytes organizer_bytes id_bytes max_id max_text max_attendees
  fields_are p =
      ap₂ ◌++◌ (bool_is p.full) (ap₂ ◌++◌ (value_is 34 list_from_f p.from) (
      ap₂ ◌++◌ (table_is limits.staged 916 (name_key_layout ⊗ format.padded 883 staged_f) staged_slot (λ e. pair_is name_key_layout (format.padded 883 staged_f) e (name_is e.0) (value_is 883 staged_f e.1)) p.staged) (
      ap₂ ◌++◌ (table_is limits.seen 33 name_key_layout name_slot name_is p.seen) (
      ap₂ ◌++◌ (table_is limits.observed 33 name_key_layout name_slot name_is p.observed) (
      append-nil (field 34 (option short_text) p.done) ∙ value_is 34 (option short_text) p.done)))))

  fields_long : (p : Pass) → PassFits limits p → length ((pass_layout limits).enc p) ≡ pass_bytes limits
  unfolding pass_bytes option_bytes text_bytes staged_bytes event_bytes fields_bytes attendee_bytes organizer_bytes id_bytes max_id max_text max_attendees
  fields_long p f = ap length (sym (fields_are p)) ∙ tables.length_regions pass_sizes (pass_fields p) (fields_sized p f) ∙ omega arith

  -- all zeros where no pass is open
  empty : (n : ℕ) → enc_table (1 + n) [] ≡ zeros (1 + n)
  unfolding enc_table
  empty n =
      let e : 1 + n - 1 - 0 ≡ n = omega arith in
      let k : suc n ≡ 1 + n = omega arith in
      ap (λ (k : ℕ). 0 ∷ zeros k) e ∙ ap zeros k

  more : (n : ℕ) (b : List ℕ) {l : List ℕ} {m : ℕ} → b ≡ zeros n → Blank l m → Blank (b ++ l) (n + m)
  more n b {m = m} e h = record { is = ap₂ ◌++◌ e h.is ∙ replicate-append-replicate n m 0 }

  closed : flat (pass_fields no_pass) ≡ zeros (pass_bytes limits)
  unfolding no_pass map option list_from_f via enum ◌∣◌ nothing padded bool below pass_bytes option_bytes text_bytes staged_bytes event_bytes fields_bytes attendee_bytes organizer_bytes id_bytes max_id max_text max_attendees
  closed =
      let staged : ℕ = limits.staged * 916 in
      let seen : ℕ = limits.seen * 33 in
      let observed : ℕ = limits.observed * 33 in
      let sum : 1 + (34 + ((1 + staged) + ((1 + seen) + ((1 + observed) + (34 + 0))))) ≡ pass_bytes limits = omega arith in
      let end : Blank [] 0 = record { is = refl } in
      let w : Blank (flat (pass_fields no_pass)) (1 + (34 + ((1 + staged) + ((1 + seen) + ((1 + observed) + (34 + 0)))))) =
      more 1 (zeros 1) refl (more 34 (zeros 34) refl (more (1 + staged) (enc_table (1 + staged) []) (empty staged) (more (1 + seen) (enc_table (1 + seen) []) (empty seen) (
      more (1 + observed) (enc_table (1 + observed) []) (empty observed) (more 34 (zeros 34) refl end))))) in
      w.is ∙ ap zeros sum

  pass_is : (o : Option Pass) → PassFits limits (pass_of o)
      → flat (field 1 bool (is_some o) ∷ pass_fields (pass_of o)) ≡ (format.padded (1 + pass_bytes limits) (option (pass_layout limits))).enc o
  unfolding is_some pass_of padded format.padded bool below option via enum ◌∣◌ nothing
  pass_is None f =
      let k : 1 + pass_bytes limits - 1 ≡ pass_bytes limits = omega arith in
      ap (λ (l : List ℕ). 0 ∷ l) closed ∙ ap (λ (n : ℕ). 0 ∷ zeros n) (sym k)
  pass_is (Some p) f =
      let k : 1 + pass_bytes limits - suc (length ((pass_layout limits).enc p)) ≡ 0 = let e = fields_long p f in omega arith in
      ap (λ (l : List ℕ). 1 ∷ l) (fields_are p ∙ sym (append-nil ((pass_layout limits).enc p)))
      ∙ ap (λ (n : ℕ). 1 ∷ ((pass_layout limits).enc p ++ zeros n)) (sym k)

  -- ---- the state

  abbrev after_pass : SyncState → Table
  after_pass s =
      region limits.waiting (pending_width limits) (edit_slots limits s.edits)
      ∷ region limits.in_flight 43 (map flight_slot s.in_flight)
      ∷ field 8 u64 s.next_request
      ∷ region limits.learned 41 (map learned_slot s.learned)
      ∷ field 8 u64 s.learned_all
      ∷ field 9 (option stamp) s.now
      ∷ region limits.aliases 66 (map alias_slot s.aliases)
      ∷ []

  pub layout_is : (s : SyncState) → Fits limits s → layout limits s ≡ (state_layout limits).enc s
  unfolding layout regions state_layout parts_layout such via ◌⊗◌ id_bytes event_bytes option_bytes purpose_bytes time_bytes fields_bytes attendee_bytes organizer_bytes text_bytes max_id max_text max_attendees
  layout_is s f =
      ap₂ ◌++◌ (table_is limits.records 915 (name_key_layout ⊗ format.padded 882 event_f) record_slot (λ e. pair_is name_key_layout (format.padded 882 event_f) e (name_is e.0) (value_is 882 event_f e.1)) s.records) (
      ap₂ ◌++◌ (value_is 34 (option short_text) s.cursor) (
      tables.flat_append (field 1 bool (is_some s.pass) ∷ pass_fields (pass_of s.pass)) (after_pass s)
      ∙ ap₂ ◌++◌ (pass_is s.pass f.pass) (
      ap₂ ◌++◌ (queues_is limits s.edits f.edits.each) (
      ap₂ ◌++◌ (table_is limits.in_flight 43 (number_key_layout ⊗ format.padded 34 purpose_f) flight_slot (λ e. pair_is number_key_layout (format.padded 34 purpose_f) e (key_is e.0) (value_is 34 purpose_f e.1)) s.in_flight) (
      ap₂ ◌++◌ (number_is s.next_request) (
      ap₂ ◌++◌ (table_is limits.learned 41 (name_key_layout ⊗ u64) learned_slot (λ e. pair_is name_key_layout u64 e (name_is e.0) (number_is e.1)) s.learned) (
      ap₂ ◌++◌ (number_is s.learned_all) (
      ap₂ ◌++◌ (value_is 9 (option stamp) s.now) (
      append-nil (region limits.aliases 66 (map alias_slot s.aliases))
      ∙ table_is limits.aliases 66 (name_key_layout ⊗ name_key_layout) alias_slot (λ e. pair_is name_key_layout name_key_layout e (name_is e.0) (name_is e.1)) s.aliases)))))))))
