-- The attendees' part of the merge over encoded lists: what the code does, byte by byte. A list is its count and its entries; an entry
-- that is absent is no bytes. Assumes nothing.
use Rattle.std.specs.Prelude.{ℕ, zero, suc, ◌+◌, ◌-◌, List, [], ◌∷◌, ◌++◌, ◌≡◌, Bool, true, false, cond, not, ◌&&◌, ◌||◌, leb, ltb, eqb, length, take, get_or, Option, Some, None}
use Rattle.format.specs.Format.{below, option}
use Rattle.model.specs.Event.{Attendee}
use Rattle.model.specs.Limits.{max_attendees}
use Rattle.model.specs.Maps.{same_text}
use Rattle.model.specs.Merge.{Verdict, verdict, display_address}
use Rattle.model.specs.Formats.{short_text, attendee_f}
use Rattle.frame.specs.Read.{skips, start, value_at}
use Rattle.frame.specs.declared.Cursor.{Cursor}
use Rattle.comparison.specs.Bytes.{same_folded, raw, is_ours, is_conflict, is_refused, span}
use Rattle.attendees.specs.declared.judging.Judged.{Judged}

-- a list's count of entries
unfoldable pub entry_count : List ℕ → ℕ
entry_count s = value_at (below (suc max_attendees)) 0 s start

-- the place of the i-th entry
unfoldable pub entry_at : List ℕ → ℕ → Cursor
entry_at s zero = skips (below (suc max_attendees)) s start
entry_at s (suc i) = skips attendee_f s (entry_at s i)

-- its bytes, none past the last
unfoldable pub entry_bytes : List ℕ → ℕ → List ℕ
entry_bytes s i = cond (leb (entry_count s) i) [] (span s (entry_at s i).at (skips attendee_f s (entry_at s i)).at)

-- an entry's address
unfoldable pub address_of : List ℕ → List ℕ
address_of entry = value_at short_text [] entry start

abbrev pub one_if : Bool → ℕ
one_if true = 1
one_if false = 0

-- how many of the first n entries have the folded address
unfoldable pub tally_of : List ℕ → List ℕ → ℕ → ℕ
tally_of s a zero = 0
tally_of s a (suc n) = tally_of s a n + one_if (same_folded (address_of (entry_bytes s n)) a)

-- how many entries before the i-th have its folded address
unfoldable pub occurrence_of : List ℕ → ℕ → ℕ
occurrence_of s i = tally_of s (address_of (entry_bytes s i)) i

-- among n entries from the i-th on, the one that `left` others with the folded address come before
unfoldable pub find_from : List ℕ → List ℕ → (left i n : ℕ) → List ℕ
find_from s wanted left i zero = []
find_from s wanted left i (suc n) =
    cond (same_folded (address_of (entry_bytes s i)) wanted && eqb left 0) (entry_bytes s i)
    (find_from s wanted (left - one_if (same_folded (address_of (entry_bytes s i)) wanted)) (i + 1) n)

-- the entry with a folded address and an occurrence
unfoldable pub find_bytes : List ℕ → List ℕ → ℕ → List ℕ
find_bytes s wanted n = find_from s wanted n 0 (entry_count s)

-- fn display_address: theirs' spelling where it has one, else ours', else base's
unfoldable pub shown_address : List ℕ → List ℕ → List ℕ → List ℕ
shown_address b o t = cond (ltb 0 (length t)) (address_of t) (cond (ltb 0 (length o)) (address_of o) (address_of b))

-- an entry's bytes: none where it is absent
abbrev pub entry_enc : Option Attendee → List ℕ
entry_enc None = []
entry_enc (Some a) = attendee_f.enc a

-- r is the address that is shown for the entries whose bytes these are
pub record Shown (base ours theirs r : List ℕ) : Type 0 where
  pub bytes : r ≡ shown_address base ours theirs
  pub means : (b o t : Option Attendee) → (option attendee_f).Ok b → (option attendee_f).Ok o → (option attendee_f).Ok t
      → base ≡ entry_enc b → ours ≡ entry_enc o → theirs ≡ entry_enc t → r ≡ display_address b o t

-- an entry's bytes before the reply, the reply, and the kind
abbrev pub head_of : List ℕ → List ℕ
head_of e = take (length e - 2) e

unfoldable pub reply_of : List ℕ → ℕ
reply_of e = cond (ltb (length e) 2) 0 (get_or e (length e - 2) 0)

unfoldable pub kind_of : List ℕ → ℕ
kind_of e = cond (ltb (length e) 2) 0 (get_or e (length e - 1) 0)

-- whether two entries are equal but for the reply
unfoldable pub same_rest : List ℕ → List ℕ → Bool
same_rest a b = same_text (head_of a) (head_of b) && eqb (kind_of a) (kind_of b)

-- an entry judged whole, and the writer's own entry, as own_entry does

abbrev pub judge_whole : (b o t : List ℕ) → Bool → Judged
judge_whole b o t owned = record {
  ours = is_ours (verdict raw b o t owned);
  reply = cond (is_ours (verdict raw b o t owned)) (reply_of o) (reply_of t);
  conflict = is_conflict (verdict raw b o t owned);
  refused = is_refused (verdict raw b o t owned);
}

abbrev pub judge_removed : (b o : List ℕ) → Judged
judge_removed b o = record { ours = false; reply = 0; conflict = not (eqb (reply_of b) (reply_of o)); refused = not (same_rest b o) }

abbrev pub rest_refused : (b o t : List ℕ) → Bool
rest_refused b o t = not (same_rest o b || same_rest o t)

abbrev pub reply_verdict : (b o t : List ℕ) → Verdict
reply_verdict b o t = verdict raw (reply_of b ∷ []) (reply_of o ∷ []) (reply_of t ∷ []) true

abbrev pub judge_standing : (b o t : List ℕ) → Judged
judge_standing b o t = record {
  ours = false;
  reply = cond (is_ours (reply_verdict b o t)) (reply_of o) (reply_of t);
  conflict = is_conflict (reply_verdict b o t);
  refused = rest_refused b o t;
}

unfoldable pub judge_own : (b o t : List ℕ) → Judged
judge_own b o t =
    cond (eqb (length b) 0) (judge_whole b o t false)
    (cond (eqb (length o) 0) (judge_whole b o t false)
    (cond (eqb (length t) 0) (judge_removed b o)
    (judge_standing b o t)))

unfoldable pub judge_of : (own owner : Bool) (b o t : List ℕ) → Judged
judge_of own owner b o t = cond own (judge_own b o t) (judge_whole b o t owner)

-- the items that an entry gives

unfoldable pub entry_value_items : List ℕ → ℕ → List (List ℕ)
entry_value_items e reply = cond (eqb (length e) 0) [] ((head_of e ++ (reply ∷ kind_of e ∷ [])) ∷ [])

unfoldable pub side_bytes : List ℕ → List ℕ
side_bytes e = cond (eqb (length e) 0) (4 ∷ 0 ∷ []) (4 ∷ 1 ∷ e)

abbrev pub entry_refused : (b o t : List ℕ) → List ℕ
entry_refused b o t = 4 ∷ 1 ∷ length (shown_address b o t) ∷ shown_address b o t

abbrev pub entry_conflict : (b o t : List ℕ) → List ℕ
entry_conflict b o t = entry_refused b o t ++ (side_bytes b ++ (side_bytes o ++ side_bytes t))

-- of the merged attendees (0), the conflicts (1), the refused (2)
unfoldable pub entry_items : ℕ → Judged → (b o t : List ℕ) → List (List ℕ)
entry_items which j b o t =
    cond (eqb which 0) (entry_value_items (cond j.ours o t) j.reply)
    (cond (eqb which 1) (cond j.conflict (entry_conflict b o t ∷ []) [])
    (cond j.refused (entry_refused b o t ∷ []) []))

unfoldable pub own_of : Bool → (me wanted : List ℕ) → Bool
own_of owner me wanted = cond owner false (same_folded me wanted)

module _ (which : ℕ) (owner : Bool) (me base ours theirs : List ℕ) where
  unfoldable pub key_items : List ℕ → ℕ → List (List ℕ)
  key_items wanted n =
      entry_items which
      (judge_of (own_of owner me wanted) owner (find_bytes base wanted n) (find_bytes ours wanted n) (find_bytes theirs wanted n))
      (find_bytes base wanted n) (find_bytes ours wanted n) (find_bytes theirs wanted n)

  unfoldable pub our_key_items : List ℕ → ℕ → List (List ℕ)
  our_key_items wanted n = cond (ltb 0 (length (find_bytes theirs wanted n))) [] (key_items wanted n)

  -- of the first n entries of theirs, and of ours
  unfoldable pub their_items : ℕ → List (List ℕ)
  their_items zero = []
  their_items (suc n) = their_items n ++ key_items (address_of (entry_bytes theirs n)) (occurrence_of theirs n)

  unfoldable pub our_items : ℕ → List (List ℕ)
  our_items zero = []
  our_items (suc n) = our_items n ++ our_key_items (address_of (entry_bytes ours n)) (occurrence_of ours n)

  unfoldable pub entries_items : List (List ℕ)
  entries_items = their_items (entry_count theirs) ++ our_items (entry_count ours)
