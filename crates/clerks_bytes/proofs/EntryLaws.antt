-- Laws of the attendee lists: an address stands in a list's bytes, or twice, where it does so in the list. Assumes nothing.
use Rattle.std.specs.Prelude.{Option, Some, None}
use Prim.Native.Nat.{ℕ, zero, suc, ◌+◌, ◌-◌, ◌≤◌, ◌<◌}
use native.Mathlib.Omega.{arith}
use native.Mathlib.Numerals.{add-one}
use mathlib.Core.Path.{◌≡◌, refl, sym, ap, ap₂, ◌∙◌}
use mathlib.Core.List.{List, [], ◌∷◌, ◌++◌}
use mathlib.Core.Bool.{Bool, true, false, cond, not, ◌&&◌, ◌||◌}
use lib.Dec.{ltb, eqb}
use lib.ListN.{length, take, drop, get_or}
use lib.Seq.{take-suc, take_all}
use borrow.Author.Tests.{lt-ltb, le-ltb}
use Rattle.format.specs.Format.{list, below, via, ◌⊗◌}
use Rattle.model.specs.Event.{Text, AttendeeRole, Participation, ParticipantKind, Attendee, NormalizedEvent, ProviderEvent}
use Rattle.model.specs.Limits.{max_attendees}
use Rattle.model.specs.Maps.{when◌then◌else◌, same_text, is_some}
use Rattle.model.specs.Formats.{attendee_f, fields_f, event_f}
use Rattle.model.specs.Merge.{to_ascii_lowercase}
use Rattle.model.proofs.Tables.{same_self, same_true}
use Rattle.frame.specs.Read.{start, value_at}
use Rattle.comparison.specs.Bytes.{same_folded}
use Rattle.attendees.specs.Entries.{entry_count, entry_bytes, entry_enc, address_of, one_if, tally_of, occurrence_of, find_from, find_bytes}
use Rattle.attendees.proofs.Shown.{present}
use Rattle.merge.specs.Given.{Begins}
use Rattle.merge.specs.Parts.{fields_of}
use Rattle.merge.proofs.Stood.{Stood, stood_start, stood_alone}
use Rattle.merge.proofs.UnitParts.{part_4}
use Rattle.merge.proofs.EntryParts.{nth_in, count_of, find_is}
use Rattle.merge.proofs.EventParts.{fields_stood}
use Rattle.merge.proofs.Walk.{address_at}
use Rattle.clerks_model.specs.Units.{folded, entry}
use Rattle.clerks_model.specs.Forcing.{apart}
use Rattle.clerks_model.specs.Frame as model
use Rattle.clerks_model.specs.Answer.{all_apart}
use Rattle.clerks_bytes.specs.Frames.{Holds}
use Rattle.clerks_bytes.specs.Entries.{list_of, stands_in, twice_in}
use Rattle.clerks_bytes.specs.declared.frames.Clerks.{Clerks}

-- ---- the lists

fields_list : {s : List ℕ} {e : NormalizedEvent} → Stood fields_f s start e → Stood (list max_attendees attendee_f) (list_of s) start e.attendees
unfolding list_of fields_f via ◌⊗◌
fields_list S = stood_alone S.fine.1.1.1.1.0 (part_4 S)

pub list_stood : {s : List ℕ} {e : NormalizedEvent} → Begins fields_f s e → Stood (list max_attendees attendee_f) (list_of s) start e.attendees
list_stood B = fields_list (stood_start B)

pub event_list_stood : {s : List ℕ} {e : ProviderEvent} → Begins event_f s e → Stood (list max_attendees attendee_f) (list_of (fields_of s)) start e.fields.attendees
event_list_stood B = fields_list (fields_stood B)

-- ---- an address stands

nth_entry : (w : Text) (l : List Attendee) → nth_in w 0 l ≡ entry w l
unfolding entry folded when◌then◌else◌
nth_entry w [] = refl
nth_entry w (a ∷ l) = go (same_text (to_ascii_lowercase a.address) w) (nth_entry w l)
  where
    go : (b : Bool) → nth_in w 0 l ≡ entry w l → cond (b && eqb 0 0) (Some a) (nth_in w (0 - one_if b) l) ≡ (when b then Some a else entry w l)
    go true ih = refl
    go false ih = ih

there : (x : Option Attendee) → ltb 0 (length (entry_enc x)) ≡ is_some x
unfolding is_some
there None = refl
there (Some a) = lt-ltb 0 (length (attendee_f.enc a)) (present a)

pub stands_is : {s : List ℕ} {l : List Attendee} → Stood (list max_attendees attendee_f) s start l → (w : List ℕ) → stands_in s w ≡ is_some (entry (to_ascii_lowercase w) l)
unfolding stands_in
stands_is {s} {l} S w = ap (λ (x : List ℕ). ltb 0 (length x)) (find_is S w 0 ∙ ap entry_enc (nth_entry (to_ascii_lowercase w) l)) ∙ there (entry (to_ascii_lowercase w) l)

-- no bytes: a list without entries
pub stands_none : (w : List ℕ) → stands_in [] w ≡ false
unfolding stands_in find_bytes find_from entry_count value_at below
stands_none w = refl

pub stands_by : (s w : List ℕ) {r : Bool} {found : List ℕ} → found ≡ find_bytes s w 0 → r ≡ ltb 0 (length found) → r ≡ stands_in s w
unfolding stands_in
stands_by s w e f = f ∙ ap (λ (x : List ℕ). ltb 0 (length x)) e

-- ---- an address stands twice

abbrev no_one : Attendee
no_one = record { address = []; name = None; role = AttendeeRole.Required; participation = Participation.NeedsAction; kind = ParticipantKind.Individual }

entry_snoc : (w : Text) (m : List Attendee) (a : Attendee) → is_some (entry w (m ++ a ∷ [])) ≡ (is_some (entry w m) || same_text (folded a) w)
unfolding entry is_some when◌then◌else◌
entry_snoc w [] a = go (same_text (folded a) w)
  where
    go : (b : Bool) → is_some (when b then Some a else None) ≡ b
    go true = refl
    go false = refl
entry_snoc w (x ∷ m) a = go (same_text (folded x) w) (entry_snoc w m a)
  where
    go : (b : Bool) → is_some (entry w (m ++ a ∷ [])) ≡ (is_some (entry w m) || same_text (folded a) w)
        → is_some (when b then Some x else entry w (m ++ a ∷ [])) ≡ (is_some (when b then Some x else entry w m) || same_text (folded a) w)
    go true ih = refl
    go false ih = ih

same_sym : (a b : Text) → same_text a b ≡ same_text b a
same_sym a b = go (same_text a b) (same_text b a) refl refl
  where
    go : (c d : Bool) → same_text a b ≡ c → same_text b a ≡ d → c ≡ d
    go true true e f = refl
    go true false e f = sym (same_self b) ∙ (ap (same_text b) (sym (same_true a b e)) ∙ f)
    go false true e f = sym (sym (same_self a) ∙ (ap (same_text a) (sym (same_true b a f)) ∙ e))
    go false false e f = refl

apart_snoc : (m : List Attendee) (a : Attendee) → apart (m ++ a ∷ []) ≡ (apart m && not (is_some (entry (folded a) m)))
unfolding apart entry is_some when◌then◌else◌
apart_snoc [] a = refl
apart_snoc (b ∷ m) a =
    rw (entry_snoc (folded b) m a, apart_snoc m a, same_sym (folded a) (folded b))
    (go (is_some (entry (folded b) m)) (same_text (folded b) (folded a)) (apart m))
  where
    go : (x y z : Bool) → (not (x || y) && (z && not (is_some (entry (folded a) m)))) ≡ ((not x && z) && not (is_some (when y then Some b else entry (folded a) m)))
    go true y z = refl
    go false true true = refl
    go false true false = refl
    go false false z = refl

more : (x : ℕ) (b : Bool) → ltb 0 (x + one_if b) ≡ (ltb 0 x || b)
more zero true = refl
more zero false = refl
more (suc x) true = lt-ltb 0 (suc x + 1) (omega arith) ∙ sym (ap (λ (c : Bool). c || true) (lt-ltb 0 (suc x) (omega arith)))
more (suc x) false = lt-ltb 0 (suc x + 0) (omega arith) ∙ sym (ap (λ (c : Bool). c || false) (lt-ltb 0 (suc x) (omega arith)))

not_or : (x y : Bool) → (not x || y) ≡ not (x && not y)
not_or true true = refl
not_or true false = refl
not_or false y = refl

module _ {s : List ℕ} {l : List Attendee} (S : Stood (list max_attendees attendee_f) s start l) where
  tally_there : (a : Text) (n : ℕ) → n ≤ length l → ltb 0 (tally_of s a n) ≡ is_some (entry (to_ascii_lowercase a) (take n l))
  unfolding tally_of same_folded entry is_some folded
  tally_there a zero h = refl
  tally_there a (suc n) h =
      more (tally_of s a n) (same_folded (address_of (entry_bytes s n)) a)
      ∙ (ap₂ (λ (x y : Bool). x || y) (tally_there a n (omega arith)) (same n h)
      ∙ sym (ap (λ (m : List Attendee). is_some (entry (to_ascii_lowercase a) m)) (take-suc l n no_one h) ∙ entry_snoc (to_ascii_lowercase a) (take n l) (get_or l n no_one)))
    where
      same : (n : ℕ) → n < length l → same_folded (address_of (entry_bytes s n)) a ≡ same_text (folded (get_or l n no_one)) (to_ascii_lowercase a)
      same n h = rw (address_at S n h)

  occurs : (n : ℕ) → n < length l → ltb 0 (occurrence_of s n) ≡ is_some (entry (folded (get_or l n no_one)) (take n l))
  unfolding occurrence_of folded
  occurs n h = rw (address_at S n h) (tally_there (get_or l n no_one).address n (omega arith))

  twice_of : (n : ℕ) → n ≤ length l → twice_in s n ≡ not (apart (take n l))
  unfolding twice_in apart
  twice_of zero h = refl
  twice_of (suc n) h =
      ap₂ (λ (x y : Bool). x || y) (twice_of n (omega arith)) (occurs n h)
      ∙ (not_or (apart (take n l)) (is_some (entry (folded (get_or l n no_one)) (take n l)))
      ∙ sym (ap (λ (m : List Attendee). not (apart m)) (take-suc l n no_one h) ∙ ap not (apart_snoc (take n l) (get_or l n no_one))))

  pub twice_is : twice_in s (entry_count s) ≡ not (apart l)
  twice_is = ap (twice_in s) (count_of S) ∙ (twice_of (length l) (omega arith) ∙ ap (λ (m : List Attendee). not (apart m)) (take_all (length l) l (omega arith)))

-- ---- whether one does, entry by entry

module _ (s : List ℕ) where
  pub twice_zero : twice_in s 0 ≡ false
  unfolding twice_in
  twice_zero = refl

  twice_stays : (n m k : ℕ) → k + n ≡ m → twice_in s n ≡ true → twice_in s m ≡ true
  unfolding twice_in
  twice_stays n m zero h e = let k : m ≡ n = omega arith in ap (twice_in s) k ∙ e
  twice_stays n zero (suc k) h e = absurd (omega arith)
  twice_stays n (suc m) (suc k) h e = ap (λ (b : Bool). b || ltb 0 (occurrence_of s m)) (twice_stays n m k (omega arith) e)

  pub twice_found : (i count o : ℕ) → count ≡ entry_count s → i < count → o ≡ occurrence_of s i → 0 < o → true ≡ twice_in s (entry_count s)
  unfolding twice_in
  twice_found i count o e h f g =
      let t : twice_in s (suc i) ≡ true = ap (λ (b : Bool). twice_in s i || b) (sym (ap (ltb 0) f) ∙ lt-ltb 0 o g) ∙ or-true (twice_in s i) in
      let k : (count - suc i) + suc i ≡ entry_count s = omega arith in
      sym (twice_stays (suc i) (entry_count s) (count - suc i) k t)
    where
      or-true : (b : Bool) → (b || true) ≡ true
      or-true true = refl
      or-true false = refl

  pub twice_next : (i o : ℕ) → twice_in s i ≡ false → o ≡ occurrence_of s i → o ≤ 0 → twice_in s (i + 1) ≡ false
  unfolding twice_in
  twice_next i o e f g = rw (add-one i) (ap (λ (b : Bool). b || ltb 0 (occurrence_of s i)) e ∙ (sym (ap (ltb 0) f) ∙ le-ltb 0 o g))

  pub twice_end : (i count : ℕ) → count ≡ entry_count s → i ≤ count → count ≤ i → twice_in s i ≡ false → false ≡ twice_in s (entry_count s)
  twice_end i count e h g f = let k : i ≡ entry_count s = omega arith in sym (ap (twice_in s) (sym k) ∙ f)

-- ---- whether one of a frame's three lists has one twice

-- of the event's list, and of each party's
module _ {s : List ℕ} {c : Clerks} {v : model.Clerks} (H : Holds s c v) {y x : List ℕ} {a : Bool} where
  pub event_twice : y ≡ fields_of s → x ≡ list_of y → a ≡ twice_in x (entry_count x) → a ≡ not (apart v.event.fields.attendees)
  event_twice e f g = g ∙ rw (f, e) (twice_is (event_list_stood H.event))

  pub one_twice : y ≡ drop c.one.wanted s → x ≡ list_of y → a ≡ twice_in x (entry_count x) → a ≡ not (apart v.one.wanted.attendees)
  one_twice e f g = g ∙ rw (f, e) (twice_is (list_stood H.one.wanted))

  pub two_twice : y ≡ drop c.two.wanted s → x ≡ list_of y → a ≡ twice_in x (entry_count x) → a ≡ not (apart v.two.wanted.attendees)
  two_twice e f g = g ∙ rw (f, e) (twice_is (list_stood H.two.wanted))

pub not_so : (b : Bool) {a : Bool} → a ≡ not b → a ≡ true → b ≡ false
not_so true e f = sym f ∙ e
not_so false e f = refl

pub so : (b : Bool) {a : Bool} → a ≡ not b → a ≡ false → b ≡ true
so true e f = refl
so false e f = sym f ∙ e

module _ (v : model.Clerks) {a : Bool} (A : a ≡ not (apart v.event.fields.attendees)) where
  pub any_event : a ≡ true → true ≡ not (all_apart v)
  unfolding all_apart
  any_event h = rw (not_so (apart v.event.fields.attendees) A h)

  module _ (h : a ≡ false) {b : Bool} (B : b ≡ not (apart v.one.wanted.attendees)) where
    pub any_one : b ≡ true → true ≡ not (all_apart v)
    unfolding all_apart
    any_one k = rw (so (apart v.event.fields.attendees) A h, not_so (apart v.one.wanted.attendees) B k)

    pub any_two : b ≡ false → {d : Bool} → d ≡ not (apart v.two.wanted.attendees) → d ≡ not (all_apart v)
    unfolding all_apart
    any_two k D = rw (so (apart v.event.fields.attendees) A h, so (apart v.one.wanted.attendees) B k) D
