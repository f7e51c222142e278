-- Change request 9/13, of a merge: under the attendee role it keeps theirs, but for the reminders and the replies of the writer's own entries. By key,
-- an entry of theirs stands with at most another reply, and a key that only ours has gives nothing. Assumes nothing.
use Rattle.std.specs.Prelude.{Option, Some, None}
use Prim.Native.Nat.{ℕ, zero, suc, ◌+◌, ◌≤◌}
use native.Mathlib.Omega.{arith}
use mathlib.Core.Path.{◌≡◌, refl, sym, ap, ap₂, ◌∙◌, subst}
use mathlib.Core.List.{List, [], ◌∷◌, ◌++◌, append_assoc}
use mathlib.Core.Bool.{Bool, true, false, true≢false, not}
use lib.ListN.{length}
use Rattle.format.specs.Format.{Format, via, ◌⊗◌, below, option, list, concat_map, big_endian, number}
use Rattle.model.specs.Event.{Text, Tag, Attendee, Participation, NormalizedEvent, ProviderEvent}
use Rattle.model.specs.Parts.{Role, Field, FieldValue}
use Rattle.model.specs.Shapes.{participation_from}
use Rattle.model.specs.Maps.{when◌then◌else◌, same_text, map, filter, is_some}
use Rattle.model.specs.Formats.{Bytes, tag, short_text, u32, organizer_f, attendee_role_f, participation_f, kind_f, attendee_f, status_f, transparency_f, visibility_f, fields_f, ids_f, event_f}
use Rattle.model.specs.Merge.{unreported, merge_part, rest, with_participation, whole_entry, own_removed, own_reply, own_standing, own_entry, to_ascii_lowercase, Key, Keyed, same_key, key_of, keyed_after, keyed, find, is_own, is_owner, entry_at, entries_at, extend, key_order, merge_attendees, merge}
use Rattle.model.specs.OwnAnswer.{own, but_reply, but_own, SameBut, end, equal_byte, any_byte, marked, entry_marks, entries_marks, fields_marks, own_marks, marks, NothingElseMarked, OnlyOwn, OnlyOwnAnswer}
use Rattle.model.proofs.MergeKeys.{weigh_append, one_if, hits, Distinct, keys, entries, same_key_self, same_key_turned, keys_append, keyed_distinct, entries_keyed}
use Rattle.model.proofs.MergeReports.{part_theirs}

-- ---- what stands for an entry of theirs

-- the entry itself; or, where it is the writer's own, the entry with another reply
data Stands (address : Text) (a : Attendee) : Attendee → Type 0 where
  whole : Stands address a a
  replied : own address a ≡ true → (p : Participation) → Stands address a (with_participation p a)

data Standing (address : Text) (a : Attendee) : Option Attendee → Type 0 where
  stands : (v : Attendee) → Stands address a v → Standing address a (Some v)

-- entry by entry, in theirs' order
data AllStand (address : Text) : List Attendee → List Attendee → Type 0 where
  done : AllStand address [] []
  more : (a v : Attendee) (as' vs : List Attendee) → Stands address a v → AllStand address as' vs → AllStand address (a ∷ as') (v ∷ vs)

itself : (address : Text) (a : Attendee) (v : Option Attendee) → v ≡ Some a → Standing address a v
itself address a v e = rw e (stands a whole)

-- a part that is not owned is theirs
whole_theirs : (b o t : Option Attendee) → (whole_entry false b o t).value ≡ t
unfolding whole_entry
whole_theirs b o t = (part_theirs (option attendee_f) FieldValue.Attendee Field.Attendees _ b o t).value

-- the writer's own entry: only the reply may be another
own_stands : (address : Text) (b o : Option Attendee) (t : Attendee) → own address t ≡ true → Standing address t (own_entry b o (Some t)).value
unfolding own_entry own_standing rest with_participation
own_stands address None o t e = itself address t _ (whole_theirs None o (Some t))
own_stands address (Some b) None t e = itself address t _ (whole_theirs (Some b) None (Some t))
own_stands address (Some b) (Some o) t e =
    rw (part_theirs attendee_f (λ r. FieldValue.Attendee (Some r)) Field.Attendees (Some t.address) (rest b) (rest o) (rest t)).value
    (stands (with_participation (own_reply b o t).value t) (replied e (own_reply b o t).value))

-- an own entry that theirs does not have is not added
own_none : (b o : Option Attendee) → (own_entry b o None).value ≡ None
unfolding own_entry own_removed
own_none None o = whole_theirs None o None
own_none (Some b) None = whole_theirs (Some b) None None
own_none (Some b) (Some o) = refl

-- ---- by key

module _ (address : Text) (b o t : Keyed) where
  entry_stands : (k : Key) (a : Attendee) → find t k ≡ Some a → k.address ≡ to_ascii_lowercase a.address
      → Standing address a (entry_at (Role.Attendee address) b o t k).value
  unfolding entry_at is_own is_owner when◌then◌else◌ own
  entry_stands k a f g = rw f (go (same_text (to_ascii_lowercase address) k.address) refl)
    where
      go : (c : Bool) → same_text (to_ascii_lowercase address) k.address ≡ c
          → Standing address a (when c then own_entry (find b k) (find o k) (Some a) else whole_entry false (find b k) (find o k) (Some a)).value
      go true e = own_stands address (find b k) (find o k) a (ap (same_text (to_ascii_lowercase address)) (sym g) ∙ e)
      go false e = itself address a _ (whole_theirs (find b k) (find o k) (Some a))

  entry_none : (k : Key) → find t k ≡ None → (entry_at (Role.Attendee address) b o t k).value ≡ None
  unfolding entry_at is_owner when◌then◌else◌
  entry_none k f = rw f (elim (is_own (Role.Attendee address) k) as
      (λ c. (when c then own_entry (find b k) (find o k) None else whole_entry false (find b k) (find o k) None).value ≡ None)
      [ true ↦ own_none (find b k) (find o k) | false ↦ whole_theirs (find b k) (find o k) None ])

  extended : (a : Attendee) (v : Option Attendee) (as' vs : List Attendee) → Standing address a v → AllStand address as' vs
      → AllStand address (a ∷ as') (extend (Role.Attendee address) b o t v vs)
  unfolding extend
  extended a (Some v) as' vs (stands v' e) s = more a v as' vs e s
  extended a None as' vs x s = elim x [ ]

  -- the keys that only ours has give nothing
  extra : (ks : List Key) → (entries_at (Role.Attendee address) b o t (filter (λ key. not (is_some (find t key))) ks)).value ≡ []
  unfolding filter when◌then◌else◌ entries_at unreported extend is_some
  extra [] = refl
  extra (k ∷ ks) = go (find t k) refl (extra ks)
    where
      go : (f : Option Attendee) → find t k ≡ f → (entries_at (Role.Attendee address) b o t (filter (λ key. not (is_some (find t key))) ks)).value ≡ []
          → (entries_at (Role.Attendee address) b o t
          (when not (is_some f) then k ∷ filter (λ key. not (is_some (find t key))) ks else filter (λ key. not (is_some (find t key))) ks)).value ≡ []
      go (Some a) f ih = ih
      go None f ih = rw (entry_none k f, ih) refl

no_sum : (n : ℕ) → 1 + n ≡ 0 → ⊥
no_sum n e = omega (arith, e)

-- an entry is found by its key, where no entry before it has the same
find_in : (pre : Keyed) (e : Key × Attendee) (l : Keyed) → hits e.0 (keys pre) ≡ 0 → find (pre ++ e ∷ l) e.0 ≡ Some e.1
unfolding find when◌then◌else◌ map
find_in [] e l h = rw (same_key_self e.0) refl
find_in (x ∷ pre) e l h = go (same_key x.0 e.0) refl (find_in pre e l)
  where
    go : (c : Bool) → same_key x.0 e.0 ≡ c → (hits e.0 (keys pre) ≡ 0 → find (pre ++ e ∷ l) e.0 ≡ Some e.1)
        → (when c then Some x.1 else find (pre ++ e ∷ l) e.0) ≡ Some e.1
    go false q ih = ih (omega (arith, h))
    go true q ih = absurd (no_sum (hits e.0 (keys pre)) (ap (λ (c : Bool). one_if c + hits e.0 (keys pre)) (sym (same_key_turned e.0 x.0 ∙ q)) ∙ h))

-- the entries before a place have not the key of the entry there
apart : (pre : Keyed) (e : Key × Attendee) (l : Keyed) → Distinct (keys (pre ++ e ∷ l)) → hits e.0 (keys pre) ≡ 0
unfolding map
apart pre e l d = go (d e.0)
  where
    total : hits e.0 (keys (pre ++ e ∷ l)) ≡ hits e.0 (keys pre) + (1 + hits e.0 (keys l))
    total = ap (hits e.0) (keys_append pre (e ∷ l)) ∙ weigh_append (λ j. one_if (same_key e.0 j)) (keys pre) (keys (e ∷ l))
        ∙ ap (λ (c : Bool). hits e.0 (keys pre) + (one_if c + hits e.0 (keys l))) (same_key_self e.0)

    go : hits e.0 (keys (pre ++ e ∷ l)) ≤ 1 → hits e.0 (keys pre) ≡ 0
    go h = omega (arith, h, total)

-- a key's address is its entry's, folded
data Folded : Keyed → Type 0 where
  none_left : Folded []
  next : (e : Key × Attendee) (l : Keyed) → e.0.address ≡ to_ascii_lowercase e.1.address → Folded l → Folded (e ∷ l)

folded_snoc : (l : Keyed) (e : Key × Attendee) → Folded l → e.0.address ≡ to_ascii_lowercase e.1.address → Folded (l ++ e ∷ [])
folded_snoc [] e none_left f = next e [] f none_left
folded_snoc (x ∷ l) e (next x' l' g h) f = next x (l ++ e ∷ []) g (folded_snoc l e h f)

folded_after : (out : Keyed) (l : List Attendee) → Folded out → Folded (keyed_after out l)
unfolding keyed_after key_of
folded_after out [] f = f
folded_after out (a ∷ l) f = folded_after (out ++ (key_of out a, a) ∷ []) l (folded_snoc out (key_of out a, a) f refl)

keys_folded : (l : List Attendee) → Folded (keyed l)
unfolding keyed
keys_folded l = folded_after [] l none_left

-- the keys of theirs, from a place on, give their entries
theirs_stand : (address : Text) (b o t : Keyed) (ks : List Key) → (entries_at (Role.Attendee address) b o t ks).value ≡ [] → Distinct (keys t)
    → (pre l : Keyed) → t ≡ pre ++ l → Folded l → AllStand address (entries l) (entries_at (Role.Attendee address) b o t (keys l ++ ks)).value
unfolding map entries_at
theirs_stand address b o t ks None-more d pre [] p f = rw None-more done
theirs_stand address b o t ks None-more d pre (e ∷ l) p (next e' l' g h) = extended address b o t e.1 _ _ _
    (entry_stands address b o t e.0 e.1 (ap (λ (l : Keyed). find l e.0) p ∙ find_in pre e l (apart pre e l (rw (← p) d))) g)
    (theirs_stand address b o t ks None-more d (pre ++ e ∷ []) l (p ∙ sym (append_assoc pre (e ∷ []) l)) h)

attendees_stand : (address : Text) (b o t : List Attendee) → AllStand address t (merge_attendees (Role.Attendee address) b o t).value
unfolding merge_attendees key_order
attendees_stand address b o t =
    subst (λ l. AllStand address l (merge_attendees (Role.Attendee address) b o t).value) (entries_keyed t)
    (theirs_stand address (keyed b) (keyed o) (keyed t) _ (extra address (keyed b) (keyed o) (keyed t) (map (λ e. e.0) (keyed o))) (keyed_distinct t) [] (keyed t) refl (keys_folded t))

-- ---- what that says of the lists

module _ (address : Text) where
  same_but : {a v : Attendee} → Stands address a v → but_reply address v ≡ but_reply address a
  unfolding but_reply own rest with_participation when◌then◌else◌
  same_but whole = refl
  same_but (replied e p) = rw e refl

  same_address : {a v : Attendee} → Stands address a v → v.address ≡ a.address
  unfolding with_participation
  same_address whole = refl
  same_address (replied e p) = refl

  all_but : {x y : List Attendee} → AllStand address x y → map (but_reply address) y ≡ map (but_reply address) x
  unfolding map
  all_but done = refl
  all_but (more a v as' vs e s) = ap₂ (λ (a : Attendee) (l : List Attendee). a ∷ l) (same_but e) (all_but s)

  all_addresses : {x y : List Attendee} → AllStand address x y → map (λ a. a.address) y ≡ map (λ a. a.address) x
  unfolding map
  all_addresses done = refl
  all_addresses (more a v as' vs e s) = ap₂ (λ (a : Text) (l : List Text). a ∷ l) (same_address e) (all_addresses s)

  as_many : {x y : List Attendee} → AllStand address x y → length y ≡ length x
  as_many done = refl
  as_many (more a v as' vs e s) = omega (arith, as_many s)

-- ---- and of the bytes

-- a part as it was, whatever its marks
as_it_was : (mark : Bool) (x : Bytes) → SameBut (marked mark x) x x
unfolding marked map
as_it_was mark [] = end
as_it_was false (b ∷ x) = equal_byte b (as_it_was false x)
as_it_was true (b ∷ x) = any_byte b b (as_it_was true x)

stays : {A : Type 0} (f : Format A) (x : A) → SameBut (marked false (f.enc x)) (f.enc x) (f.enc x)
stays f x = as_it_was false (f.enc x)

-- a marked part as any other of its length
changes : (x y : Bytes) → length x ≡ length y → SameBut (marked true x) x y
unfolding marked map
changes [] [] e = end
changes [] (c ∷ y) e = absurd (no_sum (length y) (omega (arith, e)))
changes (b ∷ x) [] e = absurd (no_sum (length x) (omega (arith, e)))
changes (b ∷ x) (c ∷ y) e = any_byte b c (changes x y (omega (arith, e)))

infixr 5 ◌and_then◌
◌and_then◌ : {m n : List Bool} {x y u v : Bytes} → SameBut m x y → SameBut n u v → SameBut (m ++ n) (x ++ u) (y ++ v)
end and_then k = k
equal_byte b h and_then k = equal_byte b (h and_then k)
any_byte b c h and_then k = any_byte b c (h and_then k)

number_long : (w x : ℕ) → length (big_endian w x) ≡ w
number_long zero x = refl
number_long (suc w) x = omega (arith, number_long w x)

tags_change : (x y : Tag) → SameBut (marked true (tag.enc x)) (tag.enc x) (tag.enc y)
unfolding number
tags_change x y = changes _ _ (number_long 8 x ∙ sym (number_long 8 y))

reply_changes : (mark : Bool) (b c : ℕ) → mark ≡ true → SameBut (mark ∷ []) (b ∷ []) (c ∷ [])
reply_changes true b c e = any_byte b c end
reply_changes false b c e = absurd (true≢false (sym e))

module _ (address : Text) where
  entry_bytes : (a v : Attendee) → Stands address a v → SameBut (entry_marks address a) (attendee_f.enc a) (attendee_f.enc v)
  unfolding entry_marks attendee_f via ◌⊗◌ participation_f with_participation below marked map
  entry_bytes a v whole =
      stays short_text a.address and_then stays (option short_text) a.name and_then stays attendee_role_f a.role
      and_then as_it_was (own address a) (participation_f.enc a.participation) and_then stays kind_f a.kind
  entry_bytes a v (replied e p) =
      stays short_text a.address and_then stays (option short_text) a.name and_then stays attendee_role_f a.role
      and_then reply_changes (own address a) (participation_from a.participation) (participation_from p) e and_then stays kind_f a.kind

  entries_bytes : (x y : List Attendee) → AllStand address x y → SameBut (entries_marks address x) (concat_map attendee_f.enc x) (concat_map attendee_f.enc y)
  unfolding entries_marks
  entries_bytes x y done = end
  entries_bytes x y (more a v as' vs e s) = entry_bytes a v e and_then entries_bytes as' vs s

-- the count of the entries is the same
counted : (n m : ℕ) {marks : List Bool} {x y : Bytes} → m ≡ n → SameBut marks x y → SameBut (false ∷ marks) (n ∷ x) (m ∷ y)
counted n m e h = rw e (equal_byte n h)

-- theirs with another list of attendees, and other reminders
answered : ProviderEvent → List Attendee → Tag → ProviderEvent
answered t attendees reminders = record {
  ids = t.ids;
  revision = t.revision;
  mapper_version = t.mapper_version;
  fields = record {
    title = t.fields.title;
    times = t.fields.times;
    recurrence = t.fields.recurrence;
    organizer = t.fields.organizer;
    attendees = attendees;
    location = t.fields.location;
    description = t.fields.description;
    status = t.fields.status;
    transparency = t.fields.transparency;
    visibility = t.fields.visibility;
    reminders = reminders;
  };
  passthrough = t.passthrough;
}

event_bytes : (address : Text) (t : ProviderEvent) (attendees : List Attendee) (reminders : Tag) → AllStand address t.fields.attendees attendees
    → SameBut (own_marks address t) (event_f.enc t) (event_f.enc (answered t attendees reminders))
unfolding own_marks fields_marks event_f fields_f via ◌⊗◌ list answered
event_bytes address t attendees reminders s =
    let f : NormalizedEvent = t.fields in
    stays ids_f t.ids and_then stays (option short_text) t.revision and_then stays u32 t.mapper_version
    and_then (stays (option short_text) f.title and_then stays tag f.times and_then stays (option tag) f.recurrence and_then stays (option organizer_f) f.organizer
    and_then counted _ _ (as_many address s) (entries_bytes address f.attendees attendees s)
    and_then stays (option short_text) f.location and_then stays (option tag) f.description and_then stays status_f f.status
    and_then stays transparency_f f.transparency and_then stays visibility_f f.visibility and_then tags_change f.reminders reminders)
    and_then stays tag t.passthrough

only_own : (address : Text) (t : ProviderEvent) (attendees : List Attendee) (reminders : Tag) → AllStand address t.fields.attendees attendees
    → OnlyOwn address t (answered t attendees reminders)
unfolding answered but_own
only_own address t attendees reminders s = record {
  equal = rw (all_but address s) refl;
  addresses = all_addresses address s;
  count = as_many address s;
  bytes = event_bytes address t attendees reminders s;
}

-- ---- how many bytes are marked

marks_append : (m n : List Bool) → marks (m ++ n) ≡ marks m + marks n
unfolding marks
marks_append [] n = omega arith
marks_append (true ∷ m) n = omega (arith, marks_append m n)
marks_append (false ∷ m) n = marks_append m n

unmarked : (x : Bytes) → marks (marked false x) ≡ 0
unfolding marks marked map
unmarked [] = refl
unmarked (b ∷ x) = unmarked x

all_marked : (x : Bytes) → marks (marked true x) ≡ length x
unfolding marks marked map
all_marked [] = refl
all_marked (b ∷ x) = omega (arith, all_marked x)

-- a part without marks before others
before_marks : (x : Bytes) (m : List Bool) → marks (marked false x ++ m) ≡ marks m
before_marks x m = omega (arith, marks_append (marked false x) m, unmarked x)

module _ (address : Text) where
  entry_marked : (a : Attendee) → marks (entry_marks address a) ≡ one_if (own address a)
  unfolding entry_marks participation_f via below marks marked map
  entry_marked a =
      before_marks (short_text.enc a.address) _ ∙ before_marks ((option short_text).enc a.name) _ ∙ before_marks (attendee_role_f.enc a.role) _ ∙ go (own address a)
    where
      go : (c : Bool) → marks (marked c (participation_from a.participation ∷ []) ++ marked false (kind_f.enc a.kind)) ≡ one_if c
      go true = omega (arith, unmarked (kind_f.enc a.kind))
      go false = unmarked (kind_f.enc a.kind)

  entries_marked : (l : List Attendee) → marks (entries_marks address l) ≡ length (filter (own address) l)
  unfolding entries_marks marks filter when◌then◌else◌
  entries_marked [] = refl
  entries_marked (a ∷ l) = marks_append (entry_marks address a) (entries_marks address l) ∙ go (own address a) (entry_marked a) (entries_marked l)
    where
      go : (c : Bool) → marks (entry_marks address a) ≡ one_if c → marks (entries_marks address l) ≡ length (filter (own address) l)
          → marks (entry_marks address a) + marks (entries_marks address l) ≡ length (when c then a ∷ filter (own address) l else filter (own address) l)
      go true e h = omega (arith, e, h)
      go false e h = omega (arith, e, h)

  fields_marked : (f : NormalizedEvent) → marks (fields_marks address f) ≡ length (filter (own address) f.attendees) + length (tag.enc f.reminders)
  unfolding fields_marks marks
  fields_marked f =
      before_marks ((option short_text).enc f.title) _ ∙ before_marks (tag.enc f.times) _ ∙ before_marks ((option tag).enc f.recurrence) _
      ∙ before_marks ((option organizer_f).enc f.organizer) _ ∙ marks_append (entries_marks address f.attendees) _
      ∙ ap₂ (λ (n m : ℕ). n + m) (entries_marked f.attendees) (before_marks ((option short_text).enc f.location) _ ∙ before_marks ((option tag).enc f.description) _
      ∙ before_marks (status_f.enc f.status) _ ∙ before_marks (transparency_f.enc f.transparency) _ ∙ before_marks (visibility_f.enc f.visibility) _
      ∙ all_marked (tag.enc f.reminders))

pub nothing_else_marked : NothingElseMarked
unfolding own_marks
nothing_else_marked address e =
    before_marks (ids_f.enc e.ids) _ ∙ before_marks ((option short_text).enc e.revision) _ ∙ before_marks (u32.enc e.mapper_version) _
    ∙ marks_append (fields_marks address e.fields) _ ∙ ends (fields_marked address e.fields) (unmarked (tag.enc e.passthrough))
  where
    ends : {n m k : ℕ} → n ≡ m → k ≡ 0 → n + k ≡ m
    ends p q = omega (arith, p, q)

-- ---- the merged event

merged_is : (base ours : NormalizedEvent) (t : ProviderEvent) (address : Text)
    → (merge base ours t (Role.Attendee address)).event
    ≡ answered t (merge_attendees (Role.Attendee address) base.attendees ours.attendees t.fields.attendees).value
    (merge_part tag FieldValue.Reminders Field.Reminders None true base.reminders ours.reminders t.fields.reminders).value
unfolding merge is_owner answered
merged_is b o t address = rw (
  (part_theirs (option short_text) FieldValue.Title Field.Title None b.title o.title t.fields.title).value,
  (part_theirs tag FieldValue.Times Field.Times None b.times o.times t.fields.times).value,
  (part_theirs (option tag) FieldValue.Recurrence Field.Recurrence None b.recurrence o.recurrence t.fields.recurrence).value,
  (part_theirs (option organizer_f) FieldValue.Organizer Field.Organizer None b.organizer o.organizer t.fields.organizer).value,
  (part_theirs (option short_text) FieldValue.Location Field.Location None b.location o.location t.fields.location).value,
  (part_theirs (option tag) FieldValue.Description Field.Description None b.description o.description t.fields.description).value,
  (part_theirs status_f FieldValue.Status Field.Status None b.status o.status t.fields.status).value,
  (part_theirs transparency_f FieldValue.Transparency Field.Transparency None b.transparency o.transparency t.fields.transparency).value,
  (part_theirs visibility_f FieldValue.Visibility Field.Visibility None b.visibility o.visibility t.fields.visibility).value,
) refl

pub only_own_answer : OnlyOwnAnswer
only_own_answer base ours theirs address =
    subst (OnlyOwn address theirs) (sym (merged_is base ours theirs address))
    (only_own address theirs _ _ (attendees_stand address base.attendees ours.attendees theirs.fields.attendees))
