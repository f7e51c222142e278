-- The items of encoded attendee lists are those of the merge's definitions, key by key. Assumes nothing.
use Rattle.std.specs.Prelude.{Option, Some, None}
use Prim.Native.Nat.{ℕ, zero, suc, ◌≤◌, ◌<◌}
use native.Mathlib.Omega.{arith}
use native.Mathlib.Numerals.{add-one}
use mathlib.Core.Path.{◌≡◌, refl, sym, ap, ap₂, ◌∙◌, subst}
use mathlib.Core.List.{List, [], ◌∷◌, ◌++◌, append_assoc, append-nil}
use mathlib.Core.Bool.{Bool, true, false, cond, not}
use lib.Dec.{ltb}
use lib.ListN.{length, take, drop, get_or}
use lib.Seq.{take-suc, drop-cons, take_all}
use borrow.Author.Tests.{lt-ltb}
use Rattle.format.specs.Format.{list, option, All}
use Rattle.model.specs.Event.{Text, AttendeeRole, Participation, ParticipantKind, Attendee}
use Rattle.model.specs.Parts.{Role}
use Rattle.model.specs.Limits.{max_attendees}
use Rattle.model.specs.Maps.{when◌then◌else◌, map, filter, is_some}
use Rattle.model.specs.Formats.{attendee_f, conflict_f, refused_f}
use Rattle.model.specs.Merge.{Merged, unreported, to_ascii_lowercase, Key, Keyed, key_of, keyed_after, keyed, find, is_own, is_owner, entry_at, extend, entries_at, key_order, merge_attendees}
use Rattle.model.proofs.MergeKeys.{keys, keys_append, entries_keyed}
use Rattle.model.proofs.MergeReports.{find_ok}
use Rattle.frame.specs.Read.{start}
use Rattle.comparison.specs.Bytes.{same_folded}
use Rattle.attendees.specs.Entries.{entry_count, entry_bytes, entry_enc, address_of, tally_of, occurrence_of, find_bytes, own_of, key_items, our_key_items, their_items, our_items, entries_items}
use Rattle.attendees.proofs.Shown.{present}
use Rattle.merge.proofs.Stood.{Stood}
use Rattle.merge.proofs.EntryParts.{From, from_zero, from_next, entry_address, count_of, find_is}
use Rattle.merge.proofs.Items.{encs, encs_append, one_item, one_none, one_same, one_append, items}
use Rattle.merge.proofs.Judging.{entry_items_lem}
use Rattle.merge.proofs.Keys.{tally, tally_snoc, find_nth}

-- owner and address say who writes
pub record Writes (owner : Bool) (me : Text) (role : Role) : Type 0 where
  pub owner_is : owner ≡ is_owner role
  pub own_is : (w : Text) (n : ℕ) → own_of owner me w ≡ is_own role (record { address = to_ascii_lowercase w; occurrence = n })

abbrev no_one : Attendee
no_one = record { address = []; name = None; role = AttendeeRole.Required; participation = Participation.NeedsAction; kind = ParticipantKind.Individual }

list_fine : {s : List ℕ} {l : List Attendee} → Stood (list max_attendees attendee_f) s start l → All attendee_f.Ok l
unfolding list
list_fine S = S.fine.1

module _ {s : List ℕ} {l : List Attendee} (S : Stood (list max_attendees attendee_f) s start l) where
  found_fine : (k : Key) → (option attendee_f).Ok (find (keyed l) k)
  found_fine k = find_ok (keyed l) k (subst (λ (m : List Attendee). All attendee_f.Ok m) (sym (entries_keyed l)) (list_fine S))

  found_is : (w : Text) (n : ℕ) → find_bytes s w n ≡ entry_enc (find (keyed l) (record { address = to_ascii_lowercase w; occurrence = n }))
  found_is w n = find_is S w n ∙ ap entry_enc (sym (find_nth (record { address = to_ascii_lowercase w; occurrence = n }) l))

  from_at : (i : ℕ) → i ≤ length l → From s i (drop i l)
  from_at zero h = from_zero S
  from_at (suc i) h =
      let r : From s i (get_or l i no_one ∷ drop (suc i) l) = subst (λ d. From s i d) (drop-cons l i no_one (omega arith)) (from_at i (omega arith)) in
      subst (λ j. From s j (drop (suc i) l)) (add-one i) (from_next r)

  at : (i : ℕ) → i < length l → From s i (get_or l i no_one ∷ drop (suc i) l)
  at i h = subst (λ d. From s i d) (drop-cons l i no_one h) (from_at i (omega arith))

  pub address_at : (i : ℕ) → i < length l → address_of (entry_bytes s i) ≡ (get_or l i no_one).address
  address_at i h = entry_address (at i h) (let c = count_of S in omega arith)

  keyed_snoc : (out : Keyed) (m : List Attendee) (a : Attendee) → keyed_after out (m ++ a ∷ []) ≡ keyed_after out m ++ (key_of (keyed_after out m) a, a) ∷ []
  unfolding keyed_after
  keyed_snoc out [] a = refl
  keyed_snoc out (b ∷ m) a = keyed_snoc (out ++ (key_of out b, b) ∷ []) m a

  keyed_take : (i : ℕ) → i < length l → keyed (take (suc i) l) ≡ keyed (take i l) ++ (key_of (keyed (take i l)) (get_or l i no_one), get_or l i no_one) ∷ []
  unfolding keyed
  keyed_take i h = ap keyed (take-suc l i no_one h) ∙ keyed_snoc [] (take i l) (get_or l i no_one)

  tally_at : (a : Text) (n : ℕ) → n ≤ length l → tally_of s a n ≡ tally (keyed (take n l)) (to_ascii_lowercase a)
  unfolding tally_of same_folded keyed keyed_after filter key_of
  tally_at a zero h = refl
  tally_at a (suc n) h =
      rw (tally_at a n (omega arith), address_at n h, keyed_take n h)
      (sym (tally_snoc (to_ascii_lowercase a) (keyed (take n l)) (key_of (keyed (take n l)) (get_or l n no_one), get_or l n no_one)))

  -- the key of the i-th entry
  pub key_at : (i : ℕ) → i < length l
      → ◌≡◌ {A = Key} (record { address = to_ascii_lowercase (address_of (entry_bytes s i)); occurrence = occurrence_of s i }) (key_of (keyed (take i l)) (get_or l i no_one))
  unfolding occurrence_of key_of
  key_at i h = rw (address_at i h, tally_at (get_or l i no_one).address i (omega arith))

  keys_take : (i : ℕ) → i < length l → keys (keyed (take (suc i) l)) ≡ keys (keyed (take i l)) ++ key_of (keyed (take i l)) (get_or l i no_one) ∷ []
  unfolding map
  keys_take i h = ap keys (keyed_take i h) ∙ keys_append (keyed (take i l)) ((key_of (keyed (take i l)) (get_or l i no_one), get_or l i no_one) ∷ [])

-- the three lists
module _ (which : ℕ) (role : Role) (b o t : Keyed) where
  -- the bytes of what the entries of the keys give, in order
  abbrev pub items_at : List Key → List (List ℕ)
  items_at [] = []
  items_at (k ∷ ks) = items which one_item (entry_at role b o t k) ++ items_at ks

  items_append : (x y : List Key) → items_at (x ++ y) ≡ items_at x ++ items_at y
  items_append [] y = refl
  items_append (k ∷ x) y = ap (λ (r : List (List ℕ)). items which one_item (entry_at role b o t k) ++ r) (items_append x y)
      ∙ sym (append_assoc (items which one_item (entry_at role b o t k)) (items_at x) (items_at y))

  extend_encs : (x : Option Attendee) (l : List Attendee) → encs attendee_f.enc (extend role b o t x l) ≡ one_item x ++ encs attendee_f.enc l
  unfolding extend
  extend_encs None l = refl
  extend_encs (Some a) l = refl

  pub items_are : (ks : List Key) → items_at ks ≡ items which (encs attendee_f.enc) (entries_at role b o t ks)
  unfolding entries_at unreported
  items_are [] = sym (one_none which)
  items_are (k ∷ ks) =
      ap (λ (r : List (List ℕ)). items which one_item (entry_at role b o t k) ++ r) (items_are ks)
      ∙ (sym (one_append which (one_item e.value) (encs conflict_f.enc e.conflicts) (encs refused_f.enc e.refused) (encs attendee_f.enc m.value) (encs conflict_f.enc m.conflicts) (encs refused_f.enc m.refused))
      ∙ one_same which (sym (extend_encs e.value m.value)) (sym (encs_append conflict_f.enc e.conflicts m.conflicts)) (sym (encs_append refused_f.enc e.refused m.refused)))
    where
      e : Merged (Option Attendee)
      e = entry_at role b o t k

      m : Merged (List Attendee)
      m = entries_at role b o t ks

module _ (which : ℕ) {owner : Bool} {me : Text} {role : Role} (W : Writes owner me role) {base ours theirs : List ℕ} {b o t : List Attendee}
    (B : Stood (list max_attendees attendee_f) base start b) (O : Stood (list max_attendees attendee_f) ours start o) (R : Stood (list max_attendees attendee_f) theirs start t) where
  abbrev at_keys : List Key → List (List ℕ)
  at_keys = items_at which role (keyed b) (keyed o) (keyed t)

  abbrev at_key : Key → List (List ℕ)
  at_key k = items which one_item (entry_at role (keyed b) (keyed o) (keyed t) k)

  pub key_items_lem : (w : Text) (n : ℕ) → key_items which owner me base ours theirs w n ≡ at_key (record { address = to_ascii_lowercase w; occurrence = n })
  unfolding key_items entry_at
  key_items_lem w n =
      let k : Key = record { address = to_ascii_lowercase w; occurrence = n } in
      rw (found_is B w n, found_is O w n, found_is R w n, W.own_is w n, W.owner_is)
      (entry_items_lem which (is_own role k) (is_owner role) (find (keyed b) k) (find (keyed o) k) (find (keyed t) k) (found_fine B k) (found_fine O k) (found_fine R k))

  their_items_lem : (n : ℕ) → n ≤ length t → their_items which owner me base ours theirs n ≡ at_keys (keys (keyed (take n t)))
  unfolding their_items keyed keyed_after map
  their_items_lem zero h = refl
  their_items_lem (suc n) h =
      let k : Key = key_of (keyed (take n t)) (get_or t n no_one) in
      let e : key_items which owner me base ours theirs (address_of (entry_bytes theirs n)) (occurrence_of theirs n) ≡ at_key k
      = key_items_lem (address_of (entry_bytes theirs n)) (occurrence_of theirs n) ∙ ap (λ (k : Key). at_key k) (key_at R n h) in
      ap₂ (λ (x y : List (List ℕ)). x ++ y) (their_items_lem n (omega arith)) e
      ∙ sym (ap (λ (ks : List Key). at_keys ks) (keys_take R n h) ∙ (items_append which role (keyed b) (keyed o) (keyed t) (keys (keyed (take n t))) (k ∷ [])
      ∙ ap (λ (r : List (List ℕ)). at_keys (keys (keyed (take n t))) ++ r) (append-nil (at_key k))))

  abbrev new : Key → Bool
  new k = not (is_some (find (keyed t) k))

  filter_append : (x y : List Key) → filter new (x ++ y) ≡ filter new x ++ filter new y
  unfolding filter when◌then◌else◌
  filter_append [] y = refl
  filter_append (k ∷ x) y = go (new k) (filter_append x y)
    where
      go : (c : Bool) → filter new (x ++ y) ≡ filter new x ++ filter new y → (when c then k ∷ filter new (x ++ y) else filter new (x ++ y)) ≡ (when c then k ∷ filter new x else filter new x) ++ filter new y
      go true ih = ap (λ (r : List Key). k ∷ r) ih
      go false ih = ih

  our_key : (w : Text) (n : ℕ) (k : Key) → ◌≡◌ {A = Key} (record { address = to_ascii_lowercase w; occurrence = n }) k
      → our_key_items which owner me base ours theirs w n ≡ at_keys (filter new (k ∷ []))
  unfolding our_key_items filter when◌then◌else◌ is_some
  our_key w n k e =
      rw (found_is R w n) (ap (λ (j : Key). cond (ltb 0 (length (entry_enc (find (keyed t) j)))) [] (key_items which owner me base ours theirs w n)) e
      ∙ go (find (keyed t) k) (key_items_lem w n ∙ ap (λ (k : Key). at_key k) e))
    where
      go : (x : Option Attendee) → key_items which owner me base ours theirs w n ≡ at_key k
          → cond (ltb 0 (length (entry_enc x))) [] (key_items which owner me base ours theirs w n) ≡ at_keys (when not (is_some x) then k ∷ [] else [])
      go None ih = ih ∙ sym (append-nil (at_key k))
      go (Some a) ih = rw (lt-ltb 0 (length (attendee_f.enc a)) (present a))

  our_items_lem : (n : ℕ) → n ≤ length o → our_items which owner me base ours theirs n ≡ at_keys (filter new (keys (keyed (take n o))))
  unfolding our_items keyed keyed_after map filter
  our_items_lem zero h = refl
  our_items_lem (suc n) h =
      let k : Key = key_of (keyed (take n o)) (get_or o n no_one) in
      ap₂ (λ (x y : List (List ℕ)). x ++ y) (our_items_lem n (omega arith)) (our_key (address_of (entry_bytes ours n)) (occurrence_of ours n) k (key_at O n h))
      ∙ sym (ap (λ (ks : List Key). at_keys (filter new ks)) (keys_take O n h) ∙ (ap (λ (ks : List Key). at_keys ks) (filter_append (keys (keyed (take n o))) (k ∷ []))
      ∙ items_append which role (keyed b) (keyed o) (keyed t) (filter new (keys (keyed (take n o)))) (filter new (k ∷ []))))

  -- the attendees, whole
  pub entries_items_lem : entries_items which owner me base ours theirs ≡ at_keys (key_order (keyed o) (keyed t))
  unfolding entries_items key_order
  entries_items_lem =
      let x : their_items which owner me base ours theirs (entry_count theirs) ≡ at_keys (keys (keyed t))
      = ap (their_items which owner me base ours theirs) (count_of R) ∙ (their_items_lem (length t) (omega arith) ∙ ap (λ (l : List Attendee). at_keys (keys (keyed l))) (take_all (length t) t (omega arith))) in
      let y : our_items which owner me base ours theirs (entry_count ours) ≡ at_keys (filter new (keys (keyed o)))
      = ap (our_items which owner me base ours theirs) (count_of O) ∙ (our_items_lem (length o) (omega arith) ∙ ap (λ (l : List Attendee). at_keys (filter new (keys (keyed l)))) (take_all (length o) o (omega arith))) in
      ap₂ (λ (x y : List (List ℕ)). x ++ y) x y ∙ sym (items_append which role (keyed b) (keyed o) (keyed t) (keys (keyed t)) (filter new (keys (keyed o))))

  pub attendees_items : entries_items which owner me base ours theirs ≡ items which (encs attendee_f.enc) (merge_attendees role b o t)
  unfolding merge_attendees
  attendees_items = entries_items_lem ∙ items_are which role (keyed b) (keyed o) (keyed t) (key_order (keyed o) (keyed t))
