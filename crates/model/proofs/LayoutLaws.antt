-- The state's bytes of Layout.antt are lawful, allow exactly the well-formed states, and have one length. Assumes nothing.
use Rattle.std.specs.Prelude.{Option, Some, None}
use Prim.Native.Nat.{ℕ, ◌+◌, ◌*◌, ◌≤◌}
use native.Mathlib.Omega.{arith}
use mathlib.Core.Path.{◌≡◌, refl, sym, ap, ◌∙◌, subst}
use mathlib.Core.List.{List, [], ◌∷◌, ◌++◌}
use mathlib.Core.Bool.{Bool, true, false, not}
use lib.ListN.{length, length-append}
use lib.Dec.{T, eqb, eqb→eq, lit<}
use borrow.Author.Tests.{leb-true}
use Rattle.format.specs.Format.{Format, Lawful, All, map_got, nothing, ◌⊗◌, via, enum, ◌∣◌, option, bool, below, list, such, padded, stamp}
use Rattle.format.proofs.FormatLaws.{map_inv, pair_law, via_law, option_law, bool_law, below_law, list_law, such_law, padded_law, stamp_law, T_true}
use Rattle.format.proofs.SizeLaws.{Within, Exactly, exactly_within, padded_exactly, pair_exactly, via_exactly, such_exactly, below_exactly, bool_exactly, number_exactly, list_within, option_within}
use Rattle.model.specs.Seam.{ResourceId}
use Rattle.model.specs.State.{Map, Pending, Queue, SyncState}
use Rattle.model.specs.Limits.{Limits, max_conflict_bytes, max_refused_bytes}
use Rattle.model.specs.Maps.{when◌then◌else◌, by, by_name, same_text, is_empty, map, keys, values}
use Rattle.model.specs.Machine.{sum}
use Rattle.model.specs.Shapes.{pass_to, pass_from, state_to, state_from}
use Rattle.model.specs.Formats.{resource_id, short_text, u64, event_f, list_from_f, operation_f, role_f, conflicts_f, refusals_f, edit_f}
use Rattle.model.specs.SavedForm.{staged_f, purpose_f, pass_f, pending_f, queue_f, state_f}
use Rattle.model.specs.Sizes.{id_bytes, text_bytes, event_bytes, operation_bytes, option_bytes, time_bytes, edit_bytes, purpose_bytes, absorbed_bytes, entry_bytes, staged_bytes, pass_bytes, buffer_length}
use Rattle.model.specs.WellFormed.{all, rising, every, entry_rules, queue_rules, rules, WellFormed}
use Rattle.model.specs.Layout.{table, name_key_layout, number_key_layout, pass_layout, entry_to, entry_from, entry_layout, entries_of, put_first, queues_of, queues_layout, parts_layout, state_layout}
use Rattle.model.proofs.FormatsLaws.{resource_id_law, short_text_law, u64_law, event_f_law, list_from_f_law, operation_f_law, role_f_law, conflicts_f_law, refusals_f_law}
use Rattle.model.proofs.SavedFormLaws.{staged_f_law, purpose_f_law}
use Rattle.model.proofs.Tables.{by_name_self, is_lt, and_left, and_right, same_is, name_order, rising_tail}
use Rattle.model.proofs.Fitting.{all_append}
use Rattle.model.proofs.OneInFlight.{every_at, all_full}
use Rattle.model.proofs.Sizes.{id_within, text_size, event_within, operation_within, role_within, cursor_within, time_within, staged_within, from_within, purpose_within}
use Rattle.model.proofs.StaysWellFormed.{queues_few, all_weaken}

-- ---- lawful

module _ {A : Type 0} {f : Format A} (F : Lawful f) where
  table_law : (limit width : ℕ) → Lawful (table limit width f)
  unfolding table
  table_law limit width = padded_law (list_law F limit) (1 + limit * width)

name_key_law : Lawful name_key_layout
unfolding name_key_layout
name_key_law = padded_law resource_id_law id_bytes

number_key_law : Lawful number_key_layout
unfolding number_key_layout ◌⊗◌ such
number_key_law = via_law (pair_law (such_law (below_law 9) (λ k. eqb k 8)) u64_law) (λ p. p.1) (λ n. (8, n)) (λ n. refl)
    (λ p ok. ap (λ (k : ℕ). (k, p.1)) (sym (eqb→eq p.0 8 ok.0.1)))

pass_bytes_law : (limits : Limits) → Lawful (pass_layout limits)
unfolding pass_layout
pass_bytes_law limits =
    via_law (pair_law bool_law (pair_law (padded_law list_from_f_law option_bytes)
    (pair_law (table_law (pair_law name_key_law (padded_law staged_f_law staged_bytes)) limits.staged (id_bytes + staged_bytes))
    (pair_law (table_law name_key_law limits.seen id_bytes) (pair_law (table_law name_key_law limits.observed id_bytes)
    (padded_law (option_law short_text_law) option_bytes)))))) pass_to pass_from (λ v. refl) (λ p ok. refl)

entry_bytes_law : (limits : Limits) → Lawful (entry_layout limits)
unfolding entry_layout
entry_bytes_law limits =
    via_law (pair_law name_key_law (pair_law (padded_law short_text_law text_bytes) (pair_law (padded_law operation_f_law operation_bytes)
    (pair_law (padded_law role_f_law option_bytes) (pair_law (padded_law (option_law stamp_law) time_bytes)
    (pair_law (padded_law conflicts_f_law max_conflict_bytes) (pair_law (padded_law refusals_f_law max_refused_bytes)
    (pair_law bool_law (padded_law (list_law short_text_law limits.absorbed) (absorbed_bytes limits))))))))))
    entry_to entry_from (λ v. refl) (λ p ok. refl)

-- the entries of the queues of entries are these entries
first_kept : (p : Pending) (m : Map ResourceId Queue) → entries_of (put_first p m) ≡ p ∷ entries_of m
unfolding put_first entries_of when◌then◌else◌
first_kept p [] = refl
first_kept p (e ∷ m) = go (same_text p.edit.resource e.0)
  where
    go : (b : Bool) → entries_of (when b then (e.0, p ∷ e.1) ∷ m else (p.edit.resource, p ∷ []) ∷ e ∷ m) ≡ p ∷ (e.1 ++ entries_of m)
    go true = refl
    go false = refl

entries_back : (l : List Pending) → entries_of (queues_of l) ≡ l
unfolding entries_of queues_of
entries_back [] = refl
entries_back (p ∷ l) = first_kept p (queues_of l) ∙ ap (λ (x : List Pending). p ∷ x) (entries_back l)

module _ (limits : Limits) where
  abbrev entries : Format (List Pending)
  entries = table limits.waiting (entry_bytes limits) (entry_layout limits)

  entries_law : Lawful entries
  entries_law = table_law (entry_bytes_law limits) limits.waiting (entry_bytes limits)

  queues_reads : (s : List ℕ) (r : Map ResourceId Queue × List ℕ) → map_got queues_of (entries.dec s) ≡ Some r
      → (s ≡ entries.enc (entries_of r.0) ++ r.1) × (entries.Ok (entries_of r.0) × (queues_of (entries_of r.0) ≡ r.0))
  queues_reads s r e =
      let j = map_inv queues_of (entries.dec s) r e in
      let u = entries_law.reads s j.0 j.1 in
      let b : entries_of (queues_of j.0.0) ≡ j.0.0 = entries_back j.0.0 in
      rw (← j.2) (u.0 ∙ ap (λ (l : List Pending). entries.enc l ++ j.0.1) (sym b), (subst entries.Ok (sym b) u.1, ap queues_of b))

  queues_bytes_law : Lawful (queues_layout limits)
  unfolding queues_layout
  queues_bytes_law = record {
    writes = λ m ok t. ap (map_got queues_of) (entries_law.writes (entries_of m) ok.0 t) ∙ ap (λ (q : Map ResourceId Queue). Some (q, t)) ok.1;
    reads = queues_reads;
  }

  parts_bytes_law : Lawful (parts_layout limits)
  unfolding parts_layout
  parts_bytes_law =
      via_law (pair_law (table_law (pair_law name_key_law (padded_law event_f_law event_bytes)) limits.records (id_bytes + event_bytes))
      (pair_law (padded_law (option_law short_text_law) option_bytes) (pair_law (padded_law (option_law (pass_bytes_law limits)) (1 + pass_bytes limits))
      (pair_law queues_bytes_law (pair_law (table_law (pair_law number_key_law (padded_law purpose_f_law purpose_bytes)) limits.in_flight (9 + purpose_bytes))
      (pair_law u64_law (pair_law (table_law (pair_law name_key_law u64_law) limits.learned (id_bytes + 8))
      (pair_law u64_law (pair_law (padded_law (option_law stamp_law) time_bytes)
      (table_law (pair_law name_key_law name_key_law) limits.aliases (id_bytes + id_bytes)))))))))))
      state_to state_from (λ v. refl) (λ p ok. refl)

  pub state_bytes_law : Lawful (state_layout limits)
  unfolding state_layout
  state_bytes_law = such_law parts_bytes_law (λ s. every (rules limits s))

-- ---- the lengths

table_exactly : {A : Type 0} (limit width : ℕ) (f : Format A) → Exactly (1 + limit * width) (table limit width f)
unfolding table
table_exactly limit width f = padded_exactly (1 + limit * width) (list limit f)

name_key_exactly : Exactly id_bytes name_key_layout
unfolding name_key_layout
name_key_exactly = padded_exactly id_bytes resource_id

number_key_exactly : Exactly 9 number_key_layout
unfolding number_key_layout
number_key_exactly = via_exactly _ _ (pair_exactly (such_exactly _ (below_exactly 9)) (number_exactly 8))

exactly_is : {A : Type 0} {f : Format A} {m : ℕ} (n : ℕ) → m ≡ n → Exactly m f → Exactly n f
exactly_is n e F = record { bytes = λ a ok. F.bytes a ok ∙ e }

module _ (limits : Limits) where
  entry_bytes_exactly : Exactly (entry_bytes limits) (entry_layout limits)
  unfolding entry_layout entry_bytes edit_bytes
  entry_bytes_exactly =
      exactly_is _ (omega arith)
      (via_exactly entry_to entry_from (pair_exactly name_key_exactly (pair_exactly (padded_exactly text_bytes short_text) (pair_exactly (padded_exactly operation_bytes operation_f)
      (pair_exactly (padded_exactly option_bytes role_f) (pair_exactly (padded_exactly time_bytes (option stamp))
      (pair_exactly (padded_exactly max_conflict_bytes conflicts_f) (pair_exactly (padded_exactly max_refused_bytes refusals_f)
      (pair_exactly bool_exactly (padded_exactly (absorbed_bytes limits) (list limits.absorbed short_text)))))))))))

  pass_bytes_exactly : Exactly (pass_bytes limits) (pass_layout limits)
  unfolding pass_layout pass_bytes
  pass_bytes_exactly =
      exactly_is _ (omega arith)
      (via_exactly pass_to pass_from (pair_exactly bool_exactly (pair_exactly (padded_exactly option_bytes list_from_f)
      (pair_exactly (table_exactly limits.staged (id_bytes + staged_bytes) (name_key_layout ⊗ padded staged_bytes staged_f))
      (pair_exactly (table_exactly limits.seen id_bytes name_key_layout) (pair_exactly (table_exactly limits.observed id_bytes name_key_layout)
      (padded_exactly option_bytes (option short_text))))))))

  queues_bytes_exactly : Exactly (1 + limits.waiting * entry_bytes limits) (queues_layout limits)
  unfolding queues_layout
  queues_bytes_exactly = record { bytes = λ m ok. (table_exactly limits.waiting (entry_bytes limits) (entry_layout limits)).bytes (entries_of m) ok.0 }

  state_bytes_exactly : Exactly (buffer_length limits) (state_layout limits)
  unfolding state_layout parts_layout buffer_length
  state_bytes_exactly =
      exactly_is _ (omega arith)
      (such_exactly _ (via_exactly state_to state_from (
      pair_exactly (table_exactly limits.records (id_bytes + event_bytes) (name_key_layout ⊗ padded event_bytes event_f))
      (pair_exactly (padded_exactly option_bytes (option short_text)) (pair_exactly (padded_exactly (1 + pass_bytes limits) (option (pass_layout limits)))
      (pair_exactly queues_bytes_exactly (pair_exactly (table_exactly limits.in_flight (9 + purpose_bytes) (number_key_layout ⊗ padded purpose_bytes purpose_f))
      (pair_exactly (number_exactly 8) (pair_exactly (table_exactly limits.learned (id_bytes + 8) (name_key_layout ⊗ u64))
      (pair_exactly (number_exactly 8) (pair_exactly (padded_exactly time_bytes (option stamp))
      (table_exactly limits.aliases (id_bytes + id_bytes) (name_key_layout ⊗ name_key_layout)))))))))))))

-- ---- the values allowed: those of the saved form's format

-- f and g allow the same values
record Alike {A : Type 0} (f g : Format A) : Type 0 where
  there : (a : A) → f.Ok a → g.Ok a
  back : (a : A) → g.Ok a → f.Ok a

alike_self : {A : Type 0} (f : Format A) → Alike f f
alike_self f = record { there = λ a ok. ok; back = λ a ok. ok }

padded_alike : {A : Type 0} {f : Format A} {n : ℕ} → Within n f → Alike f (padded n f)
unfolding padded
padded_alike F = record { there = λ a ok. (ok, F.bytes a ok); back = λ a ok. ok.0 }

pair_alike : {A B : Type 0} {f f' : Format A} {g g' : Format B} → Alike f f' → Alike g g' → Alike (f ⊗ g) (f' ⊗ g')
unfolding ◌⊗◌
pair_alike F G = record {
  there = λ p ok. (F.there p.0 ok.0, G.there p.1 ok.1);
  back = λ p ok. (F.back p.0 ok.0, G.back p.1 ok.1);
}

via_alike : {A B : Type 0} {f g : Format A} (to : A → B) (from : B → A) → Alike f g → Alike (via to from f) (via to from g)
unfolding via
via_alike to from F = record { there = λ b ok. F.there (from b) ok; back = λ b ok. F.back (from b) ok }

list_alike : {A : Type 0} {f g : Format A} (limit : ℕ) → Alike f g → Alike (list limit f) (list limit g)
unfolding list
list_alike limit F = record {
  there = λ l ok. (ok.0, all_weaken _ _ F.there l ok.1);
  back = λ l ok. (ok.0, all_weaken _ _ F.back l ok.1);
}

option_alike : {A : Type 0} {f g : Format A} → Alike f g → Alike (option f) (option g)
unfolding option via enum ◌∣◌ nothing
option_alike {A} {f} {g} F = record { there = there; back = back }
  where
    there : (a : Option A) → (option f).Ok a → (option g).Ok a
    there None ok = tt
    there (Some a) ok = F.there a ok

    back : (a : Option A) → (option g).Ok a → (option f).Ok a
    back None ok = tt
    back (Some a) ok = F.back a ok

then_alike : {A : Type 0} {f g h : Format A} → Alike f g → Alike g h → Alike f h
then_alike F G = record { there = λ a ok. G.there a (F.there a ok); back = λ a ok. F.back a (G.back a ok) }

table_alike : {A : Type 0} {f g : Format A} {n : ℕ} (limit : ℕ) → Alike f g → Exactly n g → Alike (list limit f) (table limit n g)
unfolding table
table_alike limit F G = then_alike (list_alike limit F) (padded_alike (list_within limit (exactly_within G)))

name_key_alike : Alike resource_id name_key_layout
unfolding name_key_layout
name_key_alike = padded_alike id_within

number_key_alike : Alike u64 number_key_layout
unfolding number_key_layout via ◌⊗◌ such below
number_key_alike = record { there = λ n ok. ((lit< tt, tt), ok); back = λ n ok. ok.1 }

module _ (limits : Limits) where
  pass_bytes_alike : Alike (pass_f limits) (pass_layout limits)
  unfolding pass_f pass_layout
  pass_bytes_alike =
      via_alike pass_to pass_from (pair_alike (alike_self bool) (pair_alike (padded_alike from_within)
      (pair_alike (table_alike limits.staged (pair_alike name_key_alike (padded_alike staged_within)) (pair_exactly name_key_exactly (padded_exactly staged_bytes staged_f)))
      (pair_alike (table_alike limits.seen name_key_alike name_key_exactly) (pair_alike (table_alike limits.observed name_key_alike name_key_exactly)
      (padded_alike cursor_within))))))

  -- ---- the queues

  entry_there : (resource : ResourceId) (p : Pending) → (pending_f limits).Ok p → T (entry_rules resource p) → (entry_layout limits).Ok p
  unfolding pending_f edit_f entry_layout via ◌⊗◌ entry_rules name_key_layout padded absorbed_bytes
  entry_there resource p ok t =
      let c = leb-true _ _ (T_true _ (every_at _ 1 t)) in
      let r = leb-true _ _ (T_true _ (every_at _ 2 t)) in (
        name_key_alike.there p.edit.resource ok.0.1.0,
        (
          (ok.0.0, text_size.bytes p.edit.id ok.0.0),
          (
            (ok.0.1.1.0, operation_within.bytes p.edit.operation ok.0.1.1.0),
            (
              (ok.0.1.1.1.0, role_within.bytes p.edit.role ok.0.1.1.1.0),
              (
                (ok.0.1.1.1.1, time_within.bytes p.edit.expires_at ok.0.1.1.1.1),
                (
                  (ok.1.0, c),
                  (
                    (ok.1.1.0, r),
                    (ok.1.1.1.0, (ok.1.1.1.1, (list_within limits.absorbed text_size).bytes p.absorbed ok.1.1.1.1)),
                  ),
                ),
              ),
            ),
          ),
        ),
      )

  entry_back : (p : Pending) → (entry_layout limits).Ok p → (pending_f limits).Ok p
  unfolding pending_f edit_f entry_layout via ◌⊗◌ name_key_layout padded
  entry_back p ok = (
    (ok.1.0.0, (ok.0.0, (ok.1.1.0.0, (ok.1.1.1.0.0, ok.1.1.1.1.0.0)))),
    (ok.1.1.1.1.1.0.0, (ok.1.1.1.1.1.1.0.0, (ok.1.1.1.1.1.1.1.0, ok.1.1.1.1.1.1.1.1.0))),
  )

  abbrev Rows : Format (Map ResourceId Queue)
  Rows = list limits.waiting (resource_id ⊗ queue_f limits)

  abbrev waits : Map ResourceId Queue → ℕ
  waits m = sum (map length (values m))

  entries_count : (m : Map ResourceId Queue) → length (entries_of m) ≡ waits m
  unfolding entries_of values map sum
  entries_count [] = refl
  entries_count (e ∷ m) = length-append e.1 (entries_of m) ∙ ap (λ (n : ℕ). length e.1 + n) (entries_count m)

  all_front : (P : Pending → Type 0) (q l : List Pending) → All P (q ++ l) → All P q
  all_front P [] l a = tt
  all_front P (p ∷ q) l a = (a.0, all_front P q l a.1)

  all_rest : (P : Pending → Type 0) (q l : List Pending) → All P (q ++ l) → All P l
  all_rest P [] l a = a
  all_rest P (p ∷ q) l a = all_rest P q l a.1

  queue_there : (r : ResourceId) (q : Queue) → All (pending_f limits).Ok q → T (all (entry_rules r) q) → All (entry_layout limits).Ok q
  unfolding all
  queue_there r [] a t = tt
  queue_there r (p ∷ q) a t =
      (entry_there r p a.0 (and_left (entry_rules r p) (all (entry_rules r) q) t), queue_there r q a.1 (and_right (entry_rules r p) (all (entry_rules r) q) t))

  entries_there : (m : Map ResourceId Queue) → All (resource_id ⊗ queue_f limits).Ok m → T (all queue_rules m) → All (entry_layout limits).Ok (entries_of m)
  unfolding entries_of all queue_rules ◌⊗◌ queue_f list
  entries_there [] a t = tt
  entries_there (e ∷ m) a t =
      let h : T (queue_rules e) = and_left (queue_rules e) (all queue_rules m) t in
      all_append (entry_layout limits).Ok e.1 (entries_of m)
      (queue_there e.0 e.1 a.0.1.1 (and_right (not (is_empty e.1)) (all (entry_rules e.0) e.1) h))
      (entries_there m a.1 (and_right (queue_rules e) (all queue_rules m) t))

  -- the queues of the entries of queues are these queues
  first_new : (r : ResourceId) (q : Queue) (m : Map ResourceId Queue) → T (rising by_name (keys ((r, q) ∷ m))) → (p : Pending) → p.edit.resource ≡ r
      → put_first p m ≡ (r, p ∷ []) ∷ m
  unfolding put_first rising keys map same_text when◌then◌else◌
  first_new r q [] t p e = ap (λ (x : ResourceId). (x, p ∷ []) ∷ []) e
  first_new r q (x ∷ m) t p e = rw (e, is_lt (by_name r x.0) (and_left (by (by_name r x.0) true false false) _ t))

  queue_back : (r : ResourceId) (q : Queue) (m : Map ResourceId Queue) (l : List Pending) → queues_of l ≡ m → T (not (is_empty q)) → T (all (entry_rules r) q)
      → ((p : Pending) → p.edit.resource ≡ r → put_first p m ≡ (r, p ∷ []) ∷ m) → queues_of (q ++ l) ≡ (r, q) ∷ m
  unfolding is_empty all queues_of put_first when◌then◌else◌ same_text entry_rules
  queue_back r [] m l e h t f = absurd h
  queue_back r (p ∷ []) m l e h t f = rw e (f p (same_is p.edit.resource r (every_at _ 0 (and_left (entry_rules r p) true t))))
  queue_back r (p ∷ (p' ∷ q)) m l e h t f =
      let s : p.edit.resource ≡ r = same_is p.edit.resource r (every_at _ 0 (and_left (entry_rules r p) (all (entry_rules r) (p' ∷ q)) t)) in
      let i : queues_of ((p' ∷ q) ++ l) ≡ (r, p' ∷ q) ∷ m = queue_back r (p' ∷ q) m l e tt (and_right (entry_rules r p) (all (entry_rules r) (p' ∷ q)) t) f in
      ap (put_first p) i ∙ rw (s, by_name_self r)

  queues_back : (m : Map ResourceId Queue) → T (all queue_rules m) → T (rising by_name (keys m)) → queues_of (entries_of m) ≡ m
  unfolding entries_of queues_of all queue_rules keys map
  queues_back [] t u = refl
  queues_back (e ∷ m) t u =
      let h : T (queue_rules e) = and_left (queue_rules e) (all queue_rules m) t in
      queue_back e.0 e.1 m (entries_of m) (queues_back m (and_right (queue_rules e) (all queue_rules m) t) (rising_tail by_name name_order e.0 m u))
      (and_left (not (is_empty e.1)) _ h) (and_right (not (is_empty e.1)) _ h) (first_new e.0 e.1 m u)

  queues_there : (m : Map ResourceId Queue) → Rows.Ok m → T (all queue_rules m) → T (rising by_name (keys m)) → waits m ≤ limits.waiting → (queues_layout limits).Ok m
  unfolding queues_layout table list
  queues_there m ok t u w =
      let few : length (entries_of m) ≤ limits.waiting = subst (λ (n : ℕ). n ≤ limits.waiting) (sym (entries_count m)) w in
      ((padded_alike (list_within limits.waiting (exactly_within (entry_bytes_exactly limits)))).there (entries_of m) (few, entries_there m ok.1 t), queues_back m t u)

  key_ok : (r : ResourceId) (q : Queue) → T (not (is_empty q)) → T (all (entry_rules r) q) → All (entry_layout limits).Ok q → resource_id.Ok r
  unfolding is_empty all entry_rules entry_layout via ◌⊗◌ name_key_layout padded
  key_ok r [] h t a = absurd h
  key_ok r (p ∷ q) h t a =
      subst (λ (x : ResourceId). resource_id.Ok x) (same_is p.edit.resource r (every_at _ 0 (and_left (entry_rules r p) (all (entry_rules r) q) t))) a.0.0.0

  rows_back : (m : Map ResourceId Queue) → waits m ≤ limits.waiting → T (all queue_rules m) → All (entry_layout limits).Ok (entries_of m) → All (resource_id ⊗ queue_f limits).Ok m
  unfolding values map sum all queue_rules entries_of ◌⊗◌ queue_f list
  rows_back [] w t a = tt
  rows_back (e ∷ m) w t a =
      let h : T (queue_rules e) = and_left (queue_rules e) (all queue_rules m) t in
      let b : All (entry_layout limits).Ok e.1 = all_front (entry_layout limits).Ok e.1 (entries_of m) a in (
        (key_ok e.0 e.1 (and_left (not (is_empty e.1)) _ h) (and_right (not (is_empty e.1)) _ h) b, (omega arith, all_weaken _ _ entry_back e.1 b)),
        rows_back m (omega arith) (and_right (queue_rules e) (all queue_rules m) t) (all_rest (entry_layout limits).Ok e.1 (entries_of m) a),
      )

  rows_of : (m : Map ResourceId Queue) → (queues_layout limits).Ok m → T (all queue_rules m) → waits m ≤ limits.waiting → Rows.Ok m
  unfolding queues_layout table list padded
  rows_of m ok t w = (let h = queues_few m (all_full m t) in omega arith, rows_back m w t ok.0.0.1)

  -- ---- the state: the well-formed ones and no others

  pub state_there : (s : SyncState) → WellFormed limits s → (state_layout limits).Ok s
  unfolding state_layout such parts_layout state_f via ◌⊗◌ rules
  state_there s w =
      let a = w.fits in
      let q = queues_there s.edits a.1.1.1.0 (every_at (rules limits s) 7 w.ruled) (every_at (rules limits s) 2 w.ruled) (leb-true _ _ (T_true _ (every_at (rules limits s) 6 w.ruled))) in (
        (
          (table_alike limits.records (pair_alike name_key_alike (padded_alike event_within)) (pair_exactly name_key_exactly (padded_exactly event_bytes event_f))).there s.records a.0,
          (
            (padded_alike cursor_within).there s.cursor a.1.0,
            (
              (then_alike (option_alike pass_bytes_alike) (padded_alike (option_within (exactly_within (pass_bytes_exactly limits))))).there s.pass a.1.1.0,
              (
                q,
                (
                  (table_alike limits.in_flight (pair_alike number_key_alike (padded_alike purpose_within)) (pair_exactly number_key_exactly (padded_exactly purpose_bytes purpose_f))).there s.in_flight a.1.1.1.1.0,
                  (
                    a.1.1.1.1.1.0,
                    (
                      (table_alike limits.learned (pair_alike name_key_alike (alike_self u64)) (pair_exactly name_key_exactly (number_exactly 8))).there s.learned a.1.1.1.1.1.1.0,
                      (
                        a.1.1.1.1.1.1.1.0,
                        (
                          (padded_alike time_within).there s.now a.1.1.1.1.1.1.1.1.0,
                          (table_alike limits.aliases (pair_alike name_key_alike name_key_alike) (pair_exactly name_key_exactly name_key_exactly)).there s.aliases a.1.1.1.1.1.1.1.1.1,
                        ),
                      ),
                    ),
                  ),
                ),
              ),
            ),
          ),
        ),
        w.ruled,
      )

  pub state_back : (s : SyncState) → (state_layout limits).Ok s → WellFormed limits s
  unfolding state_layout such parts_layout state_f via ◌⊗◌ rules
  state_back s ok =
      let a = ok.0 in
      let t = ok.1 in
      let q = rows_of s.edits a.1.1.1.0 (every_at (rules limits s) 7 t) (leb-true _ _ (T_true _ (every_at (rules limits s) 6 t))) in
      record {
        fits = (
          (table_alike limits.records (pair_alike name_key_alike (padded_alike event_within)) (pair_exactly name_key_exactly (padded_exactly event_bytes event_f))).back s.records a.0,
          (
            (padded_alike cursor_within).back s.cursor a.1.0,
            (
              (then_alike (option_alike pass_bytes_alike) (padded_alike (option_within (exactly_within (pass_bytes_exactly limits))))).back s.pass a.1.1.0,
              (
                q,
                (
                  (table_alike limits.in_flight (pair_alike number_key_alike (padded_alike purpose_within)) (pair_exactly number_key_exactly (padded_exactly purpose_bytes purpose_f))).back s.in_flight a.1.1.1.1.0,
                  (
                    a.1.1.1.1.1.0,
                    (
                      (table_alike limits.learned (pair_alike name_key_alike (alike_self u64)) (pair_exactly name_key_exactly (number_exactly 8))).back s.learned a.1.1.1.1.1.1.0,
                      (
                        a.1.1.1.1.1.1.1.0,
                        (
                          (padded_alike time_within).back s.now a.1.1.1.1.1.1.1.1.0,
                          (table_alike limits.aliases (pair_alike name_key_alike name_key_alike) (pair_exactly name_key_exactly name_key_exactly)).back s.aliases a.1.1.1.1.1.1.1.1.1,
                        ),
                      ),
                    ),
                  ),
                ),
              ),
            ),
          ),
        );
        ruled = t;
      }

  pub state_long : (s : SyncState) → WellFormed limits s → length ((state_layout limits).enc s) ≡ buffer_length limits
  state_long s w = (state_bytes_exactly limits).bytes s (state_there s w)
