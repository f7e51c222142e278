-- Laws of the attendees' part: one for each answer of each function, its premises the facts of the branches. Assumes nothing.
use Rattle.std.specs.Prelude.{Some, None}
use Prim.Native.Nat.{ℕ, zero, suc, ◌+◌, ◌-◌, ◌≤◌, ◌<◌}
use native.Mathlib.Omega.{arith}
use native.Mathlib.Numerals.{add-one}
use mathlib.Core.Path.{◌≡◌, refl, sym, ap, ◌∙◌}
use mathlib.Core.List.{List, [], ◌∷◌, ◌++◌}
use mathlib.Core.Bool.{Bool, true, false, cond, not, ◌&&◌, and-true}
use lib.Dec.{leb, ltb, eqb}
use lib.ListN.{length, get_or}
use borrow.Author.Tests.{eq-eqb, ne_eqb, lt-ltb, le-ltb, le-leb, lt-leb}
use Rattle.format.specs.Format.{Got, below, text}
use Rattle.model.specs.Limits.{max_attendees, max_text}
use Rattle.model.specs.Maps.{when◌then◌else◌, same_text}
use Rattle.model.specs.Formats.{same, short_text, attendee_f}
use Rattle.model.specs.Merge.{Verdict, verdict}
use Rattle.model.proofs.FormatsLaws.{short_text_law}
use Rattle.comparison.proofs.Laws.{same_nil, same_cons, asked}
use Rattle.frame.specs.Read.{skips, start, value_at, value_of}
use Rattle.frame.specs.declared.Cursor.{Cursor}
use Rattle.comparison.specs.Bytes.{same_folded, raw, span}
use Rattle.comparison.specs.Which.{number_of, which_of}
use Rattle.comparison.specs.declared.Which.{Which}
use Rattle.attendees.specs.Entries.{entry_count, entry_at, entry_bytes, address_of, one_if, tally_of, occurrence_of, find_from, find_bytes, shown_address, head_of, reply_of, kind_of, same_rest, judge_whole, judge_removed, rest_refused, judge_standing, judge_own, judge_of, entry_value_items, side_bytes, entry_items, own_of, key_items, our_key_items, their_items, our_items, entries_items}
use Rattle.attendees.specs.declared.judging.Judged.{Judged}

module _ (e : List ℕ) where
  pub reply_short : length e < 2 → 0 ≡ reply_of e
  unfolding reply_of
  reply_short h = rw (lt-ltb (length e) 2 h)

  pub reply_long : 2 ≤ length e → get_or e (length e - 2) 0 ≡ reply_of e
  unfolding reply_of
  reply_long h = rw (le-ltb (length e) 2 h)

  pub kind_short : length e < 2 → 0 ≡ kind_of e
  unfolding kind_of
  kind_short h = rw (lt-ltb (length e) 2 h)

  pub kind_long : 2 ≤ length e → get_or e (length e - 1) 0 ≡ kind_of e
  unfolding kind_of
  kind_long h = rw (le-ltb (length e) 2 h)

  pub head_short : length e < 2 → [] ≡ head_of e
  head_short h =
      let z : length e - 2 ≡ 0 = omega arith in
      rw z

-- one byte compared
pub one_byte : (x y : ℕ) → same_text (x ∷ []) (y ∷ []) ≡ eqb x y
one_byte x y = same_cons x y [] [] ∙ rw same_nil (and-true (eqb x y))

module _ (b o t : ℕ) where
  pub byte_base : o ≡ b → Verdict.Theirs ≡ verdict raw (b ∷ []) (o ∷ []) (t ∷ []) true
  unfolding verdict same when◌then◌else◌
  byte_base e = rw (one_byte o b, eq-eqb o b e)

  pub byte_theirs : (o ≡ b → ⊥) → o ≡ t → Verdict.Theirs ≡ verdict raw (b ∷ []) (o ∷ []) (t ∷ []) true
  unfolding verdict same when◌then◌else◌
  byte_theirs e f = rw (one_byte o b, one_byte o t, ne_eqb o b e, eq-eqb o t f)

  pub byte_ours : (o ≡ b → ⊥) → (o ≡ t → ⊥) → t ≡ b → Verdict.Ours ≡ verdict raw (b ∷ []) (o ∷ []) (t ∷ []) true
  unfolding verdict same when◌then◌else◌
  byte_ours e f g = rw (one_byte o b, one_byte o t, one_byte t b, ne_eqb o b e, ne_eqb o t f, eq-eqb t b g)

  pub byte_conflict : (o ≡ b → ⊥) → (o ≡ t → ⊥) → (t ≡ b → ⊥) → Verdict.Conflict ≡ verdict raw (b ∷ []) (o ∷ []) (t ∷ []) true
  unfolding verdict same when◌then◌else◌
  byte_conflict e f g = rw (one_byte o b, one_byte o t, one_byte t b, ne_eqb o b e, ne_eqb o t f, ne_eqb t b g)

pub count_is : (s : List ℕ) (n : ℕ) → n ≡ value_at (below (suc 8)) 0 s start → n ≡ entry_count s
unfolding entry_count max_attendees
count_is s n e = e

pub address_is : (s r : List ℕ) → r ≡ value_at (text 32) [] s start → r ≡ address_of s
unfolding address_of max_text
address_is s r e = e

pub at_zero : (s : List ℕ) (c : Cursor) → c ≡ skips (below (suc 8)) s start → c ≡ entry_at s 0
unfolding entry_at max_attendees
at_zero s c e = e

pub at_next : (s : List ℕ) (j : ℕ) (c d : Cursor) → c ≡ entry_at s j → d ≡ skips attendee_f s c → d ≡ entry_at s (j + 1)
unfolding entry_at
at_next s j c d e f = rw (add-one j) (f ∙ ap (skips attendee_f s) e)

pub entry_none : (s : List ℕ) (i n : ℕ) → n ≡ entry_count s → n ≤ i → [] ≡ entry_bytes s i
unfolding entry_bytes
entry_none s i n e h = rw (← e, le-leb n i h)

pub entry_some : (s : List ℕ) (i n : ℕ) (c d : Cursor) (r : List ℕ) → n ≡ entry_count s → i < n → c ≡ entry_at s i → d ≡ skips attendee_f s c → r ≡ span s c.at d.at
    → r ≡ entry_bytes s i
unfolding entry_bytes
entry_some s i n c d r e h f g k =
    let l : leb (entry_count s) i ≡ false = lt-leb (entry_count s) i (let q = e in omega arith) in
    k ∙ rw (g, f, l)

-- the address shown
module _ (b o t : List ℕ) where
  pub shown_theirs : 0 < length t → (r : List ℕ) → r ≡ address_of t → r ≡ shown_address b o t
  unfolding shown_address
  shown_theirs h r e = rw (lt-ltb 0 (length t) h) e

  pub shown_ours : length t ≤ 0 → 0 < length o → (r : List ℕ) → r ≡ address_of o → r ≡ shown_address b o t
  unfolding shown_address
  shown_ours g h r e = rw (le-ltb 0 (length t) g, lt-ltb 0 (length o) h) e

  pub shown_base : length t ≤ 0 → length o ≤ 0 → (r : List ℕ) → r ≡ address_of b → r ≡ shown_address b o t
  unfolding shown_address
  shown_base g h r e = rw (le-ltb 0 (length t) g, le-ltb 0 (length o) h) e

text_ok : (r : List ℕ) → short_text.Ok r → length r ≤ 255
unfolding text max_text
text_ok r h = let l = h.0 in omega arith

address_short : (s : List ℕ) → length (address_of s) ≤ 255
unfolding address_of value_at
address_short s = go (short_text.dec s) refl
  where
    go : (x : Got (List ℕ)) → short_text.dec s ≡ x → length (value_of [] x) ≤ 255
    go None e = omega arith
    go (Some r) e = text_ok r.0 (short_text_law.reads s r e).1

pub shown_short : (b o t r : List ℕ) → r ≡ shown_address b o t → length r ≤ 255
unfolding shown_address
shown_short b o t r e = rw e (go (ltb 0 (length t)) (ltb 0 (length o)))
  where
    go : (x y : Bool) → length (cond x (address_of t) (cond y (address_of o) (address_of b))) ≤ 255
    go true y = let h = address_short t in omega arith
    go false true = let h = address_short o in omega arith
    go false false = let h = address_short b in omega arith

-- the rest of an entry
module _ (a b x y : List ℕ) (r : Bool) (e : r ≡ same_text x y) (f : x ≡ head_of a) (g : y ≡ head_of b) where
  pub rest_heads : r ≡ true → (k l : ℕ) → k ≡ kind_of a → l ≡ kind_of b → eqb k l ≡ same_rest a b
  unfolding same_rest
  rest_heads t k l i j =
      let h : same_text (head_of a) (head_of b) ≡ true = rw (← f, ← g, ← e) t in
      rw (h, i, j)

  pub rest_differs : r ≡ false → false ≡ same_rest a b
  unfolding same_rest
  rest_differs t =
      let h : same_text (head_of a) (head_of b) ≡ false = rw (← f, ← g, ← e) t in
      rw h

pub removed_is : (b o : List ℕ) (x d : Bool) (p q : ℕ) → x ≡ same_rest b o → p ≡ reply_of b → q ≡ reply_of o → d ≡ not (eqb p q)
    → ◌≡◌ {A = Judged} (record { ours = false; reply = 0; conflict = d; refused = not x }) (judge_removed b o)
removed_is b o x d p q e f g h = rw (h, e, f, g)

module _ (b o t : List ℕ) (x : Bool) (e : x ≡ same_rest o b) where
  pub rest_kept : x ≡ true → false ≡ rest_refused b o t
  rest_kept h = rw (← e, h)

  pub rest_other : x ≡ false → (y : Bool) → y ≡ same_rest o t → not y ≡ rest_refused b o t
  rest_other h y f = rw (← e, h, f)

module _ (b o t : List ℕ) (j : Judged) where
  pub own_new : length b ≡ 0 → j ≡ judge_whole b o t false → j ≡ judge_own b o t
  unfolding judge_own
  own_new h e = rw (eq-eqb (length b) 0 h) e

  pub own_left : (length b ≡ 0 → ⊥) → length o ≡ 0 → j ≡ judge_whole b o t false → j ≡ judge_own b o t
  unfolding judge_own
  own_left g h e = rw (ne_eqb (length b) 0 g, eq-eqb (length o) 0 h) e

  pub own_removed : (length b ≡ 0 → ⊥) → (length o ≡ 0 → ⊥) → length t ≡ 0 → j ≡ judge_removed b o → j ≡ judge_own b o t
  unfolding judge_own
  own_removed f g h e = rw (ne_eqb (length b) 0 f, ne_eqb (length o) 0 g, eq-eqb (length t) 0 h) e

  pub own_standing : (length b ≡ 0 → ⊥) → (length o ≡ 0 → ⊥) → (length t ≡ 0 → ⊥) → j ≡ judge_standing b o t → j ≡ judge_own b o t
  unfolding judge_own
  own_standing f g h e = rw (ne_eqb (length b) 0 f, ne_eqb (length o) 0 g, ne_eqb (length t) 0 h) e

  pub judge_own_lem : (own owner : Bool) → own ≡ true → j ≡ judge_own b o t → j ≡ judge_of own owner b o t
  unfolding judge_of
  judge_own_lem own owner h e = rw h e

  pub judge_whole_lem : (own owner : Bool) → own ≡ false → j ≡ judge_whole b o t owner → j ≡ judge_of own owner b o t
  unfolding judge_of
  judge_whole_lem own owner h e = rw h e

pub own_owner : (owner : Bool) (me wanted : List ℕ) → owner ≡ true → false ≡ own_of owner me wanted
unfolding own_of
own_owner owner me wanted e = rw e

pub own_me : (owner : Bool) (me wanted : List ℕ) (r : Bool) → owner ≡ false → r ≡ same_folded me wanted → r ≡ own_of owner me wanted
unfolding own_of
own_me owner me wanted r e f = rw e f

-- the sides of a conflict

pub side_none : (e : List ℕ) → length e ≡ 0 → (4 ∷ 0 ∷ []) ≡ side_bytes e
unfolding side_bytes
side_none e h = rw (eq-eqb (length e) 0 h)

pub side_some : (e : List ℕ) → (length e ≡ 0 → ⊥) → (4 ∷ 1 ∷ e) ≡ side_bytes e
unfolding side_bytes
side_some e h = rw (ne_eqb (length e) 0 h)

pub value_none : (e : List ℕ) (reply : ℕ) → length e ≡ 0 → [] ≡ entry_value_items e reply
unfolding entry_value_items
value_none e reply h = rw (eq-eqb (length e) 0 h)

pub value_some : (e x : List ℕ) (reply k : ℕ) → (length e ≡ 0 → ⊥) → x ≡ head_of e → k ≡ kind_of e → ((x ++ (reply ∷ k ∷ [])) ∷ []) ≡ entry_value_items e reply
unfolding entry_value_items
value_some e x reply k h f g = rw (ne_eqb (length e) 0 h, f, g)

-- the loops

pub one_most : (n m j : ℕ) (h : Bool) → m ≡ n + one_if h → n ≤ j → m ≤ j + 1
one_most n m j true e l = omega arith
one_most n m j false e l = omega arith

pub tally_zero : (s a : List ℕ) → 0 ≡ tally_of s a 0
unfolding tally_of
tally_zero s a = refl

pub tally_next : (s a : List ℕ) (j n m : ℕ) (h : Bool) (e d : List ℕ) → n ≡ tally_of s a j → m ≡ n + one_if h → h ≡ same_folded d a → d ≡ address_of e → e ≡ entry_bytes s j
    → m ≡ tally_of s a (j + 1)
unfolding tally_of
tally_next s a j n m h e d f g i k l = rw (add-one j) (g ∙ rw (f, i, k, l))

pub tally_done : (s a e : List ℕ) (i j n : ℕ) → n ≡ tally_of s a j → j ≡ i → a ≡ address_of e → e ≡ entry_bytes s i → n ≡ occurrence_of s i
unfolding occurrence_of
tally_done s a e i j n f g h k = f ∙ rw (g, h, k)

module _ (s wanted : List ℕ) (left i count : ℕ) (l : i < count) (h x : Bool) (d e : List ℕ)
    (f : h ≡ same_folded d wanted) (g : d ≡ address_of e) (k : e ≡ entry_bytes s i) (q : x ≡ (h && eqb left 0)) where
  found_test : (same_folded (address_of (entry_bytes s i)) wanted && eqb left 0) ≡ x
  found_test = rw (← k, ← g, ← f) (sym q)

  found_hit : same_folded (address_of (entry_bytes s i)) wanted ≡ h
  found_hit = rw (← k, ← g) (sym f)

  pub find_here : x ≡ true → e ≡ find_from s wanted left i (count - i)
  unfolding find_from
  find_here t =
      let n : count - i ≡ suc (count - (i + 1)) = omega arith in
      rw (n, found_test, t) k

  pub find_next : x ≡ false → (m : ℕ) → m ≡ left - one_if h → find_from s wanted left i (count - i) ≡ find_from s wanted m (i + 1) (count - (i + 1))
  unfolding find_from
  find_next t m r =
      let n : count - i ≡ suc (count - (i + 1)) = omega arith in
      rw (n, found_test, t, found_hit, r)

pub find_end : (s wanted : List ℕ) (left i count : ℕ) → count ≤ i → find_from s wanted left i (count - i) ≡ []
unfolding find_from
find_end s wanted left i count h =
    let n : count - i ≡ 0 = omega arith in
    rw n

pub find_all : (s wanted : List ℕ) (n count : ℕ) (r : List ℕ) → count ≡ entry_count s → find_from s wanted n 0 count ≡ r → r ≡ find_bytes s wanted n
unfolding find_bytes
find_all s wanted n count r e f = sym (rw (← e) f)

module _ (which : ℕ) (owner : Bool) (me base ours theirs : List ℕ) where
  pub key_is : (wanted : List ℕ) (n : ℕ) (b o t : List ℕ) (own : Bool) (j : Judged) → b ≡ find_bytes base wanted n → o ≡ find_bytes ours wanted n → t ≡ find_bytes theirs wanted n
      → own ≡ own_of owner me wanted → j ≡ judge_of own owner b o t → entry_items which j b o t ≡ key_items which owner me base ours theirs wanted n
  unfolding key_items
  key_is wanted n b o t own j e f g h k = rw (k, h, e, f, g)

  pub our_has : (wanted : List ℕ) (n : ℕ) (t : List ℕ) → t ≡ find_bytes theirs wanted n → 0 < length t → [] ≡ our_key_items which owner me base ours theirs wanted n
  unfolding our_key_items
  our_has wanted n t e h = rw (← e, lt-ltb 0 (length t) h)

  pub our_new : (wanted : List ℕ) (n : ℕ) (t : List ℕ) → t ≡ find_bytes theirs wanted n → length t ≤ 0
      → key_items which owner me base ours theirs wanted n ≡ our_key_items which owner me base ours theirs wanted n
  unfolding our_key_items
  our_new wanted n t e h = rw (← e, le-ltb 0 (length t) h)

  pub their_zero : [] ≡ their_items which owner me base ours theirs 0
  unfolding their_items
  their_zero = refl

  pub their_next : (i : ℕ) (e d : List ℕ) (n : ℕ) → e ≡ entry_bytes theirs i → d ≡ address_of e → n ≡ occurrence_of theirs i
      → their_items which owner me base ours theirs i ++ key_items which owner me base ours theirs d n ≡ their_items which owner me base ours theirs (i + 1)
  unfolding their_items
  their_next i e d n f g h = rw (add-one i, g, f, h)

  pub our_zero : [] ≡ our_items which owner me base ours theirs 0
  unfolding our_items
  our_zero = refl

  pub our_next : (i : ℕ) (e d : List ℕ) (n : ℕ) → e ≡ entry_bytes ours i → d ≡ address_of e → n ≡ occurrence_of ours i
      → our_items which owner me base ours theirs i ++ our_key_items which owner me base ours theirs d n ≡ our_items which owner me base ours theirs (i + 1)
  unfolding our_items
  our_next i e d n f g h = rw (add-one i, g, f, h)

  pub entries_are : their_items which owner me base ours theirs (entry_count theirs) ++ our_items which owner me base ours theirs (entry_count ours) ≡ entries_items which owner me base ours theirs
  unfolding entries_items
  entries_are = refl

-- the entries are asked for by the part of a number as by the number
module _ (n : ℕ) (owner : Bool) (me base ours theirs : List ℕ) where
  key_asked : (wanted : List ℕ) (i : ℕ) → key_items (number_of (which_of n)) owner me base ours theirs wanted i ≡ key_items n owner me base ours theirs wanted i
  unfolding key_items entry_items
  key_asked wanted i = asked n _ _ _

  their_asked : (i : ℕ) → their_items (number_of (which_of n)) owner me base ours theirs i ≡ their_items n owner me base ours theirs i
  unfolding their_items
  their_asked zero = refl
  their_asked (suc i) = rw (their_asked i, key_asked (address_of (entry_bytes theirs i)) (occurrence_of theirs i)) refl

  our_asked : (i : ℕ) → our_items (number_of (which_of n)) owner me base ours theirs i ≡ our_items n owner me base ours theirs i
  unfolding our_items our_key_items
  our_asked zero = refl
  our_asked (suc i) = rw (our_asked i, key_asked (address_of (entry_bytes ours i)) (occurrence_of ours i)) refl

  pub entries_asked : (w : Which) → w ≡ which_of n → entries_items (number_of w) owner me base ours theirs ≡ entries_items n owner me base ours theirs
  unfolding entries_items
  entries_asked w e = rw (e, their_asked (entry_count theirs), our_asked (entry_count ours)) refl
