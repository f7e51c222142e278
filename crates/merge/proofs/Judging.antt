-- What is judged of encoded entries is what the merge's definitions say of the entries. Assumes nothing.
use Rattle.std.specs.Prelude.{Option, Some, None}
use Prim.Native.Nat.{ℕ, ◌+◌, ◌-◌}
use native.Mathlib.Omega.{arith}
use mathlib.Core.Path.{◌≡◌, refl, sym, ap, ◌∙◌}
use mathlib.Core.List.{List, [], ◌∷◌, ◌++◌, append_assoc}
use mathlib.Core.Bool.{Bool, true, false, cond, not, ◌&&◌, ◌||◌}
use lib.Dec.{eqb, ltb}
use lib.ListN.{length, length-append}
use lib.Seq.{take_at, get_or_at}
use borrow.Author.Tests.{le-ltb, ne_eqb, eq-eqb}
use Rattle.format.specs.Format.{Format, below, option, text, enum, ◌∣◌, nothing, ◌⊗◌, via}
use Rattle.model.specs.Event.{Text, Participation, Attendee}
use Rattle.model.specs.Parts as parts
use Rattle.model.specs.Parts.{Field, FieldValue}
use Rattle.model.specs.Shapes.{attendee_role_from, participation_from, kind_from}
use Rattle.model.specs.Maps.{when◌then◌else◌, same_text}
use Rattle.model.specs.Formats.{same, short_text, attendee_role_f, participation_f, kind_f, attendee_f, field_f, field_value_f, conflict_f, refused_f}
use Rattle.model.specs.Merge.{Verdict, Merged, verdict, unreported, conflicting, refusing, merge_part, with_participation, rest, display_address, whole_entry, own_removed, own_reply, own_standing, own_entry}
use Rattle.model.proofs.ValidParts.{none_ok, some_ok, ok_some}
use Rattle.comparison.specs.Bytes.{raw, is_ours, is_conflict, is_refused}
use Rattle.comparison.proofs.Laws.{same_nil, same_short, same_long, same_cons, verdict_raw}
use Rattle.attendees.specs.Entries.{entry_enc, head_of, reply_of, kind_of, same_rest, judge_whole, judge_removed, judge_standing, judge_own, judge_of, entry_value_items, side_bytes, entry_refused, entry_conflict, entry_items}
use Rattle.attendees.proofs.Laws.{one_byte}
use Rattle.attendees.proofs.Shown.{enc_cons, present, shown_enc}
use Rattle.merge.proofs.Items.{encs, one_item, one_of, one_same, items}

-- a part that is judged so
abbrev pub judged : {A : Type 0} → Verdict → (A → FieldValue) → Field → Option Text → A → A → A → Merged A
judged Verdict.Theirs value field attendee b o t = unreported t
judged Verdict.Ours value field attendee b o t = unreported o
judged Verdict.Conflict value field attendee b o t = conflicting field attendee (value b) (value o) (value t) t
judged Verdict.Refused value field attendee b o t = refusing field attendee t

module _ {A : Type 0} (f : Format A) (value : A → FieldValue) (field : Field) (attendee : Option Text) (owned : Bool) (b o t : A) where
  by_verdict : (v : Verdict) → v ≡ verdict f b o t owned → merge_part f value field attendee owned b o t ≡ judged v value field attendee b o t
  unfolding merge_part
  by_verdict Verdict.Theirs e = rw (← e, merge_part)
  by_verdict Verdict.Ours e = rw (← e, merge_part)
  by_verdict Verdict.Conflict e = rw (← e, merge_part)
  by_verdict Verdict.Refused e = rw (← e, merge_part)

  pub part_judged : merge_part f value field attendee owned b o t ≡ judged (verdict raw (f.enc b) (f.enc o) (f.enc t) owned) value field attendee b o t
  part_judged = by_verdict (verdict raw (f.enc b) (f.enc o) (f.enc t) owned) (verdict_raw f b o t owned)

-- an entry's bytes are what comes before the reply, the reply, and the kind
abbrev before : Attendee → List ℕ
before a = short_text.enc a.address ++ ((option short_text).enc a.name ++ (attendee_role_from a.role ∷ []))

abbrev ending : Attendee → List ℕ
ending a = participation_from a.participation ∷ kind_from a.kind ∷ []

enc_is : (a : Attendee) → attendee_f.enc a ≡ before a ++ ending a
unfolding attendee_f attendee_role_f participation_f kind_f via ◌⊗◌ below
enc_is a =
    sym (append_assoc (short_text.enc a.address) ((option short_text).enc a.name ++ (attendee_role_from a.role ∷ [])) (ending a)
    ∙ ap (λ (t : List ℕ). short_text.enc a.address ++ t) (append_assoc ((option short_text).enc a.name) (attendee_role_from a.role ∷ []) (ending a)))

-- the last two of a list
module _ (x : List ℕ) (p k : ℕ) where
  long : length (x ++ (p ∷ k ∷ [])) ≡ length x + 2
  long = length-append x (p ∷ k ∷ [])

  head_two : head_of (x ++ (p ∷ k ∷ [])) ≡ x
  head_two =
      let e : length (x ++ (p ∷ k ∷ [])) - 2 ≡ length x = let l = long in omega arith in
      rw e (take_at x (p ∷ k ∷ []) (length x) refl)

  reply_two : reply_of (x ++ (p ∷ k ∷ [])) ≡ p
  unfolding reply_of
  reply_two =
      let e : length (x ++ (p ∷ k ∷ [])) - 2 ≡ length x = let l = long in omega arith in
      let h : ltb (length (x ++ (p ∷ k ∷ []))) 2 ≡ false = le-ltb (length (x ++ (p ∷ k ∷ []))) 2 (let l = long in omega arith) in
      rw (h, e) (get_or_at x p (k ∷ []) 0 (length x) refl)

  kind_two : kind_of (x ++ (p ∷ k ∷ [])) ≡ k
  unfolding kind_of
  kind_two =
      let e : length (x ++ (p ∷ k ∷ [])) - 1 ≡ length (x ++ (p ∷ [])) = let l = long in let m = length-append x (p ∷ []) in omega arith in
      let h : ltb (length (x ++ (p ∷ k ∷ []))) 2 ≡ false = le-ltb (length (x ++ (p ∷ k ∷ []))) 2 (let l = long in omega arith) in
      let a : x ++ (p ∷ k ∷ []) ≡ (x ++ (p ∷ [])) ++ (k ∷ []) = sym (append_assoc x (p ∷ []) (k ∷ [])) in
      rw (h, e, a) (get_or_at (x ++ (p ∷ [])) k [] 0 (length (x ++ (p ∷ []))) refl)

pub head_enc : (a : Attendee) → head_of (attendee_f.enc a) ≡ before a
head_enc a = ap head_of (enc_is a) ∙ head_two (before a) (participation_from a.participation) (kind_from a.kind)

pub reply_enc : (a : Attendee) → reply_of (attendee_f.enc a) ≡ participation_from a.participation
reply_enc a = ap reply_of (enc_is a) ∙ reply_two (before a) (participation_from a.participation) (kind_from a.kind)

pub kind_enc : (a : Attendee) → kind_of (attendee_f.enc a) ≡ kind_from a.kind
kind_enc a = ap kind_of (enc_is a) ∙ kind_two (before a) (participation_from a.participation) (kind_from a.kind)

-- two lists with equal tails of two

and-false : (a b : Bool) → (a && (b && false)) ≡ false
and-false true true = refl
and-false true false = refl
and-false false b = refl

and_three : (a b c : Bool) → (a && (b && c)) ≡ ((a && b) && c)
and_three true b c = refl
and_three false b c = refl

nil_snoc : (y : List ℕ) (p l : ℕ) → same_text [] (y ++ (p ∷ l ∷ [])) ≡ false
nil_snoc [] p l = same_short p (l ∷ [])
nil_snoc (b ∷ y) p l = same_short b (y ++ (p ∷ l ∷ []))

snoc_nil : (y : List ℕ) (p l : ℕ) → same_text (y ++ (p ∷ l ∷ [])) [] ≡ false
snoc_nil [] p l = same_long p (l ∷ [])
snoc_nil (b ∷ y) p l = same_long b (y ++ (p ∷ l ∷ []))

same_tails : (x y : List ℕ) (p k l : ℕ) → same_text (x ++ (p ∷ k ∷ [])) (y ++ (p ∷ l ∷ [])) ≡ (same_text x y && eqb k l)
same_tails [] [] p k l = rw (same_cons p p (k ∷ []) (l ∷ []), one_byte k l, same_nil, eq-eqb p p refl)
same_tails [] (b ∷ []) p k l = rw (same_cons p b (k ∷ []) (p ∷ l ∷ []), same_cons k p [] (l ∷ []), same_short l [], same_short b []) (and-false (eqb p b) (eqb k p))
same_tails [] (b ∷ c ∷ y) p k l =
    rw (same_cons p b (k ∷ []) (c ∷ (y ++ (p ∷ l ∷ []))), same_cons k c [] (y ++ (p ∷ l ∷ [])), nil_snoc y p l, same_short b (c ∷ y)) (and-false (eqb p b) (eqb k c))
same_tails (a ∷ []) [] p k l = rw (same_cons a p (p ∷ k ∷ []) (l ∷ []), same_cons p l (k ∷ []) [], same_long k [], same_long a []) (and-false (eqb a p) (eqb p l))
same_tails (a ∷ d ∷ x) [] p k l =
    rw (same_cons a p (d ∷ (x ++ (p ∷ k ∷ []))) (l ∷ []), same_cons d l (x ++ (p ∷ k ∷ [])) [], snoc_nil x p k, same_long a (d ∷ x)) (and-false (eqb a p) (eqb d l))
same_tails (a ∷ x) (b ∷ y) p k l =
    rw (same_cons a b (x ++ (p ∷ k ∷ [])) (y ++ (p ∷ l ∷ [])), same_tails x y p k l, same_cons a b x y) (and_three (eqb a b) (same_text x y) (eqb k l))

rest_is : (a : Attendee) → attendee_f.enc (rest a) ≡ before a ++ (0 ∷ kind_from a.kind ∷ [])
unfolding rest with_participation
rest_is a = enc_is (rest a)

pub rest_enc : (a b : Attendee) → same_rest (attendee_f.enc a) (attendee_f.enc b) ≡ same attendee_f (rest a) (rest b)
unfolding same_rest same
rest_enc a b = rw (head_enc a, head_enc b, kind_enc a, kind_enc b, rest_is a, rest_is b) (sym (same_tails (before a) (before b) 0 (kind_from a.kind) (kind_from b.kind)))

-- options: equal as absent or present bytes, and as the frame has them

none_enc : (option attendee_f).enc None ≡ 0 ∷ []
unfolding option via enum ◌∣◌ nothing
none_enc = refl

some_enc : (a : Attendee) → (option attendee_f).enc (Some a) ≡ 1 ∷ attendee_f.enc a
unfolding option via enum ◌∣◌ nothing
some_enc a = refl

pub same_entry : (x y : Option Attendee) → same_text (entry_enc x) (entry_enc y) ≡ same_text ((option attendee_f).enc x) ((option attendee_f).enc y)
same_entry None None = rw (none_enc, one_byte 0 0, same_nil)
same_entry None (Some b) = rw (none_enc, some_enc b, same_cons 0 1 [] (attendee_f.enc b), enc_cons b, same_short (length b.address) _)
same_entry (Some a) None = rw (none_enc, some_enc a, same_cons 1 0 (attendee_f.enc a) [], enc_cons a, same_long (length a.address) _)
same_entry (Some a) (Some b) = rw (some_enc a, some_enc b, same_cons 1 1 (attendee_f.enc a) (attendee_f.enc b))

pub verdict_entry : (x y z : Option Attendee) (owned : Bool)
    → verdict raw (entry_enc x) (entry_enc y) (entry_enc z) owned ≡ verdict raw ((option attendee_f).enc x) ((option attendee_f).enc y) ((option attendee_f).enc z) owned
unfolding verdict same
verdict_entry x y z owned = rw (same_entry y x, same_entry y z, same_entry z x)

not_empty : (a : Attendee) → eqb (length (attendee_f.enc a)) 0 ≡ false
not_empty a = ne_eqb (length (attendee_f.enc a)) 0 (λ e. let h = present a in absurd (omega arith))

pub side_enc : (x : Option Attendee) → side_bytes (entry_enc x) ≡ field_value_f.enc (FieldValue.Attendee x)
unfolding side_bytes field_value_f option via enum ◌∣◌ nothing
side_enc None = refl
side_enc (Some a) = rw (not_empty a)

-- the items

pub value_enc : (x : Option Attendee) → entry_value_items (entry_enc x) (reply_of (entry_enc x)) ≡ one_item x
unfolding entry_value_items
value_enc None = refl
value_enc (Some a) =
    rw (not_empty a, head_enc a, reply_enc a, kind_enc a)
    (ap (λ (t : List ℕ). t ∷ []) (sym (enc_is a)))

module _ (x y z : Option Attendee) where
  abbrev refusal : parts.Refused
  refusal = record { field = Field.Attendees; attendee = Some (display_address x y z) }

  abbrev conflict : parts.Conflict
  conflict = record {
    field = Field.Attendees;
    attendee = Some (display_address x y z);
    base = FieldValue.Attendee x;
    ours = FieldValue.Attendee y;
    theirs = FieldValue.Attendee z;
  }

  shown_so : refused_f.enc refusal ≡ 4 ∷ 1 ∷ length (display_address x y z) ∷ display_address x y z
  unfolding refused_f field_f option via ◌⊗◌ enum ◌∣◌ nothing below text
  shown_so = refl

  joined : refused_f.enc refusal ++ (field_value_f.enc (FieldValue.Attendee x) ++ (field_value_f.enc (FieldValue.Attendee y) ++ field_value_f.enc (FieldValue.Attendee z))) ≡ conflict_f.enc conflict
  unfolding conflict_f refused_f field_f option via ◌⊗◌ enum ◌∣◌ nothing below text
  joined = refl

  module _ (p : (option attendee_f).Ok x) (q : (option attendee_f).Ok y) (r : (option attendee_f).Ok z) where
    pub refused_enc : entry_refused (entry_enc x) (entry_enc y) (entry_enc z) ≡ refused_f.enc refusal
    refused_enc = rw (shown_enc x y z p q r) (sym shown_so)

    pub conflict_enc : entry_conflict (entry_enc x) (entry_enc y) (entry_enc z) ≡ conflict_f.enc conflict
    conflict_enc =
        ap (λ (h : List ℕ). h ++ (side_bytes (entry_enc x) ++ (side_bytes (entry_enc y) ++ side_bytes (entry_enc z)))) refused_enc
        ∙ (ap (λ (t : List ℕ). refused_f.enc refusal ++ t) (rw (side_enc x, side_enc y, side_enc z)) ∙ joined)

module _ (which : ℕ) (x y z : Option Attendee) (p : (option attendee_f).Ok x) (q : (option attendee_f).Ok y) (r : (option attendee_f).Ok z) where
  entry_by : (v : Verdict) → one_of which (entry_value_items (cond (is_ours v) (entry_enc y) (entry_enc z)) (cond (is_ours v) (reply_of (entry_enc y)) (reply_of (entry_enc z))))
      (cond (is_conflict v) (entry_conflict (entry_enc x) (entry_enc y) (entry_enc z) ∷ []) []) (cond (is_refused v) (entry_refused (entry_enc x) (entry_enc y) (entry_enc z) ∷ []) [])
      ≡ items which one_item (judged v FieldValue.Attendee Field.Attendees (Some (display_address x y z)) x y z)
  unfolding unreported conflicting refusing
  entry_by Verdict.Theirs = one_same which (value_enc z) refl refl
  entry_by Verdict.Ours = one_same which (value_enc y) refl refl
  entry_by Verdict.Conflict = one_same which (value_enc z) (ap (λ (t : List ℕ). t ∷ []) (conflict_enc x y z p q r)) refl
  entry_by Verdict.Refused = one_same which (value_enc z) refl (ap (λ (t : List ℕ). t ∷ []) (refused_enc x y z p q r))

  pub whole_items : (owned : Bool) → entry_items which (judge_whole (entry_enc x) (entry_enc y) (entry_enc z) owned) (entry_enc x) (entry_enc y) (entry_enc z)
      ≡ items which one_item (whole_entry owned x y z)
  unfolding entry_items whole_entry
  whole_items owned =
      rw (verdict_entry x y z owned) (entry_by (verdict raw ((option attendee_f).enc x) ((option attendee_f).enc y) ((option attendee_f).enc z) owned))
      ∙ ap (λ (m : Merged (Option Attendee)). items which one_item m) (sym (part_judged (option attendee_f) FieldValue.Attendee Field.Attendees (Some (display_address x y z)) owned x y z))

-- the reply's bytes
reply_same : (a b : Participation) → same participation_f a b ≡ eqb (participation_from a) (participation_from b)
unfolding same participation_f via below
reply_same a b = one_byte (participation_from a) (participation_from b)

pub removed_items : (which : ℕ) (b o : Attendee) → attendee_f.Ok b → attendee_f.Ok o
    → entry_items which (judge_removed (attendee_f.enc b) (attendee_f.enc o)) (attendee_f.enc b) (attendee_f.enc o) [] ≡ items which one_item (own_removed b o)
unfolding entry_items entry_value_items own_removed when◌then◌else◌ display_address
removed_items which b o p q = one_same which refl
    (rw (reply_enc b, reply_enc o, reply_same b.participation o.participation) (told (eqb (participation_from b.participation) (participation_from o.participation))))
    (rw (rest_enc b o) (turned (same attendee_f (rest b) (rest o))))
  where
    x : (option attendee_f).Ok (Some b)
    x = some_ok attendee_f b p

    y : (option attendee_f).Ok (Some o)
    y = some_ok attendee_f o q

    z : (option attendee_f).Ok None
    z = none_ok attendee_f

    told : (c : Bool) → cond (not c) (entry_conflict (attendee_f.enc b) (attendee_f.enc o) [] ∷ []) []
        ≡ encs conflict_f.enc (when c then [] else conflict (Some b) (Some o) None ∷ [])
    told true = refl
    told false = ap (λ (t : List ℕ). t ∷ []) (conflict_enc (Some b) (Some o) None x y z)

    turned : (c : Bool) → cond (not c) (entry_refused (attendee_f.enc b) (attendee_f.enc o) [] ∷ []) [] ≡ encs refused_f.enc (when c then [] else refusal (Some b) (Some o) None ∷ [])
    turned true = refl
    turned false = ap (λ (t : List ℕ). t ∷ []) (refused_enc (Some b) (Some o) None x y z)

value_with : (t : Attendee) (n : Participation) → entry_value_items (attendee_f.enc t) (participation_from n) ≡ attendee_f.enc (with_participation n t) ∷ []
unfolding entry_value_items with_participation
value_with t n =
    rw (not_empty t, head_enc t, kind_enc t)
    (ap (λ (x : List ℕ). x ∷ []) (sym (enc_is (with_participation n t))))

unowned : (b o t : Attendee) → verdict raw (attendee_f.enc b) (attendee_f.enc o) (attendee_f.enc t) false ≡ cond (same attendee_f o b || same attendee_f o t) Verdict.Theirs Verdict.Refused
unfolding verdict same when◌then◌else◌
unowned b o t = go (same attendee_f o b || same attendee_f o t)
  where
    go : (c : Bool) → (when c then Verdict.Theirs else Verdict.Refused) ≡ cond c Verdict.Theirs Verdict.Refused
    go true = refl
    go false = refl

-- the reply, judged
abbrev replied : Verdict → Attendee → Attendee → Attendee → Merged Participation
replied Verdict.Theirs b o t = unreported t.participation
replied Verdict.Ours b o t = unreported o.participation
replied Verdict.Conflict b o t = conflicting Field.Attendees (Some t.address) (FieldValue.Attendee (Some b)) (FieldValue.Attendee (Some o)) (FieldValue.Attendee (Some t)) t.participation
replied Verdict.Refused b o t = unreported t.participation

reply_by : (b o t : Attendee) (v : Verdict) → v ≡ verdict participation_f b.participation o.participation t.participation true → own_reply b o t ≡ replied v b o t
unfolding own_reply
reply_by b o t Verdict.Theirs e = rw (← e, own_reply)
reply_by b o t Verdict.Ours e = rw (← e, own_reply)
reply_by b o t Verdict.Conflict e = rw (← e, own_reply)
reply_by b o t Verdict.Refused e = rw (← e, own_reply)

abbrev reply_verdict : Attendee → Attendee → Attendee → Verdict
reply_verdict b o t = verdict raw (participation_from b.participation ∷ []) (participation_from o.participation ∷ []) (participation_from t.participation ∷ []) true

reply_means : (b o t : Attendee) → reply_verdict b o t ≡ verdict participation_f b.participation o.participation t.participation true
unfolding participation_f via below
reply_means b o t = verdict_raw participation_f b.participation o.participation t.participation true

reply_judged : (b o t : Attendee) → own_reply b o t ≡ replied (reply_verdict b o t) b o t
reply_judged b o t = reply_by b o t (reply_verdict b o t) (reply_means b o t)

module _ (which : ℕ) (b o t : Attendee) (p : attendee_f.Ok b) (q : attendee_f.Ok o) (r : attendee_f.Ok t) where
  abbrev the_rest : Verdict → Merged Attendee
  the_rest v = judged v (λ r. FieldValue.Attendee (Some r)) Field.Attendees (Some t.address) (rest b) (rest o) (rest t)

  clashes : entry_conflict (attendee_f.enc b) (attendee_f.enc o) (attendee_f.enc t) ∷ [] ≡ conflict_f.enc (conflict (Some b) (Some o) (Some t)) ∷ []
  clashes = ap (λ (x : List ℕ). x ∷ []) (conflict_enc (Some b) (Some o) (Some t) (some_ok attendee_f b p) (some_ok attendee_f o q) (some_ok attendee_f t r))

  denied : entry_refused (attendee_f.enc b) (attendee_f.enc o) (attendee_f.enc t) ∷ [] ≡ refused_f.enc (refusal (Some b) (Some o) (Some t)) ∷ []
  denied = ap (λ (x : List ℕ). x ∷ []) (refused_enc (Some b) (Some o) (Some t) (some_ok attendee_f b p) (some_ok attendee_f o q) (some_ok attendee_f t r))

  by_both : (c : Bool) (v : Verdict)
      → one_of which (entry_value_items (attendee_f.enc t) (cond (is_ours v) (participation_from o.participation) (participation_from t.participation)))
      (cond (is_conflict v) (entry_conflict (attendee_f.enc b) (attendee_f.enc o) (attendee_f.enc t) ∷ []) [])
      (cond (not c) (entry_refused (attendee_f.enc b) (attendee_f.enc o) (attendee_f.enc t) ∷ []) [])
      ≡ one_of which
      (one_item (Some (with_participation (replied v b o t).value (the_rest (cond c Verdict.Theirs Verdict.Refused)).value)))
      (encs conflict_f.enc ((the_rest (cond c Verdict.Theirs Verdict.Refused)).conflicts ++ (replied v b o t).conflicts))
      (encs refused_f.enc ((the_rest (cond c Verdict.Theirs Verdict.Refused)).refused ++ (replied v b o t).refused))
  unfolding unreported conflicting refusing rest with_participation display_address
  by_both true Verdict.Theirs = one_same which (value_with t t.participation) refl refl
  by_both true Verdict.Ours = one_same which (value_with t o.participation) refl refl
  by_both true Verdict.Conflict = one_same which (value_with t t.participation) clashes refl
  by_both true Verdict.Refused = one_same which (value_with t t.participation) refl refl
  by_both false Verdict.Theirs = one_same which (value_with t t.participation) refl denied
  by_both false Verdict.Ours = one_same which (value_with t o.participation) refl denied
  by_both false Verdict.Conflict = one_same which (value_with t t.participation) clashes denied
  by_both false Verdict.Refused = one_same which (value_with t t.participation) refl denied

  abbrev both : Merged Attendee → Merged Participation → Merged (Option Attendee)
  both m n = record {
    value = Some (with_participation n.value m.value);
    conflicts = m.conflicts ++ n.conflicts;
    refused = m.refused ++ n.refused;
  }

  abbrev unchanged : Bool
  unchanged = same attendee_f (rest o) (rest b) || same attendee_f (rest o) (rest t)

  standing_is : own_standing b o t ≡ both (the_rest (cond unchanged Verdict.Theirs Verdict.Refused)) (replied (reply_verdict b o t) b o t)
  unfolding own_standing
  standing_is =
      ap (λ (m : Merged Attendee). both m (own_reply b o t)) (part_judged attendee_f (λ r. FieldValue.Attendee (Some r)) Field.Attendees (Some t.address) false (rest b) (rest o) (rest t)
      ∙ ap the_rest (unowned (rest b) (rest o) (rest t)))
      ∙ ap (λ (n : Merged Participation). both (the_rest (cond unchanged Verdict.Theirs Verdict.Refused)) n) (reply_judged b o t)

  pub standing_items : entry_items which (judge_standing (attendee_f.enc b) (attendee_f.enc o) (attendee_f.enc t)) (attendee_f.enc b) (attendee_f.enc o) (attendee_f.enc t)
      ≡ items which one_item (own_standing b o t)
  unfolding entry_items
  standing_items =
      rw (reply_enc b, reply_enc o, reply_enc t, rest_enc o b, rest_enc o t) (by_both unchanged (reply_verdict b o t))
      ∙ ap (λ (m : Merged (Option Attendee)). items which one_item m) (sym standing_is)

-- the writer's own entry
pub own_items : (which : ℕ) (x y z : Option Attendee) → (option attendee_f).Ok x → (option attendee_f).Ok y → (option attendee_f).Ok z
    → entry_items which (judge_own (entry_enc x) (entry_enc y) (entry_enc z)) (entry_enc x) (entry_enc y) (entry_enc z) ≡ items which one_item (own_entry x y z)
unfolding judge_own own_entry
own_items which None y z p q r = whole_items which None y z p q r false
own_items which (Some b) None z p q r = rw (not_empty b) (whole_items which (Some b) None z p q r false)
own_items which (Some b) (Some o) None p q r = rw (not_empty b, not_empty o) (removed_items which b o (ok_some attendee_f b p) (ok_some attendee_f o q))
own_items which (Some b) (Some o) (Some t) p q r = rw (not_empty b, not_empty o, not_empty t) (standing_items which b o t (ok_some attendee_f b p) (ok_some attendee_f o q) (ok_some attendee_f t r))

-- an entry, own or not: what the code judges and writes is what the definitions say
pub entry_items_lem : (which : ℕ) (own owner : Bool) (x y z : Option Attendee) → (option attendee_f).Ok x → (option attendee_f).Ok y → (option attendee_f).Ok z
    → entry_items which (judge_of own owner (entry_enc x) (entry_enc y) (entry_enc z)) (entry_enc x) (entry_enc y) (entry_enc z)
    ≡ items which one_item (when own then own_entry x y z else whole_entry owner x y z)
unfolding judge_of when◌then◌else◌
entry_items_lem which true owner x y z p q r = own_items which x y z p q r
entry_items_lem which false owner x y z p q r = whole_items which x y z p q r owner
