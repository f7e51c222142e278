-- Edits that are folded into others: what the bytes of a waiting operation and of a new one make together. Assumes nothing.
use Rattle.std.specs.Prelude.{Option, Some, None}
use Prim.Native.Nat.{ℕ, ◌+◌, ◌-◌, ◌≤◌, ◌<◌}
use native.Mathlib.Nat.{add-zero}
use native.Mathlib.Omega.{arith}
use mathlib.Core.Path.{◌≡◌, refl, sym, ap, ap₂, ◌∙◌, subst}
use mathlib.Core.List.{List, [], ◌∷◌, ◌++◌, append_assoc}
use mathlib.Core.Bool.{Bool, true, false, not}
use lib.ListN.{length, take, drop, get_or, length-append, length-drop}
use lib.Seq.{drop-drop, drop_at, take_at, get_or-drop}
use borrow.Author.Tests.{le-leb, lt-leb}
use Rattle.format.specs.Format.{Format, Lawful, option, stamp, number, enum, ◌∣◌, via, ◌⊗◌}
use Rattle.format.proofs.FormatLaws.{option_law, text_law, number_law}
use Rattle.model.specs.Event.{NormalizedEvent, ProviderEvent}
use Rattle.model.specs.Edits.{Operation, Edit}
use Rattle.model.specs.Seam.{ResourceId}
use Rattle.model.specs.Formats.{same, resource_id, short_text, u32, tag, ids_f, fields_f, event_f, operation_f, role_f, edit_f}
use Rattle.model.specs.Maps.{when◌then◌else◌, same_text}
use Rattle.model.specs.State.{Pending, Queue, SyncState}
use Rattle.model.specs.Sync.{Coalesced, with_fields, is_attendee, fold_operation, coalesce, coalesced_with, foldable}
use Rattle.model.proofs.FormatsLaws.{ids_f_law, fields_f_law}
use Rattle.model.proofs.ValidParts.{ok_update, ok_create, ok_delete}
use Rattle.frame.specs.Read.{skips, Found}
use Rattle.frame.specs.Meaning.{fields_at, meant_operation}
use Rattle.frame.specs.declared.Cursor.{Cursor}
use Rattle.frame.specs.declared.Operation as places
use Rattle.frame.specs.declared.Operation.TheVariants as place
use Rattle.pens.specs.declared.Pen.{Pen}
use Rattle.pens.specs.Writing.{Wrote}
use Rattle.pens.proofs.Laws.{wrote_then}
use Rattle.effects.specs.Sent.{pen}
use Rattle.state.specs.Contract.{Keeps, Reads}
use Rattle.state.proofs.Widths as widths
use Rattle.waiting.specs.Queues.{queue, nth}
use Rattle.waiting.specs.Entries.{SomeEntryAt, EntryIs, FindsEntry}
use Rattle.waiting.proofs.Lists.{nth_back}
use Rattle.queues.specs.Parts.{StandsAt, PartOf, EndOf, part_of}
use Rattle.queues.specs.declared.coalescing.Folded.{Folded}
use Rattle.queues.specs.declared.coalescing.Folded.TheVariants.{Apart, Into, Cancelled}
use Rattle.queues.specs.Folding.{event_front, fold_update, fold_create, Folds, FoldedAs}
use Rattle.queues.proofs.Parts.{after, part_in}
use Rattle.queues.proofs.Writers.{filled, fields_there, update_bytes, delete_bytes}
use Rattle.queues.proofs.Notices.{stands_event, stands_field, create_bytes}

-- ---- one value behind another

-- the place after a value, what stands there, and that it is in the buffer
pub record Past {A : Type 0} (f : Format A) (v : A) (b : List ℕ) (at : ℕ) (rest : List ℕ) : Type 0 where
  pub place : skips f b (record { at = at; ok = true }) ≡ record { at = at + length (f.enc v); ok = true }
  pub behind : drop (at + length (f.enc v)) b ≡ rest
  pub within : at + length (f.enc v) ≤ length b

past : {A : Type 0} {f : Format A} (F : Lawful f) (v : A) (b : List ℕ) (at : ℕ) (rest : List ℕ) → at ≤ length b → f.Ok v → drop at b ≡ f.enc v ++ rest → Past f v b at rest
past {f = f} F v b at rest l k e =
    let m : length b - at ≡ length (f.enc v) + length rest = sym (length-drop at b) ∙ ap length e ∙ length-append (f.enc v) rest in
    let p : length b - length rest ≡ at + length (f.enc v) = omega arith in
    record {
      place = after F b at v (record { ok = k; rest = rest; is = e }) ∙ ap (λ (i : ℕ). record { at = i; ok = true }) p;
      behind = sym (drop-drop (length (f.enc v)) at b) ∙ ap (drop (length (f.enc v))) e ∙ drop_at (f.enc v) rest (length (f.enc v)) refl;
      within = omega arith;
    }

-- ---- the fields of an event

-- an event's bytes by its parts
event_bytes : (e : ProviderEvent) → event_f.enc e ≡ ids_f.enc e.ids ++ ((option short_text).enc e.revision ++ (u32.enc e.mapper_version ++ (fields_f.enc e.fields ++ tag.enc e.passthrough)))
unfolding event_f via ◌⊗◌
event_bytes e = refl

record EventOk (e : ProviderEvent) : Type 0 where
  pub ids : ids_f.Ok e.ids
  pub revision : (option short_text).Ok e.revision
  pub version : u32.Ok e.mapper_version
  pub fields : fields_f.Ok e.fields
  pub passthrough : tag.Ok e.passthrough

event_parts : (e : ProviderEvent) → event_f.Ok e → EventOk e
unfolding event_f via ◌⊗◌
event_parts e k = record { ids = k.0; revision = k.1.0; version = k.1.1.0; fields = k.1.1.1.0; passthrough = k.1.1.1.1 }

event_whole : (e : ProviderEvent) → EventOk e → event_f.Ok e
unfolding event_f via ◌⊗◌
event_whole e k = (k.ids, (k.revision, (k.version, (k.fields, k.passthrough))))

-- where its fields stand
pub record FieldsIn (e : ProviderEvent) (b : List ℕ) (at : ℕ) (rest : List ℕ) : Type 0 where
  pub front : drop at b ≡ event_front e ++ (fields_f.enc e.fields ++ (tag.enc e.passthrough ++ rest))
  pub within : at + length (event_front e) ≤ length b
  pub behind : drop (at + length (event_front e)) b ≡ fields_f.enc e.fields ++ (tag.enc e.passthrough ++ rest)

event_split : (e : ProviderEvent) (rest : List ℕ) → event_f.enc e ++ rest ≡ event_front e ++ (fields_f.enc e.fields ++ (tag.enc e.passthrough ++ rest))
event_split e rest =
    let a : List ℕ = ids_f.enc e.ids in
    let b : List ℕ = (option short_text).enc e.revision in
    let c : List ℕ = u32.enc e.mapper_version in
    let d : List ℕ = fields_f.enc e.fields in
    let t : List ℕ = tag.enc e.passthrough in
    ap (λ (x : List ℕ). x ++ rest) (event_bytes e) ∙ regroup a b c d t rest
  where
    regroup : (a b c d t rest : List ℕ) → (a ++ (b ++ (c ++ (d ++ t)))) ++ rest ≡ (a ++ (b ++ c)) ++ (d ++ (t ++ rest))
    regroup a b c d t rest = simp append_assoc

fields_in : (e : ProviderEvent) (b : List ℕ) (at : ℕ) → at ≤ length b → (S : StandsAt event_f e b at) → FieldsIn e b at S.rest
fields_in e b at l S =
    let x : List ℕ = event_front e in
    let y : List ℕ = fields_f.enc e.fields ++ (tag.enc e.passthrough ++ S.rest) in
    let q : drop at b ≡ event_front e ++ (fields_f.enc e.fields ++ (tag.enc e.passthrough ++ S.rest)) = S.is ∙ event_split e S.rest in
    let m : length b - at ≡ length (event_front e) + length (fields_f.enc e.fields ++ (tag.enc e.passthrough ++ S.rest)) = sym (length-drop at b) ∙ ap length q ∙ length-append x y in
    record {
      front = q;
      within = within_of (length b) at (length (event_front e)) (length (fields_f.enc e.fields ++ (tag.enc e.passthrough ++ S.rest))) l m;
      behind = sym (drop-drop (length (event_front e)) at b) ∙ ap (drop (length (event_front e))) q ∙ drop_at (event_front e) (fields_f.enc e.fields ++ (tag.enc e.passthrough ++ S.rest)) (length (event_front e)) refl;
    }
  where
    within_of : (n at x y : ℕ) → at ≤ n → n - at ≡ x + y → at + x ≤ n
    within_of n at x y l m = omega arith

front_apart : (i o n y : List ℕ) → (i ++ (o ++ n)) ++ y ≡ i ++ (o ++ (n ++ y))
front_apart i o n y = simp append_assoc

pub place_of_fields : (b : List ℕ) (at : ℕ) {c₁ c₂ c₃ : Cursor} {v : ℕ} → at ≤ length b → c₁ ≡ skips ids_f b (record { at = at; ok = true }) → c₂ ≡ skips (option short_text) b c₁ → Found c₃ v 0 (number 4) b c₂
    → (e : ProviderEvent) → StandsAt event_f e b at → c₃.at ≡ at + length (event_front e)
place_of_fields b at {c₁} {c₂} {c₃} l p q R e S =
    let K = event_parts e S.ok in
    let i : List ℕ = ids_f.enc e.ids in
    let o : List ℕ = (option short_text).enc e.revision in
    let n : List ℕ = u32.enc e.mapper_version in
    let y : List ℕ = fields_f.enc e.fields ++ (tag.enc e.passthrough ++ S.rest) in
    let g : drop at b ≡ i ++ (o ++ (n ++ y)) = S.is ∙ event_split e S.rest ∙ front_apart i o n y in
    let A : Past ids_f e.ids b at (o ++ (n ++ y)) = past ids_f_law e.ids b at (o ++ (n ++ y)) l K.ids g in
    let B : Past (option short_text) e.revision b (at + length i) (n ++ y) = past (option_law (text_law _)) e.revision b (at + length i) (n ++ y) A.within K.revision A.behind in
    let C : Past u32 e.mapper_version b (at + length i + length o) y = past (number_law 4) e.mapper_version b (at + length i + length o) y B.within K.version B.behind in
    let a : c₁ ≡ record { at = at + length i; ok = true } = p ∙ A.place in
    let d : c₂ ≡ record { at = at + length i + length o; ok = true } = q ∙ ap (skips (option short_text) b) a ∙ B.place in
    let f : c₃ ≡ record { at = at + length i + length o + length n; ok = true } = R.place ∙ ap (skips (number 4) b) d ∙ C.place in
    ap (λ (c : Cursor). c.at) f ∙ sums at i o n
  where
    sums : (at : ℕ) (i o n : List ℕ) → at + length i + length o + length n ≡ at + length (i ++ (o ++ n))
    sums at i o n = let a = length-append i (o ++ n) in let b = length-append o n in omega arith

-- ---- an operation's case

case_byte : (b : List ℕ) (at : ℕ) (x : ℕ) (y : List ℕ) → drop at b ≡ x ∷ y → get_or b at 0 ≡ x
case_byte b at x y e = ap (λ (i : ℕ). get_or b i 0) (sym (add-zero at)) ∙ sym (get_or-drop at b 0 0) ∙ ap (λ (l : List ℕ). get_or l 0 0) e

pair_bytes : (x y : NormalizedEvent) → (fields_f ⊗ fields_f).enc (x, y) ≡ fields_f.enc x ++ fields_f.enc y
unfolding ◌⊗◌
pair_bytes x y = refl

pair_parts : (x y : NormalizedEvent) → (fields_f ⊗ fields_f).Ok (x, y) → fields_f.Ok x × fields_f.Ok y
unfolding ◌⊗◌
pair_parts x y k = k

update_pair : (x y : NormalizedEvent) → operation_f.Ok (Operation.Update x y) → (fields_f ⊗ fields_f).Ok (x, y)
unfolding operation_f via enum ◌∣◌ ◌⊗◌
update_pair x y k = k

stands_pair : (x y : NormalizedEvent) (b : List ℕ) (at : ℕ) → StandsAt operation_f (Operation.Update x y) b at → StandsAt (fields_f ⊗ fields_f) (x, y) b (at + 1)
stands_pair x y b at S = record {
  ok = update_pair x y S.ok;
  rest = S.rest;
  is = sym (drop-drop 1 at b) ∙ ap (drop 1) (S.is ∙ ap (λ (l : List ℕ). l ++ S.rest) (update_bytes x y)) ∙ ap (λ (l : List ℕ). l ++ S.rest) (sym (pair_bytes x y));
}

-- ---- an update behind an update

module _ (b frame : List ℕ) (at from to : ℕ) (l : at ≤ length b) (kf : fields_f.Ok (fields_at frame from)) (kt : fields_f.Ok (fields_at frame to))
    {x₁ x₂ x₃ : List ℕ} {m : ℕ} {t : Bool} (P₁ : PartOf fields_f b at x₁) (E : EndOf fields_f b at m) (P₂ : PartOf fields_f b m x₂) (P₃ : PartOf fields_f frame from x₃) (T : t ≡ same_text x₃ x₂) where
  abbrev F : NormalizedEvent
  F = fields_at frame from

  abbrev G : NormalizedEvent
  G = fields_at frame to

  abbrev first_of : (base ours : NormalizedEvent) → StandsAt (fields_f ⊗ fields_f) (base, ours) b at → StandsAt fields_f base b at
  first_of base ours S = record {
    ok = (pair_parts base ours S.ok).0;
    rest = fields_f.enc ours ++ S.rest;
    is = S.is ∙ ap (λ (y : List ℕ). y ++ S.rest) (pair_bytes base ours) ∙ append_assoc (fields_f.enc base) (fields_f.enc ours) S.rest;
  }

  second_of : (base ours : NormalizedEvent) → StandsAt (fields_f ⊗ fields_f) (base, ours) b at → StandsAt fields_f ours b m
  second_of base ours S =
      let U = first_of base ours S in
      let A : Past fields_f base b at (fields_f.enc ours ++ S.rest) = past fields_f_law base b at (fields_f.enc ours ++ S.rest) l U.ok U.is in
      record { ok = (pair_parts base ours S.ok).1; rest = S.rest; is = ap (λ (i : ℕ). drop i b) (E.is l base U) ∙ A.behind }

  tested : (base ours : NormalizedEvent) → StandsAt (fields_f ⊗ fields_f) (base, ours) b at → t ≡ same fields_f F ours
  unfolding same
  tested base ours S = T ∙ ap₂ same_text (P₃.is F (fields_there frame from kf)) (P₂.is ours (second_of base ours S))

  pub updates_apart : {c : List ℕ} → t ≡ false → (base ours : NormalizedEvent) → StandsAt (fields_f ⊗ fields_f) (base, ours) b at → FoldedAs Apart c (fold_update base ours F G)
  unfolding Folds fold_update when◌then◌else◌
  updates_apart e base ours S = record { is = ap (λ (c : Bool). when c then Some (Coalesced.Into (Operation.Update base G)) else None) (sym (tested base ours S) ∙ e) }

  pub updates_fold : {c c₁ c₂ c₃ y : List ℕ} {p p₁ p₂ p₃ : Pen} → 1469 ≤ length c → t ≡ true → PartOf fields_f frame to y → p ≡ pen 0 → Wrote c c₁ p p₁ (1 ∷ []) → Wrote c₁ c₂ p₁ p₂ x₁ → Wrote c₂ c₃ p₂ p₃ y
      → (base ours : NormalizedEvent) → StandsAt (fields_f ⊗ fields_f) (base, ours) b at → FoldedAs (Into p₃.at) c₃ (fold_update base ours F G)
  unfolding Folds fold_update when◌then◌else◌
  updates_fold {c} {c₃ = c₃} {y} {p} {p₃ = p₃} r e Q a W X Y base ours S =
      let U = first_of base ours S in
      let o : operation_f.Ok (Operation.Update base G) = ok_update base G U.ok kt in
      let z : operation_f.enc (Operation.Update base G) ≡ 1 ∷ (x₁ ++ y) = update_bytes base G ∙ ap₂ (λ (u v : List ℕ). 1 ∷ (u ++ v)) (sym (P₁.is base U)) (sym (Q.is G (fields_there frame to kt))) in
      record {
        is = record {
          operation = Operation.Update base G;
          is = ap (λ (c : Bool). when c then Some (Coalesced.Into (Operation.Update base G)) else None) (sym (tested base ours S) ∙ e);
          ok = o;
          bytes = filled 1469 a (subst (λ (u : List ℕ). Wrote c c₃ p p₃ u) (sym z) (wrote_then W (wrote_then X Y))) ((widths.operation_within).bytes (Operation.Update base G) o) r;
        };
      }

-- ---- an update behind a create

with_fields_ok : (e : ProviderEvent) (g : NormalizedEvent) → event_f.Ok e → fields_f.Ok g → event_f.Ok (with_fields g e)
unfolding with_fields
with_fields_ok e g k j = let K = event_parts e k in event_whole (with_fields g e) (record { ids = K.ids; revision = K.revision; version = K.version; fields = j; passthrough = K.passthrough })

with_fields_bytes : (e : ProviderEvent) (g : NormalizedEvent) → event_f.enc (with_fields g e) ≡ event_front e ++ (fields_f.enc g ++ tag.enc e.passthrough)
unfolding with_fields
with_fields_bytes e g = event_bytes (with_fields g e) ∙ sym (front_apart (ids_f.enc e.ids) ((option short_text).enc e.revision) (u32.enc e.mapper_version) (fields_f.enc g ++ tag.enc e.passthrough))

module _ (b frame : List ℕ) (at from to m : ℕ) (l : at ≤ length b) (kf : fields_f.Ok (fields_at frame from)) (kt : fields_f.Ok (fields_at frame to))
    {x₁ x₂ : List ℕ} {t : Bool} (M : (e : ProviderEvent) → StandsAt event_f e b at → m ≡ at + length (event_front e)) (P₁ : PartOf fields_f b m x₁) (P₂ : PartOf fields_f frame from x₂) (T : t ≡ same_text x₂ x₁) where
  abbrev H : NormalizedEvent
  H = fields_at frame from

  abbrev K : NormalizedEvent
  K = fields_at frame to

  abbrev held_at : (e : ProviderEvent) → StandsAt event_f e b at → StandsAt fields_f e.fields b m
  held_at e S =
      let I = fields_in e b at l S in
      record { ok = (event_parts e S.ok).fields; rest = tag.enc e.passthrough ++ S.rest; is = ap (λ (i : ℕ). drop i b) (M e S) ∙ I.behind }

  compared : (e : ProviderEvent) → StandsAt event_f e b at → t ≡ same fields_f H e.fields
  unfolding same
  compared e S = T ∙ ap₂ same_text (P₂.is H (fields_there frame from kf)) (P₁.is e.fields (held_at e S))

  pub creates_apart : {c : List ℕ} → t ≡ false → (e : ProviderEvent) → StandsAt event_f e b at → FoldedAs Apart c (fold_create e H K)
  unfolding Folds fold_create when◌then◌else◌
  creates_apart q e S = record { is = ap (λ (c : Bool). when c then Some (Coalesced.Into (Operation.Create (with_fields K e))) else None) (sym (compared e S) ∙ q) }

  pub creates_fold : {c c₁ c₂ c₃ c₄ x y z : List ℕ} {p p₁ p₂ p₃ p₄ : Pen} {n : ℕ} → 1469 ≤ length c → t ≡ true → x ≡ part_of b at m → PartOf fields_f frame to y → EndOf fields_f b m n → PartOf tag b n z
      → p ≡ pen 0 → Wrote c c₁ p p₁ (0 ∷ []) → Wrote c₁ c₂ p₁ p₂ x → Wrote c₂ c₃ p₂ p₃ y → Wrote c₃ c₄ p₃ p₄ z → (e : ProviderEvent) → StandsAt event_f e b at → FoldedAs (Into p₄.at) c₄ (fold_create e H K)
  unfolding Folds fold_create when◌then◌else◌
  creates_fold {c} {c₄ = c₄} {x} {y} {z} {p} {p₄ = p₄} {n} r q d Q N Z a W X Y L e S =
      let I = fields_in e b at l S in
      let U = held_at e S in
      let i : m ≡ at + length (event_front e) = M e S in
      let w : m ≤ length b = subst (λ (j : ℕ). j ≤ length b) (sym i) I.within in
      let A : Past fields_f e.fields b m (tag.enc e.passthrough ++ S.rest) = past fields_f_law e.fields b m (tag.enc e.passthrough ++ S.rest) w U.ok U.is in
      let D : StandsAt tag e.passthrough b n = record { ok = (event_parts e S.ok).passthrough; rest = S.rest; is = ap (λ (j : ℕ). drop j b) (N.is w e.fields U) ∙ A.behind } in
      let f : x ≡ event_front e = d ∙ front_is (event_front e) (fields_f.enc e.fields ++ (tag.enc e.passthrough ++ S.rest)) i w I.front in
      let o : operation_f.Ok (Operation.Create (with_fields K e)) = ok_create (with_fields K e) (with_fields_ok e K S.ok kt) in
      let g : operation_f.enc (Operation.Create (with_fields K e)) ≡ 0 ∷ (x ++ (y ++ z)) =
      create_bytes (with_fields K e) ∙ ap (λ (u : List ℕ). 0 ∷ u) (with_fields_bytes e K
      ∙ ap₂ (λ (u v : List ℕ). u ++ v) (sym f) (ap₂ (λ (u v : List ℕ). u ++ v) (sym (Q.is K (fields_there frame to kt))) (sym (Z.is e.passthrough D)))) in
      record {
        is = record {
          operation = Operation.Create (with_fields K e);
          is = ap (λ (c : Bool). when c then Some (Coalesced.Into (Operation.Create (with_fields K e))) else None) (sym (compared e S) ∙ q);
          ok = o;
          bytes = filled 1469 a (subst (λ (u : List ℕ). Wrote c c₄ p p₄ u) (sym g) (wrote_then W (wrote_then X (wrote_then Y L)))) ((widths.operation_within).bytes (Operation.Create (with_fields K e)) o) r;
        };
      }
    where
      front_is : (u v : List ℕ) → m ≡ at + length u → m ≤ length b → drop at b ≡ u ++ v → part_of b at m ≡ u
      front_is u v i w g =
          let k : m - at ≡ length u = omega arith in
          sym (part_in b at m (omega arith) w) ∙ ap (take (m - at)) g ∙ take_at u v (m - at) (sym k)

-- ---- by the case of the waiting operation

module _ (b : List ℕ) (at : ℕ) where
  first_byte : (o : Operation) (x : ℕ) (y : List ℕ) → operation_f.enc o ≡ x ∷ y → StandsAt operation_f o b at → get_or b at 0 ≡ x
  first_byte o x y e S = case_byte b at x (y ++ S.rest) (S.is ∙ ap (λ (l : List ℕ). l ++ S.rest) e)

  pub update_on_create : (from to : NormalizedEvent) {c : List ℕ} {r : Folded} → get_or b at 0 ≡ 0 → ((e : ProviderEvent) → StandsAt event_f e b (at + 1) → FoldedAs r c (fold_create e from to))
      → (deletes : Bool) (o : Operation) → StandsAt operation_f o b at → FoldedAs r c (fold_operation deletes o (Operation.Update from to))
  unfolding fold_operation fold_create
  update_on_create from to z E deletes (Operation.Create e) S = E e (stands_event e b at S)
  update_on_create from to z E deletes (Operation.Update x y) S = absurd (let q : ◌≡◌ {A = ℕ} 0 1 = sym z ∙ first_byte (Operation.Update x y) 1 (fields_f.enc x ++ fields_f.enc y) (update_bytes x y) S in omega arith)
  update_on_create from to z E deletes Operation.Delete S = absurd (let q : ◌≡◌ {A = ℕ} 0 2 = sym z ∙ first_byte Operation.Delete 2 [] delete_bytes S in omega arith)

  pub update_on_update : (from to : NormalizedEvent) {c : List ℕ} {r : Folded} → get_or b at 0 ≡ 1 → ((x y : NormalizedEvent) → StandsAt (fields_f ⊗ fields_f) (x, y) b (at + 1) → FoldedAs r c (fold_update x y from to))
      → (deletes : Bool) (o : Operation) → StandsAt operation_f o b at → FoldedAs r c (fold_operation deletes o (Operation.Update from to))
  unfolding fold_operation fold_update
  update_on_update from to z E deletes (Operation.Create e) S = absurd (let q : ◌≡◌ {A = ℕ} 1 0 = sym z ∙ first_byte (Operation.Create e) 0 (event_f.enc e) (create_bytes e) S in omega arith)
  update_on_update from to z E deletes (Operation.Update x y) S = E x y (stands_pair x y b at S)
  update_on_update from to z E deletes Operation.Delete S = absurd (let q : ◌≡◌ {A = ℕ} 1 2 = sym z ∙ first_byte Operation.Delete 2 [] delete_bytes S in omega arith)

  pub update_on_delete : {c : List ℕ} (from to : NormalizedEvent) → (get_or b at 0 ≡ 0 → ⊥) → (get_or b at 0 ≡ 1 → ⊥) → (deletes : Bool) (o : Operation) → StandsAt operation_f o b at → FoldedAs Apart c (fold_operation deletes o (Operation.Update from to))
  unfolding fold_operation Folds
  update_on_delete from to n m deletes (Operation.Create e) S = absurd (n (first_byte (Operation.Create e) 0 (event_f.enc e) (create_bytes e) S))
  update_on_delete from to n m deletes (Operation.Update x y) S = absurd (m (first_byte (Operation.Update x y) 1 (fields_f.enc x ++ fields_f.enc y) (update_bytes x y) S))
  update_on_delete from to n m deletes Operation.Delete S = record { is = refl }

  -- a delete behind it
  pub delete_not : {c : List ℕ} {d : Bool} → d ≡ false → (o : Operation) → StandsAt operation_f o b at → FoldedAs Apart c (fold_operation d o Operation.Delete)
  unfolding fold_operation Folds when◌then◌else◌
  delete_not e (Operation.Create v) S = record { is = rw e }
  delete_not e (Operation.Update x y) S = record { is = rw e }
  delete_not e Operation.Delete S = record { is = refl }

  pub delete_on_create : {c : List ℕ} {d : Bool} → d ≡ true → get_or b at 0 ≡ 0 → (o : Operation) → StandsAt operation_f o b at → FoldedAs Cancelled c (fold_operation d o Operation.Delete)
  unfolding fold_operation Folds when◌then◌else◌
  delete_on_create e z (Operation.Create v) S = record { is = rw e }
  delete_on_create e z (Operation.Update x y) S = absurd (let q : ◌≡◌ {A = ℕ} 0 1 = sym z ∙ first_byte (Operation.Update x y) 1 (fields_f.enc x ++ fields_f.enc y) (update_bytes x y) S in omega arith)
  delete_on_create e z Operation.Delete S = absurd (let q : ◌≡◌ {A = ℕ} 0 2 = sym z ∙ first_byte Operation.Delete 2 [] delete_bytes S in omega arith)

  pub delete_on_update : {c c₁ : List ℕ} {p p₁ : Pen} {d : Bool} → 1469 ≤ length c → d ≡ true → get_or b at 0 ≡ 1 → p ≡ pen 0 → Wrote c c₁ p p₁ (2 ∷ []) → (o : Operation) → StandsAt operation_f o b at → FoldedAs (Into p₁.at) c₁ (fold_operation d o Operation.Delete)
  unfolding fold_operation Folds when◌then◌else◌
  delete_on_update r e z a W (Operation.Create v) S = absurd (let q : ◌≡◌ {A = ℕ} 1 0 = sym z ∙ first_byte (Operation.Create v) 0 (event_f.enc v) (create_bytes v) S in omega arith)
  delete_on_update {c} {c₁} {p} {p₁} r e z a W (Operation.Update x y) S = record {
    is = record {
      operation = Operation.Delete;
      is = rw e;
      ok = ok_delete;
      bytes = filled 1469 a (subst (λ (u : List ℕ). Wrote c c₁ p p₁ u) (sym delete_bytes) W) ((widths.operation_within).bytes Operation.Delete ok_delete) r;
    };
  }
  delete_on_update r e z a W Operation.Delete S = absurd (let q : ◌≡◌ {A = ℕ} 1 2 = sym z ∙ first_byte Operation.Delete 2 [] delete_bytes S in omega arith)

  pub delete_on_delete : {c : List ℕ} {d : Bool} → d ≡ true → (get_or b at 0 ≡ 0 → ⊥) → (get_or b at 0 ≡ 1 → ⊥) → (o : Operation) → StandsAt operation_f o b at → FoldedAs Apart c (fold_operation d o Operation.Delete)
  unfolding fold_operation Folds when◌then◌else◌
  delete_on_delete e n m (Operation.Create v) S = absurd (n (first_byte (Operation.Create v) 0 (event_f.enc v) (create_bytes v) S))
  delete_on_delete e n m (Operation.Update x y) S = absurd (m (first_byte (Operation.Update x y) 1 (fields_f.enc x ++ fields_f.enc y) (update_bytes x y) S))
  delete_on_delete e n m Operation.Delete S = record { is = refl }

-- ---- by the case of the new operation

pub next_is : (s : List ℕ) {c : List ℕ} {r : Folded} (d : Bool) {n m : places.Operation} → n ≡ m → {b : List ℕ} {at : ℕ} → ((o : Operation) → StandsAt operation_f o b at → FoldedAs r c (fold_operation d o (meant_operation s m)))
    → (o : Operation) → StandsAt operation_f o b at → FoldedAs r c (fold_operation d o (meant_operation s n))
next_is s {c} {r} d e E o S = subst (λ (x : places.Operation). FoldedAs r c (fold_operation d o (meant_operation s x))) (sym e) (E o S)

pub create_apart : (b : List ℕ) (at : ℕ) {c : List ℕ} (d : Bool) (e : ProviderEvent) (o : Operation) → StandsAt operation_f o b at → FoldedAs Apart c (fold_operation d o (Operation.Create e))
unfolding fold_operation Folds
create_apart b at d e (Operation.Create v) S = record { is = refl }
create_apart b at d e (Operation.Update x y) S = record { is = refl }
create_apart b at d e Operation.Delete S = record { is = refl }

pub update_parts : (s : List ℕ) {n : places.Operation} (from to : ℕ) → n ≡ place.Update from to → operation_f.Ok (meant_operation s n) → fields_f.Ok (fields_at s from) × fields_f.Ok (fields_at s to)
unfolding operation_f via enum ◌∣◌ ◌⊗◌
update_parts s from to e k = subst (λ (x : places.Operation). operation_f.Ok (meant_operation s x)) e k

-- ---- coalesce

-- the parts of a valid edit
pub record EditOk (e : Edit) : Type 0 where
  pub id : short_text.Ok e.id
  pub resource : resource_id.Ok e.resource
  pub operation : operation_f.Ok e.operation
  pub role : role_f.Ok e.role
  pub expires_at : (option stamp).Ok e.expires_at

pub edit_parts : (e : Edit) → edit_f.Ok e → EditOk e
unfolding edit_f via ◌⊗◌
edit_parts e k = record { id = k.0; resource = k.1.0; operation = k.1.1.0; role = k.1.1.1.0; expires_at = k.1.1.1.1 }

module _ (b : List ℕ) (at : ℕ) (next : Edit) {x y : List ℕ} {t : Bool} (P : PartOf role_f b (at + 1535) x) (Y : y ≡ role_f.enc next.role) (T : t ≡ same_text x y) where
  roles : (e : Edit) → StandsAt role_f e.role b (at + 1535) → t ≡ same role_f e.role next.role
  unfolding same
  roles e S = T ∙ ap₂ same_text (P.is e.role S) Y

  pub coalesce_apart : {c : List ℕ} → t ≡ false → (e : Edit) → StandsAt operation_f e.operation b (at + 66) → StandsAt role_f e.role b (at + 1535) → FoldedAs Apart c (coalesce e next)
  unfolding Folds coalesce when◌then◌else◌
  coalesce_apart q e S R = record { is = ap (λ (u : Bool). when u then fold_operation (not (is_attendee next.role)) e.operation next.operation else None) (sym (roles e R) ∙ q) }

  pub coalesce_so : {c : List ℕ} {r : Folded} (d : Bool) → t ≡ true → d ≡ not (is_attendee next.role) → ((o : Operation) → StandsAt operation_f o b (at + 66) → FoldedAs r c (fold_operation d o next.operation))
      → (e : Edit) → StandsAt operation_f e.operation b (at + 66) → StandsAt role_f e.role b (at + 1535) → FoldedAs r c (coalesce e next)
  unfolding coalesce when◌then◌else◌
  coalesce_so {c} {r} d q k E e S R =
      let f : fold_operation d e.operation next.operation ≡ coalesce e next =
      ap (λ (u : Bool). fold_operation u e.operation next.operation) k ∙ ap (λ (u : Bool). when u then fold_operation (not (is_attendee next.role)) e.operation next.operation else None) (sym q ∙ roles e R) in
      subst (FoldedAs r c) f (E e.operation S)

-- ---- the newest entry of a queue

few_foldable : (q : Queue) → length q < 2 → foldable q ≡ None
unfolding foldable when◌then◌else◌
few_foldable q l = rw (lt-leb 2 (length q) l)

many_foldable : (q : Queue) → 2 ≤ length q → foldable q ≡ nth (length q - 1) q
unfolding foldable when◌then◌else◌
many_foldable q l = rw (le-leb 2 (length q) l) (sym (nth_back q))

foldable_is : (r : ResourceId) {w : List ℕ} {n : ℕ} → Reads (λ s. length (queue r s)) w n → 2 ≤ n → (s : SyncState) → Keeps s w → foldable (queue r s) ≡ nth (n - 1) (queue r s)
foldable_is r N l s h = many_foldable (queue r s) (subst (λ (i : ℕ). 2 ≤ i) (N.is s h) l) ∙ ap (λ (i : ℕ). nth (i - 1) (queue r s)) (sym (N.is s h))

module _ (r : ResourceId) (next : Edit) {w : List ℕ} {n : ℕ} (N : Reads (λ s. length (queue r s)) w n) where
  pub newest_none : {c : List ℕ} → n < 2 → (s : SyncState) → Keeps s w → FoldedAs Apart c (coalesced_with (foldable (queue r s)) next)
  unfolding Folds coalesced_with
  newest_none l s h = record { is = ap (λ (x : Option Pending). coalesced_with x next) (few_foldable (queue r s) (subst (λ (i : ℕ). i < 2) (N.is s h) l)) }

  pub newest_missing : {c : List ℕ} → 2 ≤ n → {p : Option ℕ} → FindsEntry r (n - 1) w p → p ≡ None → (s : SyncState) → Keeps s w → FoldedAs Apart c (coalesced_with (foldable (queue r s)) next)
  unfolding Folds coalesced_with EntryIs
  newest_missing l F e s h = record { is = ap (λ (x : Option Pending). coalesced_with x next) (foldable_is r N l s h ∙ subst (EntryIs r (n - 1) w s) e (F.is s h)) }

  pub newest_so : {c : List ℕ} {f : Folded} → 2 ≤ n → (at : ℕ) {p : Option ℕ} → FindsEntry r (n - 1) w p → p ≡ Some at
      → ((e : Edit) → StandsAt operation_f e.operation w (at + 66) → StandsAt role_f e.role w (at + 1535) → FoldedAs f c (coalesce e next))
      → (s : SyncState) → Keeps s w → FoldedAs f c (coalesced_with (foldable (queue r s)) next)
  unfolding coalesced_with EntryIs
  newest_so {c} {f} l at F e E s h =
      let I : SomeEntryAt r (n - 1) w s at = subst (EntryIs r (n - 1) w s) e (F.is s h) in
      subst (FoldedAs f c) (ap (λ (x : Option Pending). coalesced_with x next) (sym (foldable_is r N l s h ∙ I.is.got)))
      (E I.entry.edit
      (stands_field operation_f I.entry.edit.operation w (at + 66) 1469 I.is.fits.operation I.is.operation)
      (stands_field role_f I.entry.edit.role w (at + 1535) 34 I.is.fits.role I.is.role))
