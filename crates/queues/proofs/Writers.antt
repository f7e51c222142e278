-- Expiry, and the parts of an edit as they are written into a buffer. Assumes nothing.
use Rattle.std.specs.Prelude.{Some, None}
use Prim.Native.Nat.{ℕ, ◌≤◌}
use native.Mathlib.Omega.{arith}
use mathlib.Core.Path.{◌≡◌, refl, sym, ap, ap₂, ◌∙◌, subst}
use mathlib.Core.List.{List, [], ◌∷◌, ◌++◌}
use mathlib.Core.Bool.{Bool, true, false, not, false≢true}
use lib.IntN.{ℤ}
use lib.Signed.{le_z}
use lib.ListN.{length, take, drop}
use lib.Seq.{take_at}
use mir.Syntax.{w64}
use mir.Val.{of_z}
use Rattle.format.specs.Format.{Format, Lawful, Got, option, stamp, text, enum, ◌∣◌, via, nothing, big_endian, ◌⊗◌}
use Rattle.model.specs.Event.{Text, NormalizedEvent}
use Rattle.model.specs.Parts as parts
use Rattle.model.specs.Edits as edits
use Rattle.model.specs.Formats.{short_text, role_f, operation_f, fields_f, event_f}
use Rattle.model.specs.Limits.{max_text}
use Rattle.model.specs.Maps.{is_some_and, same_text}
use Rattle.model.specs.Sync.{is_attendee}
use Rattle.std.specs.Cmp.Lexicographic.{pointwise, nat_list_eq_equiv}
use Rattle.std.proofs.Common.{nat_eq}
use Rattle.spans.proofs.Laws.{same_bytes}
use Rattle.state.proofs.Ops.{equal_same}
use Rattle.model.proofs.FormatsLaws.{fields_f_law, event_f_law}
use Rattle.model.proofs.ValidParts.{create_ok, update_ok}
use Rattle.frame.specs.Read.{stepped, skips, value_of, value_at}
use Rattle.frame.proofs.Stood.{fields_stand, event_stands}
use Rattle.frame.specs.Meaning.{stands_at, text_in, fields_at, event_at, meant_role, meant_expiry, meant_operation, no_fields, no_event}
use Rattle.frame.specs.declared.Expiry.{Expiry}
use Rattle.frame.specs.declared.Expiry.TheVariants.{Never, At}
use Rattle.frame.specs.declared.TextPart.{TextPart}
use Rattle.frame.specs.declared.Role.{Role}
use Rattle.frame.specs.declared.Role.TheVariants.{Owner, Attendee}
use Rattle.frame.specs.declared.Operation.{Operation}
use Rattle.frame.specs.declared.Operation.TheVariants.{Create, Update, Delete}
use Rattle.pens.specs.declared.Pen.{Pen}
use Rattle.pens.specs.Writing.{Wrote, Stands}
use Rattle.pens.proofs.Laws.{wrote_then}
use Rattle.effects.specs.Sent.{pen}
use Rattle.state.proofs.Widths as widths
use Rattle.queues.proofs.Notices.{create_bytes}
use Rattle.queues.specs.Parts.{StandsAt, PartOf, Filled}

-- ---- whether an expiry has come

pub due_never : (now : ℤ) {e : Expiry} → e ≡ Never → false ≡ is_some_and (λ at. le_z at now) (meant_expiry e)
unfolding is_some_and
due_never now q = rw q

pub due_at : (now at x y : ℤ) {e : Expiry} {b : Bool} → e ≡ At at → b ≡ le_z x y → x ≡ at → y ≡ now → b ≡ is_some_and (λ at. le_z at now) (meant_expiry e)
unfolding is_some_and
due_at now at x y q h e f = h ∙ ap₂ le_z e f ∙ rw q

-- ---- written bytes

pub filled : {b b' x : List ℕ} {p q : Pen} (n : ℕ) → p ≡ pen 0 → Wrote b b' p q x → length x ≤ n → n ≤ length b → Filled x b' q.at
filled {b} {b'} {x} {q = q} n e W₀ l k =
    let W : Wrote b b' (pen 0) q x = subst (λ (p : Pen). Wrote b b' p q x) e W₀ in
    let S : Stands b b' (pen 0) q x = W.wrote (W.room refl (omega arith)) (omega arith) in
    let s = S.place in
    let a : q.at ≡ length x = omega arith in
    record {
      count = a;
      fits = let f : q.at ≤ length b = S.fits in let g : length b' ≡ length b = W.long in omega arith;
      bytes = ap (take q.at) S.bytes ∙ take_at x (drop q.at b) q.at (sym a);
    }

-- a value of the frame's that is valid stands at its place
read_stands : {A : Type 0} {f : Format A} (F : Lawful f) (d : A) (s : List ℕ) (p : ℕ) → (skips f s (record { at = p; ok = true })).ok ≡ true → StandsAt f (stands_at f d s p) s p
unfolding skips value_at
read_stands {A} {f} F d s p k = go (f.dec (drop p s)) refl k
  where
    go : (x : Got A) → f.dec (drop p s) ≡ x → (stepped s x).ok ≡ true → StandsAt f (value_of d x) s p
    go None e k = absurd (false≢true k)
    go (Some r) e k = let i = F.reads (drop p s) r e in record { ok = i.1; rest = r.1; is = i.0 }

pub fields_there : (s : List ℕ) (p : ℕ) → fields_f.Ok (fields_at s p) → StandsAt fields_f (fields_at s p) s p
fields_there s p k = read_stands fields_f_law no_fields s p (fields_stand s p (skips fields_f s (record { at = p; ok = true })) refl k).0

pub event_there : (s : List ℕ) (p : ℕ) → event_f.Ok (event_at s p) → StandsAt event_f (event_at s p) s p
event_there s p k = read_stands event_f_law no_event s p (event_stands s p (skips event_f s (record { at = p; ok = true })) refl k).0

-- ---- the parts of an edit

pub short_id : (t : List ℕ) (v : Text) → t ≡ v → short_text.Ok v → length t ≤ 255
unfolding text max_text
short_id t v e k = subst (λ (x : List ℕ). length x ≤ 255) (sym e) (let h = k.0 in omega arith)

pub id_filled : {b b' t : List ℕ} {p q : Pen} (v : Text) → 33 ≤ length b → short_text.Ok v → t ≡ v → p ≡ pen 0 → Wrote b b' p q (length t ∷ t) → Filled (short_text.enc v) b' q.at
unfolding text
id_filled {b} {b'} {t} {p} {q} v l k e a W = filled 33 a (subst (λ (x : List ℕ). Wrote b b' p q (length x ∷ x)) e W) ((widths.text_33).bytes v k) l

owner_bytes : role_f.enc parts.Role.Owner ≡ 0 ∷ []
unfolding role_f via enum ◌∣◌ nothing
owner_bytes = refl

attendee_bytes : (a : Text) → role_f.enc (parts.Role.Attendee a) ≡ 1 ∷ (length a ∷ a)
unfolding role_f via enum ◌∣◌ text
attendee_bytes a = refl

pub attendee_ok : (a : Text) → role_f.Ok (parts.Role.Attendee a) → short_text.Ok a
unfolding role_f via enum ◌∣◌
attendee_ok a k = k

pub role_owner : {b b' : List ℕ} {p q : Pen} (s : List ℕ) {role : Role} → 34 ≤ length b → role_f.Ok (meant_role s role) → role ≡ Owner → p ≡ pen 0 → Wrote b b' p q (0 ∷ []) → Filled (role_f.enc (meant_role s role)) b' q.at
role_owner {b} {b'} {p} {q} s {role} l k e a W =
    let x : role_f.enc (meant_role s role) ≡ 0 ∷ [] = ap (λ (y : Role). role_f.enc (meant_role s y)) e ∙ owner_bytes in
    filled 34 a (subst (λ (y : List ℕ). Wrote b b' p q y) (sym x) W) ((widths.role_within).bytes (meant_role s role) k) l

pub role_attendee : {b b₁ b' t : List ℕ} {p p₁ q : Pen} (s : List ℕ) {role : Role} (address : TextPart) → 34 ≤ length b → role_f.Ok (meant_role s role) → role ≡ Attendee address → t ≡ text_in s address → p ≡ pen 0 → Wrote b b₁ p p₁ (1 ∷ []) → Wrote b₁ b' p₁ q (length t ∷ t)
    → Filled (role_f.enc (meant_role s role)) b' q.at
role_attendee {b} {b₁} {b'} {t} {p} {p₁} {q} s {role} address l k e d a W Y =
    let x : role_f.enc (meant_role s role) ≡ 1 ∷ (length t ∷ t) = ap (λ (y : Role). role_f.enc (meant_role s y)) e ∙ attendee_bytes (text_in s address) ∙ ap (λ (y : List ℕ). 1 ∷ (length y ∷ y)) (sym d) in
    filled 34 a (subst (λ (y : List ℕ). Wrote b b' p q y) (sym x) (wrote_then W Y)) ((widths.role_within).bytes (meant_role s role) k) l

never_bytes : (option stamp).enc None ≡ 0 ∷ []
unfolding option via enum ◌∣◌ nothing
never_bytes = refl

time_bytes : (z : ℤ) → (option stamp).enc (Some z) ≡ 1 ∷ big_endian 8 (of_z w64 z)
unfolding option stamp via enum ◌∣◌
time_bytes z = refl

pub expiry_never : {b b' : List ℕ} {p q : Pen} {e : Expiry} → 9 ≤ length b → (option stamp).Ok (meant_expiry e) → e ≡ Never → p ≡ pen 0 → Wrote b b' p q (0 ∷ []) → Filled ((option stamp).enc (meant_expiry e)) b' q.at
expiry_never {b} {b'} {p} {q} {e} l k d a W =
    let x : (option stamp).enc (meant_expiry e) ≡ 0 ∷ [] = ap (λ (y : Expiry). (option stamp).enc (meant_expiry y)) d ∙ never_bytes in
    filled 9 a (subst (λ (y : List ℕ). Wrote b b' p q y) (sym x) W) ((widths.time_within).bytes (meant_expiry e) k) l

pub expiry_at : {b b₁ b' : List ℕ} {p p₁ q : Pen} {e : Expiry} (z : ℤ) {n : ℕ} → 9 ≤ length b → (option stamp).Ok (meant_expiry e) → e ≡ At z → n ≡ of_z w64 z → p ≡ pen 0 → Wrote b b₁ p p₁ (1 ∷ []) → Wrote b₁ b' p₁ q (big_endian 8 n)
    → Filled ((option stamp).enc (meant_expiry e)) b' q.at
expiry_at {b} {b₁} {b'} {p} {p₁} {q} {e} z {n} l k d f a W Y =
    let x : (option stamp).enc (meant_expiry e) ≡ 1 ∷ big_endian 8 n = ap (λ (y : Expiry). (option stamp).enc (meant_expiry y)) d ∙ time_bytes z ∙ ap (λ (i : ℕ). 1 ∷ big_endian 8 i) (sym f) in
    filled 9 a (subst (λ (y : List ℕ). Wrote b b' p q y) (sym x) (wrote_then W Y)) ((widths.time_within).bytes (meant_expiry e) k) l

pub update_bytes : (x y : NormalizedEvent) → operation_f.enc (edits.Operation.Update x y) ≡ 1 ∷ (fields_f.enc x ++ fields_f.enc y)
unfolding operation_f via enum ◌∣◌ ◌⊗◌
update_bytes x y = refl

pub delete_bytes : operation_f.enc edits.Operation.Delete ≡ 2 ∷ []
unfolding operation_f via enum ◌∣◌ nothing
delete_bytes = refl

module _ (s : List ℕ) {b b' : List ℕ} {p q : Pen} (o : Operation) (l : 1469 ≤ length b) (k : operation_f.Ok (meant_operation s o)) (a : p ≡ pen 0) where
  operation_filled : (x : List ℕ) → operation_f.enc (meant_operation s o) ≡ x → Wrote b b' p q x → Filled (operation_f.enc (meant_operation s o)) b' q.at
  operation_filled x e W = filled 1469 a (subst (λ (y : List ℕ). Wrote b b' p q y) (sym e) W) ((widths.operation_within).bytes (meant_operation s o) k) l

  pub operation_create : {b₁ x : List ℕ} {p₁ : Pen} (event : ℕ) → o ≡ Create event → PartOf event_f s event x → Wrote b b₁ p p₁ (0 ∷ []) → Wrote b₁ b' p₁ q x → Filled (operation_f.enc (meant_operation s o)) b' q.at
  operation_create {x = x} event e P W Y =
      let k' : event_f.Ok (event_at s event) = create_ok (event_at s event) (subst (λ (y : Operation). operation_f.Ok (meant_operation s y)) e k) in
      operation_filled (0 ∷ x) (ap (λ (y : Operation). operation_f.enc (meant_operation s y)) e ∙ create_bytes (event_at s event) ∙ ap (λ (y : List ℕ). 0 ∷ y) (sym (P.is (event_at s event) (event_there s event k')))) (wrote_then W Y)

  pub operation_update : {b₁ b₂ x y : List ℕ} {p₁ p₂ : Pen} (base ours : ℕ) → o ≡ Update base ours → PartOf fields_f s base x → PartOf fields_f s ours y → Wrote b b₁ p p₁ (1 ∷ []) → Wrote b₁ b₂ p₁ p₂ x → Wrote b₂ b' p₂ q y
      → Filled (operation_f.enc (meant_operation s o)) b' q.at
  operation_update {x = x} {y} base ours e P Q W X Y =
      let k' : fields_f.Ok (fields_at s base) × fields_f.Ok (fields_at s ours) = update_ok (fields_at s base) (fields_at s ours) (subst (λ (y : Operation). operation_f.Ok (meant_operation s y)) e k) in
      operation_filled (1 ∷ (x ++ y)) (ap (λ (y : Operation). operation_f.enc (meant_operation s y)) e ∙ update_bytes (fields_at s base) (fields_at s ours)
      ∙ ap₂ (λ (u v : List ℕ). 1 ∷ (u ++ v)) (sym (P.is (fields_at s base) (fields_there s base k'.0))) (sym (Q.is (fields_at s ours) (fields_there s ours k'.1)))) (wrote_then W (wrote_then X Y))

  pub operation_delete : o ≡ Delete → Wrote b b' p q (2 ∷ []) → Filled (operation_f.enc (meant_operation s o)) b' q.at
  operation_delete e W = operation_filled (2 ∷ []) (ap (λ (y : Operation). operation_f.enc (meant_operation s y)) e ∙ delete_bytes) W

-- ---- roles and bytes compared

pub owner_yes : {role : Role} → role ≡ Owner → (s : List ℕ) → true ≡ not (is_attendee (meant_role s role))
unfolding is_attendee
owner_yes e s = rw e

pub owner_no : {role : Role} (a : TextPart) → role ≡ Attendee a → (s : List ℕ) → false ≡ not (is_attendee (meant_role s role))
unfolding is_attendee
owner_no a e s = rw e

pub same_of : (a b : List ℕ) → pointwise nat_eq a b ≡ same_text a b
same_of a b = nat_list_eq_equiv.symm a b ∙ same_bytes b a ∙ equal_same b a

-- ---- the first bytes of a buffer

pub prefix : {x b : List ℕ} {n : ℕ} → Filled x b n → n ≡ length (take n b)
prefix F = F.count ∙ ap length (sym F.bytes)

pub most : {x b : List ℕ} {n : ℕ} (k : ℕ) → Filled x b n → length x ≤ k → length (take n b) ≤ k
most k F l = subst (λ (y : List ℕ). length y ≤ k) (sym F.bytes) l
