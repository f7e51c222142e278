-- Whether a merged event differs from theirs: their bytes differ where their fields' bytes do. Assumes nothing.
use Prim.Native.Nat.{ℕ}
use native.Mathlib.Omega.{arith}
use mathlib.Core.Path.{◌≡◌, refl, sym, ap, ◌∙◌}
use mathlib.Core.List.{List, [], ◌∷◌, ◌++◌}
use mathlib.Core.Bool.{Bool, true, false, not}
use lib.ListN.{length, take, length-append}
use lib.Seq.{take_at}
use borrow.Author.Tests.{eq-eqb}
use Rattle.format.specs.Format.{option, ◌⊗◌, via}
use Rattle.model.specs.Event.{NormalizedEvent, ProviderEvent}
use Rattle.model.specs.Parts.{Role}
use Rattle.model.specs.Maps.{same_text}
use Rattle.model.specs.Formats.{same, short_text, tag, u32, ids_f, fields_f, event_f}
use Rattle.model.specs.Merge.{merge}
use Rattle.model.proofs.Tables.{same_self, same_true}
use Rattle.comparison.proofs.Laws.{same_cons}
use Rattle.merge.specs.Given.{Begins}
use Rattle.merge.specs.Parts.{event_of}
use Rattle.merge.proofs.EventParts.{event_enc}

-- two texts that differ behind a common start
same_after : (x a b : List ℕ) → same_text (x ++ a) (x ++ b) ≡ same_text a b
same_after [] a b = refl
same_after (c ∷ x) a b = rw (same_cons c c (x ++ a) (x ++ b), eq-eqb c c refl) (same_after x a b)

cancel : (a b x : List ℕ) → a ++ x ≡ b ++ x → a ≡ b
cancel a b x e =
    let n : length a ≡ length b =
    let l : length (a ++ x) ≡ length (b ++ x) = ap length e in
    omega (arith, length-append a x, length-append b x, l)
    in
    sym (take_at a x (length a) refl) ∙ (ap (take (length a)) e ∙ take_at b x (length a) (sym n))

agree : (a b : Bool) → (a ≡ true → b ≡ true) → (b ≡ true → a ≡ true) → a ≡ b
agree true b f g = sym (f refl)
agree false true f g = g refl
agree false false f g = refl

-- and before a common end
same_before : (a b x : List ℕ) → same_text (a ++ x) (b ++ x) ≡ same_text a b
same_before a b x = agree (same_text (a ++ x) (b ++ x)) (same_text a b)
    (λ e. rw (cancel a b x (same_true (a ++ x) (b ++ x) e)) (same_self b))
    (λ e. rw (same_true a b e) (same_self (b ++ x)))

between : (x y z a b w : List ℕ) → same_text (x ++ (y ++ (z ++ (a ++ w)))) (x ++ (y ++ (z ++ (b ++ w)))) ≡ same_text a b
between x y z a b w =
    same_after x (y ++ (z ++ (a ++ w))) (y ++ (z ++ (b ++ w)))
    ∙ (same_after y (z ++ (a ++ w)) (z ++ (b ++ w)) ∙ (same_after z (a ++ w) (b ++ w) ∙ same_before a b w))

pub changed_is : {s u : List ℕ} (b o : NormalizedEvent) (t : ProviderEvent) (role : Role) → Begins event_f s (merge b o t role).event → Begins event_f u t
    → not (same_text (event_of s) (event_of u)) ≡ (merge b o t role).changed
unfolding merge same event_f via ◌⊗◌
changed_is b o t role M E =
    rw (event_enc M, event_enc E)
    (ap not (between (ids_f.enc t.ids) ((option short_text).enc t.revision) (u32.enc t.mapper_version) (fields_f.enc (merge b o t role).event.fields) (fields_f.enc t.fields) (tag.enc t.passthrough)))
