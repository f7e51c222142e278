-- The ids that an entry has absorbed: where the next one goes, and the list with one more. Assumes nothing.
use Prim.Native.Nat.{ℕ, zero, suc, ◌+◌, ◌-◌, ◌≤◌, ◌<◌}
use native.Mathlib.Nat.{add-zero, not-suc-le-zero, le_of_suc-le-suc}
use native.Mathlib.Omega.{arith}
use mathlib.Core.Path.{◌≡◌, refl, sym, ap, ap₂, ◌∙◌}
use mathlib.Core.List.{List, [], ◌∷◌, ◌++◌, append_assoc, append-nil}
use lib.ListN.{length, take, drop, get_or, length-append, length-drop}
use lib.Seq.{take_at, drop_at, drop-drop, get_or-drop}
use borrow.Author.Tests.{lt-ltb, le-ltb}
use Rattle.format.specs.Format.{concat_map, list, text}
use Rattle.spans.specs.Bytes.{zeros}
use Rattle.spans.proofs.Laws.{drop_zeros}
use Rattle.lent.specs.Lent.{placed}
use Rattle.model.specs.Event.{Text}
use Rattle.model.specs.Maps.{when◌then◌else◌}
use Rattle.model.specs.Formats.{short_text}
use Rattle.state.specs.Layout.{padded, field}
use Rattle.waiting.specs.Texts.{text_end, texts_end}

pub text_past : (s : List ℕ) (at : ℕ) → length s ≤ at → at ≡ text_end s at
unfolding text_end when◌then◌else◌
text_past s at h = rw (le-ltb at (length s) h)

pub text_more : (s : List ℕ) (at : ℕ) → at < length s → at + (1 + get_or s at 0) ≡ text_end s at
unfolding text_end when◌then◌else◌
text_more s at h = rw (lt-ltb at (length s) h)

pub texts_next : (left at : ℕ) (s : List ℕ) → 0 < left → texts_end left s at ≡ texts_end (left - 1) s (text_end s at)
unfolding texts_end
texts_next zero at s h = absurd (not-suc-le-zero h)
texts_next (suc n) at s h = let e : suc n - 1 ≡ n = omega arith in rw e

pub texts_done : (left at : ℕ) (s : List ℕ) → left ≤ 0 → texts_end left s at ≡ at
unfolding texts_end
texts_done zero at s h = refl
texts_done (suc n) at s h = absurd (not-suc-le-zero h)

-- ---- texts that stand there

abbrev pub Ids : List Text → List ℕ
Ids ids = concat_map short_text.enc ids

pub ids_more : (ids : List Text) (id : Text) → Ids (ids ++ (id ∷ [])) ≡ Ids ids ++ short_text.enc id
ids_more [] id = append-nil (short_text.enc id)
ids_more (x ∷ ids) id = ap (λ (l : List ℕ). short_text.enc x ++ l) (ids_more ids id) ∙ sym (append_assoc (short_text.enc x) (Ids ids) (short_text.enc id))

pub texts_are : (n : ℕ) (ids : List Text) (s tail : List ℕ) (at : ℕ) → drop at s ≡ Ids ids ++ tail → n ≤ length ids → texts_end n s at ≡ at + length (Ids (take n ids))
unfolding texts_end text
texts_are zero ids s tail at e h = sym (add-zero at)
texts_are (suc n) [] s tail at e h = absurd (not-suc-le-zero h)
texts_are (suc n) (id ∷ ids) s tail at e h =
    let b : List ℕ = length id ∷ id in
    let d : drop at s ≡ (length id ∷ id) ++ (Ids ids ++ tail) = e ∙ append_assoc (length id ∷ id) (Ids ids) tail in
    let l : length (drop at s) ≡ length s - at = length-drop at s in
    let m : length (drop at s) ≡ suc (length (id ++ (Ids ids ++ tail))) = ap length d in
    let z : at + 0 ≡ at = add-zero at in
    let g : get_or s at 0 ≡ length id = ap (λ (i : ℕ). get_or s i 0) (sym z) ∙ sym (get_or-drop at s 0 0) ∙ ap (λ (x : List ℕ). get_or x 0 0) d in
    let t : text_end s at ≡ at + suc (length id) = sym (text_more s at (omega arith)) ∙ ap (λ (i : ℕ). at + (1 + i)) g ∙ omega arith in
    let f : drop (at + suc (length id)) s ≡ Ids ids ++ tail = sym (drop-drop (suc (length id)) at s) ∙ ap (drop (suc (length id))) d ∙ drop_at (length id ∷ id) (Ids ids ++ tail) (suc (length id)) refl in
    let o : length ((length id ∷ id) ++ Ids (take n ids)) ≡ suc (length id) + length (Ids (take n ids)) = length-append (length id ∷ id) (Ids (take n ids)) in
    ap (texts_end n s) t ∙ texts_are n ids s tail (at + suc (length id)) f (le_of_suc-le-suc h) ∙ omega arith

-- ---- a list of texts with one more

more_bytes : (c c' : ℕ) (X b : List ℕ) → suc (length X) + length b ≤ 265
    → placed 0 1 (padded 1 (c' ∷ [])) (placed (suc (length X)) (length b) (padded (length b) b) (padded 265 (c ∷ X))) ≡ padded 265 (c' ∷ (X ++ b))
unfolding padded
more_bytes c c' X b h =
    let m : ℕ = 265 - suc (length X) in
    let e : length b - length b ≡ 0 = omega arith in
    let n : length (X ++ b) ≡ length X + length b = length-append X b in
    let k : 265 - suc (length X) - length b ≡ 265 - suc (length (X ++ b)) = omega arith in
    let t : take (suc (length X)) ((c ∷ X) ++ zeros m) ≡ c ∷ X = take_at (c ∷ X) (zeros m) (suc (length X)) refl in
    let d : drop (length b) (drop (suc (length X)) ((c ∷ X) ++ zeros m)) ≡ zeros (265 - suc (length (X ++ b))) =
    ap (drop (length b)) (drop_at (c ∷ X) (zeros m) (suc (length X)) refl) ∙ drop_zeros (length b) m (omega arith) ∙ ap zeros k in
    let p : b ++ zeros (length b - length b) ≡ b = ap (λ (i : ℕ). b ++ zeros i) e ∙ append-nil b in
    let q : placed (suc (length X)) (length b) (b ++ zeros (length b - length b)) ((c ∷ X) ++ zeros m) ≡ (c ∷ X) ++ (b ++ zeros (265 - suc (length (X ++ b)))) =
    ap₂ (λ (x y : List ℕ). x ++ ((b ++ zeros (length b - length b)) ++ y)) t d ∙ ap (λ (x : List ℕ). (c ∷ X) ++ (x ++ zeros (265 - suc (length (X ++ b))))) p in
    ap (placed 0 1 (c' ∷ [])) q ∙ ap (λ (x : List ℕ). c' ∷ x) (sym (append_assoc X b (zeros (265 - suc (length (X ++ b))))))

pub list_more : (ids : List Text) (id : Text) (b : List ℕ) → b ≡ short_text.enc id → suc (length (Ids ids)) + length b ≤ 265
    → placed 0 1 (padded 1 ((length ids + 1) ∷ [])) (placed (suc (length (Ids ids))) (length b) (padded (length b) b) (field 265 (list 8 short_text) ids)) ≡ field 265 (list 8 short_text) (ids ++ (id ∷ []))
unfolding list
list_more ids id b e h =
    more_bytes (length ids) (length ids + 1) (Ids ids) b h
    ∙ ap (λ (x : List ℕ). padded 265 ((length ids + 1) ∷ (Ids ids ++ x))) e
    ∙ ap₂ (λ (n : ℕ) (x : List ℕ). padded 265 (n ∷ x)) (sym (length-append ids (id ∷ []))) (sym (ids_more ids id))
