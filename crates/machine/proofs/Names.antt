-- A name by value, made of its text. Assumes nothing.
use Prim.Native.Nat.{ℕ, ◌≤◌}
use native.Mathlib.Omega.{arith}
use mathlib.Core.Path.{◌≡◌, refl, ap, ◌∙◌}
use mathlib.Core.List.{List, ◌∷◌, ◌++◌}
use lib.ListN.{length, drop}
use Rattle.format.specs.Format.{text}
use Rattle.spans.specs.Bytes.{zeros}
use Rattle.spans.proofs.Laws.{drop_zeros}
use Rattle.model.specs.Event.{Text}
use Rattle.model.specs.Limits.{max_id}
use Rattle.model.specs.Formats.{resource_id}
use Rattle.pens.specs.Writing.{Stands, Wrote}
use Rattle.pens.specs.declared.Pen.{Pen}
use Rattle.effects.specs.Sent.{pen}
use Rattle.state.specs.Layout.{padded}
use Rattle.state.specs.Values.{name_of, Named}
use Rattle.state.proofs.Widths.{name_within}
use Rattle.state.proofs.Ops.{slot_named}

pub short : (t : Text) → resource_id.Ok t → length t ≤ 255
unfolding text max_id
short t k = let h = k.0 in omega arith

pub named : {b : List ℕ} {q : Pen} (t : Text) → resource_id.Ok t → Wrote (zeros 33) b (pen 0) q (length t ∷ t) → (name_of b ≡ t) × Named b
unfolding text padded
named {b} {q} t k W =
    let m : length (resource_id.enc t) ≤ 33 = name_within.bytes t k in
    let S : Stands (zeros 33) b (pen 0) q (resource_id.enc t) = W.wrote (W.room refl (omega arith)) (omega arith) in
    let s = S.place in
    let n : q.at ≡ length (resource_id.enc t) = omega arith in
    slot_named b t k (S.bytes ∙ ap (λ (x : List ℕ). resource_id.enc t ++ x) (ap (λ (i : ℕ). drop i (zeros 33)) n ∙ drop_zeros (length (resource_id.enc t)) 33 m))
