-- A field passes the test of its bytes exactly where a value that may stand there does. Assumes nothing.
use Rattle.std.specs.Prelude.{Some, None}
use Prim.Native.Nat.{ℕ, ◌+◌, ◌-◌}
use native.Mathlib.Omega.{arith}
use mathlib.Core.Path.{◌≡◌, refl, ap, ◌∙◌}
use mathlib.Core.List.{List, ◌++◌}
use mathlib.Core.Bool.{true}
use lib.ListN.{length, length-append}
use Rattle.format.specs.Format.{Got, Format, Lawful}
use Rattle.spans.specs.Bytes.{zeros}
use Rattle.tables.proofs.Laws as tables
use Rattle.state.specs.Layout.{padded}
use Rattle.reader.specs.Left.{after, past}
use Rattle.regions.specs.Tests.{zeros_left, filled}
use Rattle.regions.specs.Inside.{FieldIn}

module _ {A : Type 0} {f : Format A} (F : Lawful f) where
  pub field_yes : (n : ℕ) (s : List ℕ) → length s ≡ n → filled f s ≡ true → FieldIn n f s
  unfolding filled after padded
  field_yes n s l h = go (f.dec s) refl h
    where
      go : (x : Got A) → f.dec s ≡ x → zeros_left (past x) ≡ true → FieldIn n f s
      go None q h = absurd (tables.false_true h)
      go (Some r) q h =
          let i = F.reads s r q in
          let z : r.1 ≡ zeros (length r.1) = tables.all_zero_is r.1 h in
          let k : length s ≡ length (f.enc r.0) + length r.1 = ap length i.0 ∙ length-append (f.enc r.0) r.1 in
          let m : length r.1 ≡ n - length (f.enc r.0) = omega arith in
          record { value = r.0; ok = i.1; bytes = i.0 ∙ ap (λ (t : List ℕ). f.enc r.0 ++ t) (z ∙ ap zeros m) }

  pub field_no : (n : ℕ) (s : List ℕ) → FieldIn n f s → filled f s ≡ true
  unfolding filled after padded
  field_no n s I =
      ap (λ x. zeros_left (past x)) (ap f.dec I.bytes ∙ F.writes I.value I.ok (zeros (n - length (f.enc I.value)))) ∙ tables.zeros_all_zero (n - length (f.enc I.value))
