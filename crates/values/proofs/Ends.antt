-- What is read of the end of a page. Assumes nothing.
use Prim.Native.Nat.{ℕ}
use native.Mathlib.Omega.{arith}
use mathlib.Core.Path.{◌≡◌}
use mathlib.Core.List.{List}
use lib.Dec.{lit<}
use Rattle.format.specs.Format.{◌∣◌, no_case, below}
use Rattle.model.specs.Event.{Text}
use Rattle.model.specs.Seam.{Next}
use Rattle.model.specs.Shapes.{next_to, next_from}
use Rattle.model.specs.Formats.{short_text, next_f}
use Rattle.frame.specs.Read.{Found, Means}
use Rattle.frame.proofs.Skips.{found_below}
use Rattle.frame.proofs.Means.{means_case, nth_first, nth_other}
use Rattle.frame.proofs.Inputs.{next_few}
use Rattle.frame.specs.declared.Cursor.{Cursor}

module _ (s : List ℕ) (c tag : Cursor) (v : ℕ) (F : Found tag v 0 (below 2) s c) (next : Cursor) (t : Text) (M : Means next t short_text s tag) where
  pub next_more : v ≡ 0 → Means next (Next.More t) next_f s c
  unfolding next_f
  next_more e = means_case next_to next_from next_few (nth_first short_text (short_text ∣ no_case)) s c tag v F e next t M

  pub next_done : (v ≡ 0 → ⊥) → Means next (Next.Done t) next_f s c
  unfolding next_f
  next_done g =
      let b = found_below 2 s c tag v F (lit< tt) in
      means_case next_to next_from next_few (nth_other short_text (nth_first short_text no_case)) s c tag v F (omega arith) next t M
