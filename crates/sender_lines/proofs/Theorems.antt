-- The theorems of specs/NoUse.antt. Assumes nothing.
use Rattle.std.specs.Prelude.{None}
use Prim.Native.Nat.{ℕ}
use mathlib.Core.Path.{◌≡◌, refl, ap, ◌∙◌}
use mathlib.Core.List.{List, [], ◌∷◌, ◌++◌}
use Rattle.format.specs.Format.{via, enum, whole_of}
use Rattle.format.proofs.WholeLaws.{whole}
use Rattle.lines.specs.Lines.{digit, digits, undigits, frame_of}
use Rattle.model.specs.Event.{ascii}
use Rattle.model.specs.Machine.{match◌none:◌some:◌}
use Rattle.sender_bytes.specs.Bytes.{Returned, refused}
use Rattle.sender_lines.specs.Answers.{use_f, answered, grant_text, reply, after_line}
use Rattle.sender_lines.specs.NoUse.{UseExact, AnswersThree, HoldsNoUse, HoldsNoFrame}
use Rattle.sender_lines.proofs.Laws.{use_f_law}

pub use_exact : UseExact
use_exact frame u = whole use_f_law frame u

no_use : (sender frame : List ℕ) → whole_of use_f frame ≡ None → answered sender frame ≡ refused 3 sender
unfolding answered match◌none:◌some:◌
no_use sender frame e = rw e

three : (sender : List ℕ) → grant_text (refused 3 sender).code (refused 3 sender).grant ≡ ascii "030000" ++ (10 ∷ [])
unfolding refused grant_text digits digit
three sender = refl

pub holds_no_use : HoldsNoUse
unfolding reply after_line refused
holds_no_use sender text e =
    let r = no_use sender (frame_of text) e in
    record { says = ap (λ (x : Returned). grant_text x.code x.grant) r ∙ three sender; stays = ap (λ (x : Returned). x.bytes) r }

no_bytes : whole_of use_f [] ≡ None
unfolding whole_of use_f via enum
no_bytes = refl

pub holds_no_frame : HoldsNoFrame
holds_no_frame sender text e = holds_no_use sender text (ap (whole_of use_f) e ∙ no_bytes)

pub empty_line : (sender : List ℕ) → AnswersThree sender []
unfolding frame_of undigits
empty_line sender = holds_no_frame sender [] refl
