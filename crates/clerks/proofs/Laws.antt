-- What is printed for the one line of an input: each law's premises are what the callees ensure. Assumes nothing.
use Rattle.std.specs.Prelude.{Option, Some, None, option_map}
use Prim.Native.Nat.{ℕ, suc, ◌<◌}
use mathlib.Core.Path.{◌≡◌, refl, sym, ap, ◌∙◌}
use mathlib.Core.Bool.{true, false}
use mathlib.Core.List.{List, [], ◌∷◌, ◌++◌, map}
use lib.ListN.{length, take}
use lib.Seq.{take-take}
use Rattle.model.specs.Machine.{match◌none:◌some:◌}
use Rattle.lines.specs.Lines.{max_digits, frame_of}
use Rattle.lines.proofs.Theorems.{cut_same}
use Rattle.input.specs.Input.{lines_of}
use Rattle.input.specs.Only.{only, OnlyRead}
use Rattle.clerks_model.specs.Answer.{Answer, no_frame, two_clerks}
use Rattle.clerks_lines.specs.Text.{line, decimal, text_of, Starts}
use Rattle.clerks.specs.Printed.{printed, Prints}

-- of a line that is too long, what the buffer keeps tells
frame_cut : (n : ℕ) (s : List ℕ) → max_digits < n → frame_of (take n s) ≡ frame_of s
frame_cut n s h = sym (cut_same (take n s)) ∙ ap frame_of (take-take (suc max_digits) n s h) ∙ cut_same s

answer_to : Option (List ℕ) → List ℕ
answer_to o = match o none: text_of (Answer.Refused no_frame) some: (λ text. text_of (two_clerks (frame_of text)))

printed_cut : (n : ℕ) (lines : List (List ℕ)) → max_digits < n → answer_to (only (map (take n) lines)) ≡ answer_to (only lines)
unfolding answer_to match◌none:◌some:◌ only
printed_cut n [] h = refl
printed_cut n (s ∷ []) h = ap (λ (f : List ℕ). text_of (two_clerks f)) (frame_cut n s h)
printed_cut n (s ∷ t ∷ lines) h = refl

module _ {left kept text : List ℕ} {r : ℕ} {o : Option ℕ} (O : OnlyRead left kept o) (long : max_digits < length kept) where
  prints : Starts (answer_to (option_map (λ have. take have kept) o)) text r → Prints left text r
  unfolding printed answer_to
  prints S = record { more = O.more; is = rw (O.is, printed_cut (length kept) (lines_of (left ++ O.more)) long) at S }

  pub prints_line : (have : ℕ) → o ≡ Some have → Starts (text_of (two_clerks (frame_of (take have kept)))) text r → Prints left text r
  unfolding answer_to match◌none:◌some:◌
  prints_line have e S = prints (rw e S)

  pub prints_none : o ≡ None → Starts (line (decimal no_frame)) text r → Prints left text r
  unfolding answer_to match◌none:◌some:◌ text_of
  prints_none e S = prints (rw e S)
