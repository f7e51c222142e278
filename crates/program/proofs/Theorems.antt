-- A line that holds no frame, or bytes that are no input, is answered by 030000 from every state, and the state stays. Assumes nothing.
use Rattle.std.specs.Prelude.{Option, Some, None, option_and_then}
use Prim.Native.Nat.{ℕ, zero, suc, ◌+◌, ◌*◌}
use native.Mathlib.Omega.{arith}
use mathlib.Core.Path.{◌≡◌, refl, sym, ap, ◌∙◌}
use mathlib.Core.Bool.{Bool, true, false, ◌&&◌, cond}
use mathlib.Core.List.{List, [], ◌∷◌, ◌++◌}
use borrow.Author.Tests.{lt-leb}
use lib.ListN.{length}
use lib.Dec.{leb, ltb}
use Rattle.lines.specs.Lines.{digit, digits, value, pair, before, undigits, held, max_digits, frame_of}
use Rattle.lines.proofs.Laws.{frame_long, frame_odd}
use Rattle.model.specs.Event.{ascii}
use Rattle.model.specs.State.{SyncState}
use Rattle.model.specs.Limits.{document01}
use Rattle.model.specs.Formats.{Bytes}
use Rattle.model.specs.Machine.{match◌none:◌some:◌}
use Rattle.model.specs.Sync.{Stepped}
use Rattle.model.specs.Entry.{read_state, decode, step_frame, step_bytes}
use Rattle.model.proofs.Theorems.{no_bytes}
use Rattle.program.specs.Program.{answer_text, bytes_after}
use Rattle.program.specs.Frameless.{long, odd, empty, other, AnswersThree, NoInput, EmptyFrame, Frameless}

-- ---- the digits of no bytes

before_none : (o : Option ℕ) → before o None ≡ None
before_none None = refl
before_none (Some b) = refl

-- a byte that is no digit makes no pair
first_other : (a b : ℕ) → value a ≡ None → pair a b ≡ None
unfolding pair
first_other a b e = rw e

abbrev no_byte : ℕ → Option ℕ
no_byte high = None

-- nothing comes of a pair whose second half is none
none_after : (o : Option ℕ) → option_and_then no_byte o ≡ None
none_after None = refl
none_after (Some high) = refl

second_other : (a b : ℕ) → value b ≡ None → pair a b ≡ None
unfolding pair
second_other a b e = rw e (none_after (value a))

other_none : (front : Bytes) (byte : ℕ) (back : Bytes) → value byte ≡ None → undigits (front ++ byte ∷ back) ≡ None
unfolding undigits
other_none [] byte [] e = refl
other_none [] byte (b ∷ back) e = ap (λ (o : Option ℕ). before o (undigits back)) (first_other byte b e)
other_none (a ∷ []) byte back e = ap (λ (o : Option ℕ). before o (undigits back)) (second_other a byte e)
other_none (a ∷ b ∷ front) byte back e = ap (before (pair a b)) (other_none front byte back e) ∙ before_none (pair a b)

empty_held : (b : Bool) (o : Option Bytes) → o ≡ None → cond b (held o) [] ≡ []
empty_held true o e = rw e
empty_held false o e = refl

pub frameless : Frameless
unfolding frame_of undigits
frameless line (long h) = sym (frame_long line h)
frameless line (odd half e) = sym (frame_odd line (omega arith))
frameless line empty = refl
frameless line (other front byte back e) = empty_held (leb (length line) max_digits) (undigits line) (other_none front byte back e)

-- ---- the answer

-- the answer's line is the digits of 03 00 00
three : answer_text (Stepped.Refused 3) ≡ ascii "030000" ++ (10 ∷ [])
unfolding answer_text digits digit
three = refl

refused_3 : (state : Bytes) (s : SyncState) → read_state document01 state ≡ Some s → (frame : Bytes) → decode frame ≡ None → step_bytes document01 state frame ≡ Stepped.Refused 3
unfolding step_bytes match◌none:◌some:◌ step_frame
refused_3 state s e frame d = rw (e, d)

pub no_input : NoInput
unfolding bytes_after
no_input state s e line d =
    let r = refused_3 state s e (frame_of line) d in
    record { says = ap answer_text r ∙ three; stays = ap (bytes_after state) r }

pub empty_frame : EmptyFrame
empty_frame state s e line h = no_input state s e line (ap decode h ∙ no_bytes)
