-- What the functions of this crate cite: each law's premises are what the callees ensure. Assumes nothing.
use Prim.Native.Nat.{ℕ, ◌+◌, ◌*◌, ◌≤◌}
use native.Mathlib.Omega.{arith}
use mathlib.Core.Path.{◌≡◌, sym, ap, ap₂, ◌∙◌}
use mathlib.Core.Bool.{Bool, true, false, not}
use mathlib.Core.List.{List, [], ◌∷◌, ◌++◌, append-nil}
use lib.ListN.{length, length-append}
use lib.Seq.{length-take-le}
use Rattle.format.specs.Format.{via, enum, concat_map}
use Rattle.lines.specs.Lines.{frame_of, digits, Puts}
use Rattle.lines.proofs.Laws.{length_digits, puts_taken}
use Rattle.model.specs.Calls.{Effect}
use Rattle.model.specs.Limits.{document01, max_effects}
use Rattle.model.specs.Formats.{Bytes, effect_f, enc_effects}
use Rattle.model.specs.Sync.{Stepped}
use Rattle.model.specs.Entry.{step_bytes}
use Rattle.model.specs.Demands.{effects_of}
use Rattle.looks.specs.Look.{look_line}
use Rattle.looks.proofs.Held.{look_within, look_bytes_are}
use Rattle.program.specs.Program.{line, answer_bytes, effect_lines, answer_text}
use Rattle.program.specs.Answers.{Answered}
use Rattle.program.specs.declared.Reply.{Reply}
use Rattle.serve.specs.Serves.{after_line, reply, text_bytes, Replies, Replied}

-- ---- the room that an answer takes

line_long : (s : Bytes) → length (line s) ≡ length s + length s + 1
line_long s = length-append (digits s) (10 ∷ []) ∙ ap (λ (n : ℕ). n + 1) (length_digits s)

-- an effect takes a byte at least, so its line at most three times its bytes
lines_short : (es : List Effect) → length (effect_lines es) ≤ 3 * length (enc_effects es)
unfolding effect_lines enc_effects effect_f via enum
lines_short [] = omega arith
lines_short (e ∷ es) =
    let h = lines_short es in
    let b : Bytes = effect_f.enc e in
    let l = length-append (line b) (effect_lines es) in
    let m = length-append b (concat_map effect_f.enc es) in
    let n = line_long b in
    omega arith

text_short : (r : Stepped) → length (answer_text r) ≤ 7 + 3 * length (enc_effects (effects_of r))
unfolding answer_text effects_of
text_short (Stepped.Refused n) = let l = line_long (answer_bytes n 0) in omega arith
text_short (Stepped.Done s es) =
    let a = length-append (line (answer_bytes 0 (length es))) (effect_lines es) in
    let l = line_long (answer_bytes 0 (length es)) in
    let e = lines_short es in
    omega arith

module _ {l state state' out' text' : Bytes} {r : Reply} (A : Answered l state state' out' text' r) where
  answer_room : length out' ≡ 32768 → r.text ≤ 98311
  answer_room o =
      let t = ap length A.says in
      let e = ap length A.tells in
      let m = length-take-le r.text text' A.fits in
      let n = length-take-le r.effects out' A.fits_out in
      let s = text_short (step_bytes document01 state (frame_of l)) in
      let f = A.fits_out in
      omega arith

  -- there is room for what can be read of the state behind the answer
  pub look_room : length out' ≡ 32768 → text_bytes ≤ length text' → r.text + length (look_line state') ≤ length text'
  unfolding text_bytes max_effects
  look_room o h =
      let a = answer_room o in
      let w = look_within state' in
      omega arith

  pub replies_alone : (look : Bool) → not look ≡ true → Replies look l state state' text' r.text
  unfolding reply after_line
  replies_alone true e = absurd (let z : ◌≡◌ {A = ℕ} 0 1 = cc in omega arith)
  replies_alone false e = record { fits = A.fits; says = A.says ∙ sym (append-nil (answer_text (step_bytes document01 state (frame_of l)))); goes_on = A.goes_on }

  pub replies_look : (look : Bool) (text'' : Bytes) (end : ℕ) → not look ≡ false → length text'' ≡ length text' → length out' ≡ 32768 → text_bytes ≤ length text' → Puts (look_line state') text' text'' r.text end → Replies look l state state' text'' end
  unfolding reply after_line
  replies_look true text'' end e s o h P =
      let m = look_room o h in
      let p = P.place in
      record {
        fits = omega arith;
        says = puts_taken P m ∙ ap₂ (λ (x y : Bytes). x ++ look_line y) A.says A.goes_on;
        goes_on = A.goes_on;
      }
  replies_look false text'' end e s o h P = absurd (let z : ◌≡◌ {A = ℕ} 0 1 = cc in omega arith)

pub replied : {look : Bool} {l state state' text' : Bytes} {n : ℕ} → Replies look l state state' text' n → Replied look l state state' text'
replied {n = n} R = record { length_of = n; is = R }

pub text_bytes_are : text_bytes ≡ 117478
unfolding text_bytes max_effects
text_bytes_are = rw look_bytes_are
