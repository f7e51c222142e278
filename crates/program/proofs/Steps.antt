-- From what a step leaves to the line's answer. Assumes nothing.
use Rattle.std.specs.Prelude.{Option, Some, None}
use Prim.Native.Nat.{ℕ, ◌+◌, ◌*◌, ◌-◌, ◌≤◌}
use native.Mathlib.Omega.{arith}
use mathlib.Core.Path.{◌≡◌, refl, sym, ap, ◌∙◌, subst}
use mathlib.Core.Bool.{Bool, true, false}
use mathlib.Core.List.{List, [], ◌∷◌, ◌++◌, append-nil}
use borrow.Author.Tests.{le-leb}
use lib.ListN.{length, take, length-append, length-replicate}
use lib.Seq.{take_at, length-take-le}
use Rattle.format.specs.Format.{All, zeros}
use Rattle.model.specs.Calls.{Effect}
use Rattle.model.specs.State.{SyncState}
use Rattle.model.specs.Limits.{document01}
use Rattle.model.specs.Maps.{when◌then◌else◌}
use Rattle.model.specs.Formats.{Bytes, effect_f, enc_effects}
use Rattle.model.specs.Machine.{match◌none:◌some:◌}
use Rattle.model.specs.Sync.{Stepped}
use Rattle.model.specs.Layout.{state_layout}
use Rattle.model.specs.Entry.{Lent, lengths_right, read_state, decode, step_frame, step_bytes, leaves, answered, entry}
use Rattle.model.specs.Entry as model
use Rattle.model.specs.Demands.{Call, lend, call, effects_of}
use Rattle.model.proofs.Theorems.{states_exact, effects_valid}
use Rattle.engine.specs.declared.Answer.{Answer}
use Rattle.engine.specs.Answers.{lent, returned}
use Rattle.engine.proofs.Laws.{by_output}
use Rattle.lines.specs.Lines.{frame_of}
use Rattle.program.specs.Program.{line, answer_bytes, effect_lines, answer_text, bytes_after}
use Rattle.program.specs.Answers.{Effects, Answers, Answered}

-- 0, or the refusal's number
abbrev code_of : Stepped → ℕ
code_of (Stepped.Refused n) = n
code_of (Stepped.Done s es) = 0

text_is : (r : Stepped) → line (answer_bytes (code_of r) (length (effects_of r))) ++ effect_lines (effects_of r) ≡ answer_text r
unfolding effects_of answer_text effect_lines
text_is (Stepped.Refused n) = append-nil (line (answer_bytes n 0))
text_is (Stepped.Done s es) = refl

-- what the entry answers and leaves, by how the step ended
module _ (l : Lent) where
  answered_code : (r : Stepped) → (answered document01 l r).code ≡ code_of r
  unfolding answered leaves
  answered_code (Stepped.Refused n) = refl
  answered_code (Stepped.Done s es) = refl

  answered_length : (r : Stepped) → (answered document01 l r).length ≡ length (enc_effects (effects_of r))
  unfolding answered leaves effects_of enc_effects
  answered_length (Stepped.Refused n) = refl
  answered_length (Stepped.Done s es) = refl

  answered_state : (r : Stepped) → (answered document01 l r).lent.state ≡ bytes_after l.state r
  unfolding answered leaves bytes_after
  answered_state (Stepped.Refused n) = refl
  answered_state (Stepped.Done s es) = refl

  answered_out : (r : Stepped) → (answered document01 l r).lent.out ≡ enc_effects (effects_of r) ++ zeros (length l.out - length (enc_effects (effects_of r)))
  unfolding answered leaves effects_of enc_effects
  answered_out (Stepped.Refused n) = refl
  answered_out (Stepped.Done s es) = refl

module _ (s w o frame : Bytes) (ls : length s ≡ 58543) (lw : length w ≡ 58543) (lo : 32768 ≤ length o) where
  right : lengths_right document01 (lent s w o) ≡ true
  right = sym (by_output s w o ls lw) ∙ le-leb 32768 (length o) lo

  entry_steps : entry document01 (lent s w o) frame ≡ answered document01 (lent s w o) (step_bytes document01 s frame)
  unfolding entry when◌then◌else◌
  entry_steps = rw right

  this_call : Call
  this_call = record { work = w; out = o; frame = frame }

  called : (st : SyncState) → read_state document01 s ≡ Some st → call document01 st this_call ≡ step_frame document01 st (decode frame)
  unfolding call lend when◌then◌else◌ this_call
  called st e =
      let h : (state_layout document01).enc st ≡ s = sym ((states_exact document01 s st).0 e).1 in
      rw (h, right)

  pub told_ok : All effect_f.Ok (effects_of (step_bytes document01 s frame))
  unfolding step_bytes match◌none:◌some:◌ effects_of
  told_ok = go (read_state document01 s) refl
    where
      go : (st : Option SyncState) → read_state document01 s ≡ st → All effect_f.Ok (effects_of (match st none: Stepped.Refused 2 some: (λ s₁. step_frame document01 s₁ (decode frame))))
      go None e = tt
      go (Some st) e = subst (λ (r : Stepped). All effect_f.Ok (effects_of r)) (called st e) (effects_valid document01 st ((states_exact document01 s st).0 e).0 this_call)

  module _ (s' w' o' : Bytes) (a : Answer) (same : length o' ≡ length o) (is : returned a s' w' o' ≡ entry document01 (lent s w o) frame) where
    abbrev pub after : Stepped
    after = step_bytes document01 s frame

    ended : returned a s' w' o' ≡ answered document01 (lent s w o) after
    ended = is ∙ entry_steps

    code_is : a.code ≡ code_of after
    code_is = ap (λ (x : model.Returned). x.code) ended ∙ answered_code (lent s w o) after

    pub length_is : a.length ≡ length (enc_effects (effects_of after))
    length_is = ap (λ (x : model.Returned). x.length) ended ∙ answered_length (lent s w o) after

    pub out_is : o' ≡ enc_effects (effects_of after) ++ zeros (length o - length (enc_effects (effects_of after)))
    out_is = ap (λ (x : model.Returned). x.lent.out) ended ∙ answered_out (lent s w o) after

    goes_on : s' ≡ bytes_after s after
    goes_on = ap (λ (x : model.Returned). x.lent.state) ended ∙ answered_state (lent s w o) after

    pub told_fits : a.length ≤ length o'
    told_fits =
        let l = length_is in
        let n : ℕ = length o - length (enc_effects (effects_of after)) in
        let k : length o' ≡ length (enc_effects (effects_of after)) + n =
        ap length out_is ∙ length-append (enc_effects (effects_of after)) (zeros n) ∙ ap (λ (m : ℕ). length (enc_effects (effects_of after)) + m) (length-replicate {A = ℕ} n 0) in
        omega arith

    -- the effects that were told
    abbrev pub told : Effects (take a.length o')
    told = record {
      es = effects_of after;
      ok = told_ok;
      is = ap (take a.length) out_is
          ∙ take_at (enc_effects (effects_of after)) (zeros (length o - length (enc_effects (effects_of after)))) a.length (sym length_is);
    }

    pub told_long : length (take a.length o') ≡ a.length
    told_long = length-take-le a.length o' told_fits

    -- the answer to the line that holds the frame
    pub answered_line : (l : Bytes) → frame ≡ frame_of l → {text : Bytes} {r : ℕ} → Answers a.code (effects_of after) text r
        → Answered l s s' o' text (record { text = r; effects = a.length })
    answered_line l e A = record {
      fits = A.fits;
      says =
          A.is ∙ ap (λ (n : ℕ). line (answer_bytes n (length (effects_of after))) ++ effect_lines (effects_of after)) code_is
          ∙ text_is after ∙ ap (λ (f : Bytes). answer_text (step_bytes document01 s f)) e;
      fits_out = told_fits;
      tells = told.is ∙ ap (λ (f : Bytes). enc_effects (effects_of (step_bytes document01 s f))) e;
      goes_on = goes_on ∙ ap (λ (f : Bytes). bytes_after s (step_bytes document01 s f)) e;
    }
