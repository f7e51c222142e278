-- From what the functions promise to the model's `entry`. Assumes nothing.
use Rattle.std.specs.Prelude.{Option, Some, None}
use Prim.Native.Nat.{ℕ, ◌≤◌}
use native.Mathlib.Omega.{arith}
use mathlib.Core.Path.{◌≡◌, refl, sym, ap, ap₂, ◌∙◌, subst}
use mathlib.Core.List.{List, [], ◌++◌}
use mathlib.Core.Bool.{true, false}
use lib.ListN.{length, take, drop}
use lib.Seq.{length-take-le, take-take, take_at}
use Rattle.format.specs.Format.{whole_of}
use Rattle.spans.specs.Bytes.{zeros}
use Rattle.model.specs.State.{SyncState}
use Rattle.model.specs.Calls.{Input}
use Rattle.model.specs.Limits.{document01, max_effects}
use Rattle.model.specs.Maps.{when◌then◌else◌}
use Rattle.model.specs.Formats.{input_f, enc_effects}
use Rattle.model.specs.Machine.{Machine, Run, match◌none:◌some:◌}
use Rattle.model.specs.Sync.{stepped, start, step, apply}
use Rattle.model.specs.Layout.{state_layout}
use Rattle.model.specs.Entry.{lengths_right, read_state, decode, step_frame, step_bytes, leaves, answered, entry}
use Rattle.model.proofs.Theorems.{accepted}
use Rattle.frame.specs.declared.Input as parsed
use Rattle.frame.specs.declared.Parsed.{Parsed}
use Rattle.frame.specs.declared.Parsed.TheVariants.{Frame, NoFrame}
use Rattle.frame.specs.Meaning.{meant_input, meant_parsed, reading_of}
use Rattle.frame.proofs.Whole.{reading_none, reading_some}
use Rattle.state.specs.Contract.{Keeps, HasState}
use Rattle.layout.proofs.Bytes.{layout_is}
use Rattle.wellformed.specs.IsState.{IsState}
use Rattle.wellformed.proofs.States.{keeps_of, read_of, is_read}
use Rattle.machine.specs.declared.Progress.{Progress}
use Rattle.machine.specs.Contract.{Holds, Ran, Does}
use Rattle.engine.specs.declared.Answer.{Answer}
use Rattle.engine.specs.Answers.{lent, returned, fresh, room, Ends, Steps}
use Rattle.engine.proofs.Laws.{copied, refused_is}

-- ---- which bytes are read as a state

pub has_state : {b : List ℕ} → IsState b → HasState b
has_state I = record { state = I.state; keeps = keeps_of I }

pub not_read : (b : List ℕ) → (IsState b → ⊥) → read_state document01 b ≡ None
not_read b n = go (read_state document01 b) refl
  where
    go : (o : Option SyncState) → read_state document01 b ≡ o → read_state document01 b ≡ None
    go None e = e
    go (Some s) e = absurd (n (is_read e))

-- ---- a step

held : (s : SyncState) (w o : List ℕ) → Keeps s w → 32768 ≤ length o → Holds (start document01 s) w (room o) 0
unfolding start enc_effects max_effects
held s w o k h = record {
  limits = refl;
  keeps = k;
  sent = record { bytes = refl; place = refl; fits = omega arith; room = length-take-le 32768 o h };
}

-- the output's part is handed back
pub part_back : {f : Machine → Run} {w w' : List ℕ} {q : Progress} (n : ℕ) (o o₁ : List ℕ) → n ≤ length o → length o₁ ≡ length (take n o)
    → Does f w (take n o) fresh q w' o₁ → Does f w (take n o) fresh q w' (take n (o₁ ++ drop n o))
part_back {f} {w} {w'} {q} n o o₁ h l D =
    subst (λ (x : List ℕ). Does f w (take n o) fresh q w' x) (sym (take_at o₁ (drop n o) n (l ∙ length-take-le n o h))) D

-- only the lengths of work and output count
leaves_same : (code : ℕ) (s e w o w' o' x y : List ℕ) → length w' ≡ length w → length o' ≡ length o → leaves code s e (lent x w' o') ≡ leaves code s e (lent y w o)
unfolding leaves
leaves_same code s e w o w' o' x y a b = rw (a, b)

module _ (s w o w' o' : List ℕ) (q : Progress) (a : Answer) (s'' w'' o'' : List ℕ) (lw : length w' ≡ length w) (lo : length o' ≡ length o) (E : Ends q s w' o' a s'' w'' o'') where
  ran_answered : (r : Run) → Ran r q w' (room o') → returned a s'' w'' o'' ≡ answered document01 (lent s w o) (stepped r)
  unfolding Ran answered stepped max_effects
  ran_answered (Run.refused n) h =
      E.refused (λ z. h.1 (sym h.0 ∙ z)) ∙ ap (λ (c : ℕ). leaves c s [] (lent s w' o')) h.0 ∙ leaves_same n s [] w o w' o' s s lw lo
  ran_answered (Run.ok m) h =
      let k = h.1.keeps in
      let t = h.1.sent in
      let d : q.at ≤ 32768 = subst (λ (n : ℕ). q.at ≤ n) t.room t.fits in
      let x : w' ≡ (state_layout document01).enc m.state = k.bytes ∙ layout_is document01 m.state k.fits in
      let y : take q.at o' ≡ enc_effects m.out = sym (take-take q.at 32768 o' d) ∙ t.bytes in
      E.accepted h.0 ∙ ap₂ (λ (u v : List ℕ). leaves 0 u v (lent s w' o')) x y
      ∙ leaves_same 0 ((state_layout document01).enc m.state) (enc_effects m.out) w o w' o' s s lw lo

-- the work buffer holds a copy of the state, `apply` ran on it, and the call ended
pub steps : (i : Input) (s w o w₁ w' o' : List ℕ) (q : Progress) (a : Answer) (s'' w'' o'' : List ℕ) → 32768 ≤ length o → w₁ ≡ s → length w' ≡ length w → length o' ≡ length o
    → Does (apply i) w₁ (room o) fresh q w' (room o') → Ends q s w' o' a s'' w'' o'' → Steps i s w o a s'' w'' o''
unfolding step
steps i s w o w₁ w' o' q a s'' w'' o'' h e lw lo D E = record {
  is = λ x k. ran_answered s w o w' o' q a s'' w'' o'' lw lo E (apply i (start document01 x)) (D.run refl (start document01 x) (held x w₁ o (subst (Keeps x) (sym e) k) h));
}

-- the effects end within the output
fits_out : (o' : List ℕ) (w' : List ℕ) (q : Progress) (r : Run) → Ran r q w' (room o') → 32768 ≤ length o' → q.code ≡ 0 → q.at ≤ length o'
unfolding Ran max_effects
fits_out o' w' q (Run.refused n) h l z = absurd (h.1 (sym h.0 ∙ z))
fits_out o' w' q (Run.ok m) h l z =
    let t = h.1.sent in
    let d : q.at ≤ 32768 = subst (λ (n : ℕ). q.at ≤ n) t.room t.fits in
    omega arith

pub within : (i : Input) (s w₁ o w' o' : List ℕ) (q : Progress) → 32768 ≤ length o → length o' ≡ length o → w₁ ≡ s → HasState s
    → Does (apply i) w₁ (room o) fresh q w' (room o') → q.code ≡ 0 → q.at ≤ length o'
within i s w₁ o w' o' q l lo e H D z =
    fits_out o' w' q (apply i (start document01 H.state)) (D.run refl (start document01 H.state) (held H.state w₁ o (subst (Keeps H.state) (sym e) H.keeps) l)) (subst (λ (n : ℕ). 32768 ≤ n) (sym lo) l) z

-- the work buffer after the state was copied there
pub copy_is : (dst src w₁ : List ℕ) → HasState src → length dst ≡ 58543 → w₁ ≡ src ++ drop (length src) dst → w₁ ≡ src
copy_is dst src w₁ H l e = e ∙ copied dst src (l ∙ sym H.keeps.long)

pub copy_state : (dst src w₁ : List ℕ) → HasState src → length dst ≡ 58543 → w₁ ≡ src ++ drop (length src) dst → HasState w₁
copy_state dst src w₁ H l e = subst HasState (sym (copy_is dst src w₁ H l e)) H

pub as_long : (s w w₁ w' : List ℕ) → HasState s → length w ≡ 58543 → length w₁ ≡ length w → length w' ≡ length w₁ → length s ≡ length w'
as_long s w w₁ w' H l a b = H.keeps.long ∙ sym (b ∙ a ∙ l)

-- ---- the entry

module _ (s w o frame : List ℕ) where
  -- refusal 1
  pub wrong_lengths : (a : Answer) → a.code ≡ 1 → a.length ≡ 0 → false ≡ lengths_right document01 (lent s w o) → returned a s w o ≡ entry document01 (lent s w o) frame
  unfolding entry when◌then◌else◌
  wrong_lengths a e h l = rw (← l, e, h)

  -- refusal 2
  pub no_state : (a : Answer) (w' o' : List ℕ) → true ≡ lengths_right document01 (lent s w o) → (IsState s → ⊥)
      → (a.code ≡ 2) × (a.length ≡ 0) × (w' ≡ zeros (length w)) × (o' ≡ zeros (length o)) → returned a s w' o' ≡ entry document01 (lent s w o) frame
  unfolding entry step_bytes when◌then◌else◌ match◌none:◌some:◌ answered
  no_state a w' o' l n e = rw (← l, not_read s n) (refused_is a 2 s w o w' o' e.0 e.1 e.2 e.3)

  -- refusal 3
  pub no_frame : (a : Answer) (w' o' : List ℕ) → true ≡ lengths_right document01 (lent s w o) → IsState s → None ≡ whole_of input_f frame
      → (a.code ≡ 3) × (a.length ≡ 0) × (w' ≡ zeros (length w)) × (o' ≡ zeros (length o)) → returned a s w' o' ≡ entry document01 (lent s w o) frame
  unfolding entry step_bytes when◌then◌else◌ match◌none:◌some:◌ decode step_frame answered
  no_frame a w' o' l I d e = rw (← l, read_of I, ← d) (refused_is a 3 s w o w' o' e.0 e.1 e.2 e.3)

  -- the frame is an input
  pub entered : (a : Answer) (i : Input) (s' w' o' : List ℕ) → true ≡ lengths_right document01 (lent s w o) → IsState s → Some i ≡ whole_of input_f frame
      → Steps i s w o a s' w' o' → returned a s' w' o' ≡ entry document01 (lent s w o) frame
  unfolding entry step_bytes when◌then◌else◌ match◌none:◌some:◌ decode step_frame
  entered a i s' w' o' l I d S = S.is I.state (keeps_of I) ∙ rw (← l, read_of I, ← d)

  -- what the frame was read as
  pub no_input : (r : Parsed) → r ≡ NoFrame → meant_parsed frame r ≡ reading_of (whole_of input_f frame) → None ≡ whole_of input_f frame
  no_input r e h = reading_none (whole_of input_f frame) (sym (ap (meant_parsed frame) e) ∙ h)

  pub some_input : (r : Parsed) (i : parsed.Input) → r ≡ Frame i → meant_parsed frame r ≡ reading_of (whole_of input_f frame) → Some (meant_input frame i) ≡ whole_of input_f frame
  some_input r i e h = reading_some (meant_input frame i) (whole_of input_f frame) (sym (ap (meant_parsed frame) e) ∙ h)

  pub input_ok : (i : Input) → Some i ≡ whole_of input_f frame → input_f.Ok i
  input_ok i d = ((accepted frame i).0 (sym d)).0
