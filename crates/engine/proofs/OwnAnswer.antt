-- Change request 9/13, of calls of `step`. Assumes nothing.
use Rattle.std.specs.Prelude.{Some}
use Rattle.format.proofs.Options.{Some-injective}
use Prim.Native.Nat.{ℕ, ◌-◌}
use native.Mathlib.Omega.{arith}
use mathlib.Core.Path.{◌≡◌, sym, ap, ap₂, ◌∙◌, subst}
use mathlib.Core.List.{List, ◌++◌}
use mathlib.Core.Bool.{true}
use lib.ListN.{length, take}
use lib.Seq.{take-append_seam}
use lib.Dec.{T}
use Rattle.format.specs.Format.{zeros, All}
use Rattle.model.specs.Calls.{Input, Effect}
use Rattle.model.specs.State.{SyncState}
use Rattle.model.specs.Limits.{document01}
use Rattle.model.specs.Maps.{when◌then◌else◌}
use Rattle.model.specs.Formats.{Bytes, input_f, effect_f, enc_effects}
use Rattle.model.specs.Sync.{Stepped, step}
use Rattle.model.specs.Layout.{state_layout}
use Rattle.model.specs.Entry.{Returned, lengths_right, read_state, decode, step_frame, leaves, answered}
use Rattle.model.specs.Demands.{lend, call, effects_of, StepRefusal, no_number, no_place, crowded, no_room, Coded, wrong_length, no_state, no_input, in_step, accepted}
use Rattle.model.specs.OwnAnswer.{UpdateSent}
use Rattle.model.proofs.Bytes.{read_ends, update_stands}
use Rattle.model.proofs.Theorems as model
use Rattle.engine.specs.Demands.{Called, plain}
use Rattle.engine.specs.OwnAnswer.{Decoded, CrowdedCall, AcceptedCall, OwnAnswerOnly}
use Rattle.engine.proofs.Theorems.{demand_2, nothing_else}

-- ---- what the code says of what was lent

module _ (c : Called) where
  decoded : (s : SyncState) (input : Input) → read_state document01 c.lent.state ≡ Some s → decode c.frame ≡ Some input → Decoded c
  unfolding decode
  decoded s input e d =
      let p = (model.states_exact document01 c.lent.state s).0 e in
      let q = (model.accepted c.frame input).0 d in
      record { state = s; well = p.0; buffer = p.1; input = input; valid = q.0; frame = q.1 }

  crowded_call : (n : ℕ) → Coded document01 c.lent c.frame n → n ≡ 6 → CrowdedCall c
  unfolding decode decoded
  crowded_call n (wrong_length l) z = absurd (omega (arith, z))
  crowded_call n (no_state l e) z = absurd (omega (arith, z))
  crowded_call n (no_input l e d) z = absurd (omega (arith, z))
  crowded_call n (in_step {s = s} {input = input} l e d h r) z = record {
    decoded = decoded s input e d;
    owners = model.only_owners_crowd document01 s input ((model.accepted c.frame input).0 d).0 (h ∙ ap Stepped.Refused z);
  }
  crowded_call n (accepted l e d h) z = absurd (omega (arith, z))

  -- whoever holds the state and the input, the step on them was refused
  refused_with : (h : Decoded c) (k : ℕ) → Coded document01 c.lent c.frame k → k ≡ 6 → step document01 h.state h.input ≡ Stepped.Refused 6
  unfolding decode
  refused_with h k (wrong_length l) z = absurd (omega (arith, z))
  refused_with h k (no_state l e) z = absurd (omega (arith, z))
  refused_with h k (no_input l e d) z = absurd (omega (arith, z))
  refused_with h k (in_step {s = s} {input = input} l e d r why) z =
      let states : s ≡ h.state = Some-injective s h.state (sym e ∙ (model.states_exact document01 c.lent.state h.state).1 (h.well, h.buffer)) in
      let inputs : input ≡ h.input = Some-injective input h.input (sym d ∙ (model.accepted c.frame h.input).1 (h.valid, h.frame)) in
      ap₂ (λ (s : SyncState) (i : Input). step document01 s i) (sym states) (sym inputs) ∙ r ∙ ap Stepped.Refused z
  refused_with h k (accepted l e d r) z = absurd (omega (arith, z))

  refused_not_0 : (n : ℕ) → StepRefusal n → n ≡ 0 → ⊥
  refused_not_0 n no_number z = omega (arith, z)
  refused_not_0 n no_place z = omega (arith, z)
  refused_not_0 n crowded z = omega (arith, z)
  refused_not_0 n no_room z = omega (arith, z)

  -- the effects of the step are those of the model's call, and so valid
  call_is : (s : SyncState) (input : Input) (r : Stepped) → lengths_right document01 c.lent ≡ true → c.lent.state ≡ (state_layout document01).enc s → decode c.frame ≡ Some input
      → step document01 s input ≡ r → call document01 s (plain c) ≡ r
  unfolding call lend when◌then◌else◌ step_frame
  call_is s input r l b d h =
      let l' : lengths_right document01 (lend document01 s (plain c)) ≡ true =
      subst (λ (b : Bytes). lengths_right document01 (record { state = b; work = c.lent.work; out = c.lent.out }) ≡ true) b l in
      rw (l', d) h

  accepted_call : (s s' : SyncState) (input : Input) (out : List Effect) → lengths_right document01 c.lent ≡ true → read_state document01 c.lent.state ≡ Some s
      → decode c.frame ≡ Some input → step document01 s input ≡ Stepped.Done s' out → AcceptedCall c
  unfolding answered leaves effects_of decoded
  accepted_call s s' input out l e d h =
      let H : Decoded c = decoded s input e d in
      let answer_is : c.answer ≡ answered document01 c.lent (Stepped.Done s' out) =
      (demand_2 c s H.well input H.valid).same (subst T (sym l) tt) H.buffer H.frame ∙ ap (answered document01 c.lent) h in
      let valid : All effect_f.Ok out =
      subst (λ (r : Stepped). All effect_f.Ok (effects_of r)) (call_is s input (Stepped.Done s' out) l H.buffer d h) (model.effects_valid document01 s H.well (plain c)) in
      let output : take c.answer.length c.answer.lent.out ≡ enc_effects out =
      ap (λ (a : Returned). take a.length a.lent.out) answer_is ∙ take-append_seam (enc_effects out) (zeros (length c.lent.out - length (enc_effects out))) in
      record {
        decoded = H;
        effects = out;
        valid = valid;
        output = output;
        only = λ es v q. model.effects_unique es out v valid (sym q ∙ output);
        updates = λ before after n r v event q.
            let sent : UpdateSent s input r event = model.updates_sent_so document01 s input before after n r v event (ap effects_of h ∙ q) in
            let read = read_ends sent.read.number sent.read.theirs in
            let stands = update_stands before after n r v event (zeros (length c.lent.out - length (enc_effects out))) in
            record {
              sent = sent;
              front = read.front;
              frame = H.frame ∙ ap input_f.enc sent.read.answers ∙ read.is;
              before = stands.before;
              after = stands.after;
              output = ap (λ (a : Returned). a.lent.out) answer_is
                  ∙ ap (λ (es : List Effect). enc_effects es ++ zeros (length c.lent.out - length (enc_effects out))) q ∙ stands.is;
            };
      }

  accepted_code : (n : ℕ) → Coded document01 c.lent c.frame n → n ≡ 0 → AcceptedCall c
  accepted_code n (wrong_length l) z = absurd (omega (arith, z))
  accepted_code n (no_state l e) z = absurd (omega (arith, z))
  accepted_code n (no_input l e d) z = absurd (omega (arith, z))
  accepted_code n (in_step l e d h r) z = absurd (refused_not_0 n r z)
  accepted_code n (accepted {s = s} {input = input} {s' = s'} {out = out} l e d h) z = accepted_call s s' input out l e d h

pub own_answer_only : (c : Called) → OwnAnswerOnly c
own_answer_only c = record {
  never = λ h resource read address e six. model.no_attendee_crowds document01 h.state h.input h.valid resource read address e
      (refused_with c h c.answer.code (nothing_else c).why six);
  crowded = crowded_call c c.answer.code (nothing_else c).why;
  accepted = accepted_code c c.answer.code (nothing_else c).why;
}
