-- Nothing else refuses: a step only with 4, 5, 6 or 7, and a call's code names the check that gave it. That a refusal is a step's was shown
-- on the way through every function that keeps the ids. Assumes nothing.
use Rattle.std.specs.Prelude.{Option, Some, None}
use Prim.Native.Nat.{ℕ, ◌≤◌}
use native.Mathlib.Omega.{arith}
use mathlib.Core.Path.{◌≡◌, refl, subst}
use mathlib.Core.List.{[]}
use mathlib.Core.Bool.{Bool, true, false}
use Rattle.model.specs.Calls.{Input}
use Rattle.model.specs.State.{SyncState}
use Rattle.model.specs.Limits.{Limits}
use Rattle.model.specs.Maps.{when◌then◌else◌}
use Rattle.model.specs.Formats.{Bytes}
use Rattle.model.specs.Machine.{Machine, Run, match◌none:◌some:◌}
use Rattle.model.specs.Sync.{Stepped, stepped, step}
use Rattle.model.specs.Entry.{Lent, lengths_right, read_state, decode, step_frame, step_bytes, leaves, answered, entry}
use Rattle.model.specs.Demands.{StepRefusal, no_number, no_place, crowded, no_room, StepsRefuseSo, Coded, wrong_length, no_state, no_input, in_step, accepted, NothingElseRefuses}
use Rattle.model.proofs.Holds.{Holds, stopped, holds}
use Rattle.model.proofs.IdsKept.{apply_sums}

refused_so : {P : Machine → Type 0} (r : Run) (n : ℕ) → Holds P r → stepped r ≡ Stepped.Refused n → StepRefusal n
unfolding stepped
refused_so (Run.refused k) n (stopped r) e = let same : k ≡ n = cc in subst StepRefusal same r
refused_so (Run.ok m) n (holds h) e = absurd (let z : ◌≡◌ {A = ℕ} 0 1 = cc in omega arith)

pub steps_refuse_so : StepsRefuseSo
unfolding step
steps_refuse_so limits s input n e = refused_so _ n (apply_sums [] input _ _ refl) e

step_within : {n : ℕ} → StepRefusal n → n ≤ 7
step_within no_number = omega arith
step_within no_place = omega arith
step_within crowded = omega arith
step_within no_room = omega arith

module _ (limits : Limits) (lent : Lent) (frame : Bytes) where
  code_within : {n : ℕ} → Coded limits lent frame n → n ≤ 7
  code_within (wrong_length l) = omega arith
  code_within (no_state l e) = omega arith
  code_within (no_input l e d) = omega arith
  code_within (in_step l e d h r) = step_within r
  code_within (accepted l e d h) = omega arith

  coded_step : (s : SyncState) (input : Input) (r : Stepped) → lengths_right limits lent ≡ true → read_state limits lent.state ≡ Some s → decode frame ≡ Some input
      → step limits s input ≡ r → Coded limits lent frame (answered limits lent r).code
  unfolding answered leaves
  coded_step s input (Stepped.Refused n) l e d h = in_step l e d h (steps_refuse_so limits s input n h)
  coded_step s input (Stepped.Done s' out) l e d h = accepted l e d h

  coded : (b : Bool) (o : Option SyncState) (i : Option Input) → lengths_right limits lent ≡ b → read_state limits lent.state ≡ o → decode frame ≡ i
      → Coded limits lent frame (when b then answered limits lent (match o none: Stepped.Refused 2 some: (λ s. step_frame limits s i)) else record { code = 1; length = 0; lent = lent }).code
  unfolding when◌then◌else◌ match◌none:◌some:◌ step_frame answered leaves
  coded true None i l e d = no_state l e
  coded true (Some s) None l e d = no_input l e d
  coded true (Some s) (Some input) l e d = coded_step s input (step limits s input) l e d refl
  coded false o i l e d = wrong_length l

  code_only : (n : ℕ) → Coded limits lent frame n → (entry limits lent frame).code ≡ n
  unfolding entry step_bytes when◌then◌else◌ match◌none:◌some:◌ step_frame answered leaves
  code_only n (wrong_length l) = rw l
  code_only n (no_state l e) = rw (l, e)
  code_only n (no_input l e d) = rw (l, e, d)
  code_only n (in_step l e d h r) = rw (l, e, d, h)
  code_only n (accepted l e d h) = rw (l, e, d, h)

pub nothing_else_refuses : NothingElseRefuses
unfolding entry step_bytes
nothing_else_refuses limits lent frame =
    let why = coded limits lent frame (lengths_right limits lent) (read_state limits lent.state) (decode frame) refl refl refl in
    record { why = why; only = code_only limits lent frame; within = code_within limits lent frame why }
