-- docs/FRAMES.md, "The entry": what a call of `step` answers and what it leaves in the lent buffers, for all bytes. Assumes nothing.
use Rattle.std.specs.Prelude.{ℕ, ◌-◌, ◌≡◌, [], ◌++◌, Bool, ◌&&◌, leb, eqb, Option, Some, None}
use Rattle.std.proofs.Math.ListN
use Rattle.format.specs.Format.{whole_of, zeros}
use Rattle.model.specs.Calls.{Input}
use Rattle.model.specs.State.{SyncState}
use Rattle.model.specs.Limits.{Limits, max_effects}
use Rattle.model.specs.Maps.{when◌then◌else◌}
use Rattle.model.specs.Formats.{Bytes, input_f, enc_effects}
use Rattle.model.specs.Sizes.{buffer_length}
use Rattle.model.specs.WellFormed.{WellFormed}
use Rattle.model.specs.Layout.{state_layout}
use Rattle.model.specs.Machine.{match◌none:◌some:◌}
use Rattle.model.specs.Sync.{Stepped, step}

-- what a call is lent besides its frame
pub record Lent : Type 0 where
  pub state : Bytes
  pub work : Bytes
  pub out : Bytes

pub record Returned : Type 0 where
  -- 0, or the refusal's number
  pub code : ℕ
  -- how many bytes of the output the effects take
  pub length : ℕ
  -- the buffers as the call leaves them
  pub lent : Lent

-- state and work have the one fixed length, the output at least 32,768
unfoldable pub lengths_right : Limits → Lent → Bool
lengths_right limits lent =
    eqb (ListN.length lent.state) (buffer_length limits) && (eqb (ListN.length lent.work) (buffer_length limits)
    && leb max_effects (ListN.length lent.out))

-- the bytes are those of a well-formed state
pub record WellFormedBytes (limits : Limits) (bytes : Bytes) : Type 0 where
  pub state : SyncState
  pub well : WellFormed limits state
  pub is : bytes ≡ (state_layout limits).enc state

-- the state whose bytes these are, if there is a well-formed one
unfoldable pub read_state : Limits → Bytes → Option SyncState
read_state limits bytes = whole_of (state_layout limits) bytes

-- exactly one input frame
unfoldable pub decode : Bytes → Option Input
decode frame = whole_of input_f frame

unfoldable pub step_frame : Limits → SyncState → Option Input → Stepped
step_frame limits s None = Stepped.Refused 3
step_frame limits s (Some input) = step limits s input

-- after every call but one refused with 1: work is zero, and the output past the effects
unfoldable pub leaves : ℕ → Bytes → Bytes → Lent → Returned
leaves code state effects lent = record {
  code = code;
  length = ListN.length effects;
  lent = record {
    state = state;
    work = zeros (ListN.length lent.work);
    out = effects ++ zeros (ListN.length lent.out - ListN.length effects);
  };
}

unfoldable pub answered : Limits → Lent → Stepped → Returned
answered limits lent (Stepped.Refused n) = leaves n lent.state [] lent
answered limits lent (Stepped.Done s out) = leaves 0 ((state_layout limits).enc s) (enc_effects out) lent

-- a step on the bytes of a state and of a frame: refusal 2, refusal 3, or what the step gives
unfoldable pub step_bytes : Limits → Bytes → Bytes → Stepped
step_bytes limits state frame =
    match read_state limits state none: Stepped.Refused 2 some: (λ s. step_frame limits s (decode frame))

-- checks run 1, 2, 3; refusal 1 touches nothing
unfoldable pub entry : Limits → Lent → Bytes → Returned
entry limits lent frame =
    when lengths_right limits lent then answered limits lent (step_bytes limits lent.state frame)
    else record { code = 1; length = 0; lent = lent }
