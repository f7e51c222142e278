-- Change request 9/13, of calls of `step` on lent bytes: an Update request that answers an attendee's edit carries the event that was read, but for their own
-- answer, and refusal 6 comes only to an owner. A call is known by what `step` ensures of it (`Called`). OwnAnswer.antt of proofs/ has the proofs. Assumes nothing.
use Rattle.std.specs.Prelude.{◌≡◌, List, ◌∷◌, ◌++◌, take, Option}
use Rattle.format.specs.Format.{All}
use Rattle.model.specs.Event.{Text, ProviderRevision, ProviderEvent}
use Rattle.model.specs.Seam.{RequestId, ResourceId, Request}
use Rattle.model.specs.Parts.{Role}
use Rattle.model.specs.Calls.{Input, Effect}
use Rattle.model.specs.State.{SyncState}
use Rattle.model.specs.Limits.{document01}
use Rattle.model.specs.Formats.{Bytes, event_f, input_f, effect_f, enc_effects}
use Rattle.model.specs.WellFormed.{WellFormed}
use Rattle.model.specs.Layout.{state_layout}
use Rattle.model.specs.OwnAnswer.{UpdateRead, UpdateSent, OwnersUpdate}
use Rattle.engine.specs.Demands.{Called}

-- the state and the input whose bytes the call was lent: no others have these bytes
pub record Decoded (c : Called) : Type 0 where
  pub state : SyncState
  pub well : WellFormed document01 state
  pub buffer : c.lent.state ≡ (state_layout document01).enc state
  pub input : Input
  pub valid : input_f.Ok input
  pub frame : c.frame ≡ input_f.enc input

-- a call refused with 6 merged an owner's update
pub record CrowdedCall (c : Called) : Type 0 where
  pub decoded : Decoded c
  pub owners : OwnersUpdate decoded.state decoded.input

-- an Update request of a call: what it carries, and where the bytes stand. The frame ends with the event that was read.
pub record UpdateCarried (c : Called) (d : Decoded c) (resource : ResourceId) (event : ProviderEvent) : Type 0 where
  pub sent : UpdateSent d.state d.input resource event
  pub front : Bytes
  pub frame : c.frame ≡ front ++ event_f.enc sent.read.theirs
  pub before : Bytes
  pub after : Bytes
  pub output : c.answer.lent.out ≡ before ++ (event_f.enc event ++ after)

-- an accepted call: its effects, and every Update request among them
pub record AcceptedCall (c : Called) : Type 0 where
  pub decoded : Decoded c
  pub effects : List Effect
  pub valid : All effect_f.Ok effects
  pub output : take c.answer.length c.answer.lent.out ≡ enc_effects effects
  -- no other list of effects has these bytes
  pub only : (es : List Effect) → All effect_f.Ok es → take c.answer.length c.answer.lent.out ≡ enc_effects es → es ≡ effects
  pub updates : (before after : List Effect) (n : RequestId) (resource : ResourceId) (revision : Option ProviderRevision) (event : ProviderEvent)
      → effects ≡ before ++ Effect.Request n (Request.Update resource revision event) ∷ after → UpdateCarried c decoded resource event

pub record OwnAnswerOnly (c : Called) : Type 0 where
  -- an attendee's update is never refused with 6
  pub never : (d : Decoded c) (resource : ResourceId) (read : UpdateRead d.state d.input resource) (address : Text) → read.head.edit.role ≡ Role.Attendee address
      → c.answer.code ≡ 6 → ⊥
  pub crowded : c.answer.code ≡ 6 → CrowdedCall c
  pub accepted : c.answer.code ≡ 0 → AcceptedCall c
