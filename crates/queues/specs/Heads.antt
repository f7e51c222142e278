-- What is done to the head of a queue, as the definitions have it with the head in hand. Assumes nothing.
use Rattle.std.specs.Prelude.{ℕ, ◌≡◌, List, Bool, true, false, take, Option, Some, None}
use Rattle.model.specs.Event.{Text, ProviderEvent}
use Rattle.model.specs.Seam.{ResourceId, RequestId}
use Rattle.model.specs.Seam as seam
use Rattle.model.specs.Parts.{Role}
use Rattle.model.specs.Edits.{Operation}
use Rattle.model.specs.Calls.{Rejection, Notice, Effect}
use Rattle.model.specs.State.{Pending, SyncState}
use Rattle.model.specs.Machine.{Machine, Run, ok, for_each, match◌none:◌some:◌, tell, push, queue_of}
use Rattle.model.specs.Sync.{describe, ids_of, ending, notify, assigns_ids, is_attendee}
use Rattle.frame.specs.Meaning.{meant_outcome}
use Rattle.effects.specs.Told.{meant_refusal}
use Rattle.waiting.specs.Queues.{queue, nth}
use Rattle.waiting.specs.Reading.{nth_id}
use Rattle.machine.specs.declared.Progress.{Progress}
use Rattle.machine.specs.Contract.{Holds, Ran}
use Rattle.queues.specs.declared.head.Beginning.{Beginning}
use Rattle.queues.specs.declared.head.Beginning.TheVariants as Begin
use Rattle.queues.specs.declared.telling.Ending.{Ending}
use Rattle.queues.specs.declared.telling.Ending.TheVariants.{Applied, Rejected, By}

-- what an ending stands for, with the frame that its outcome's places are in: none for an edit that is applied
abbrev pub rejection_of : List ℕ → Ending → Option Rejection
rejection_of frame Applied = None
rejection_of frame (Rejected refusal) = Some (meant_refusal refusal)
rejection_of frame (By outcome) = Some (Rejection.Provider (describe (meant_outcome frame outcome)))

-- ---- how a head begins, as `start_head` has it

-- no head; the request that creates its event; `read_for_edit`; `finish` with a rejection
pub data Start : Type 0 where
  Nothing Create Read : Start
  Finish : Rejection → Start

-- what an answer of `begins` stands for
abbrev pub meant_beginning : Beginning → Start
meant_beginning Begin.Nothing = Start.Nothing
meant_beginning Begin.Create = Start.Create
meant_beginning Begin.Read = Start.Read
meant_beginning Begin.NotOwner = Start.Finish Rejection.NotOwner

abbrev pub begins_write : Bool → Start
begins_write true = Start.Read
begins_write false = Start.Create

abbrev pub begins_delete : Bool → Start
begins_delete true = Start.Finish Rejection.NotOwner
begins_delete false = Start.Read

unfoldable pub begins_by : Operation → Role → Start
begins_by (Operation.Create event) role = begins_write (assigns_ids event)
begins_by (Operation.Update base ours) role = Start.Read
begins_by Operation.Delete role = begins_delete (is_attendee role)

unfoldable pub begins_as : Option Pending → Start
begins_as None = Start.Nothing
begins_as (Some p) = begins_by p.edit.operation p.edit.role

-- ---- effects that the state gives

-- the event of an entry that creates one
unfoldable pub created_by : Operation → Option ProviderEvent
created_by (Operation.Create event) = Some event
created_by (Operation.Update base ours) = None
created_by Operation.Delete = None

unfoldable pub created : Option Pending → Option ProviderEvent
created None = None
created (Some p) = created_by p.edit.operation

-- the notice for the k-th id of the j-th entry
unfoldable pub id_effect : (j k : ℕ) → ResourceId → Option Rejection → SyncState → Option Effect
id_effect j k r rejection s =
    match nth j (queue r s) none: None some: (λ p. match nth_id k (ids_of p) none: None some: (λ id. Some (Effect.Notify (ending p rejection id))))

-- the notice that the edit `id` is applied, with the j-th entry's reports
unfoldable pub applied_effect : ℕ → Text → ResourceId → SyncState → Option Effect
applied_effect j id r s = match nth j (queue r s) none: None some: (λ p. Some (Effect.Notify (Notice.Applied id p.conflicts p.refused)))

-- the request that creates the head's event
unfoldable pub create_effect : RequestId → ResourceId → SyncState → Option Effect
create_effect n r s = match created (nth 0 (queue r s)) none: None some: (λ event. Some (Effect.Request n (seam.Request.Create r event)))

-- an effect is sent, if the state gives one
pub record Sends (effect : SyncState → Option Effect) (w o : List ℕ) (p q : Progress) (o' : List ℕ) : Type 0 where
  pub run : p.code ≡ 0 → (m : Machine) → Holds m w o p.at → (e : Effect) → effect m.state ≡ Some e → Ran (push e m) q w o'
  pub stays : (p.code ≡ 0 → ⊥) → q.code ≡ p.code

-- ---- notices

-- the ids of the j-th entry are told
unfoldable pub notify_at : ℕ → ResourceId → Option Rejection → Machine → Run
notify_at j r rejection m = match nth j (queue_of r m) none: ok m some: (λ p. notify p rejection m)

-- the first k of them
unfoldable pub notify_first : (j k : ℕ) → ResourceId → Option Rejection → Machine → Run
notify_first j k r rejection m = match nth j (queue_of r m) none: ok m some: (λ p. for_each (λ id. tell (ending p rejection id)) (take k (ids_of p)) m)
