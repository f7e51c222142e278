-- Change request 9/13, of a step: every Update request among its effects carries the merge with the event just read, an attendee's that event but for their own
-- answer; and a step is refused with 6 only where it merged an owner's update. Assumes nothing.
use Rattle.std.specs.Prelude.{Option, Some, None}
use Prim.Native.Nat.{ℕ, ◌≤◌}
use native.Mathlib.Omega.{arith}
use mathlib.Core.Path.{◌≡◌, refl, sym, ap, ◌∙◌, subst}
use mathlib.Core.List.{List, [], ◌∷◌, ◌++◌}
use mathlib.Core.Bool.{Bool, false}
use lib.ListN.{length}
use lib.Dec.{leb, T, le→leb}
use Rattle.format.specs.Format.{All}
use Rattle.model.specs.Event.{ProviderEvent}
use Rattle.model.specs.Seam.{RequestId, ResourceId, Cursor, Request, Failure, Outcome}
use Rattle.model.specs.Parts.{Role}
use Rattle.model.specs.Calls.{Input, Notice, Effect}
use Rattle.model.specs.State.{Map, Pass, Pending, Queue, Purpose, SyncState}
use Rattle.model.specs.Limits.{Limits, max_attendees}
use Rattle.model.specs.Maps.{by_name, by_number, get, first}
use Rattle.model.specs.Formats.{event_f, input_f}
use Rattle.model.specs.Merge.{merge}
use Rattle.model.specs.Machine.{Machine, Run, match◌none:◌some:◌, push, tell, request, queue_of, set_records, set_cursor, set_pass, set_edits, set_in_flight, set_next_request, set_learned, set_learned_all, set_now, set_aliases}
use Rattle.model.specs.Sync.{start, ReadAnswer, answer, answer_failed, Stepped, stepped, step, is_pass_read, drop_in_flight, restart_pass, on_list, list_failed, list_answered, apply_staged, apply_pass, try_commit, head, on_outcome, known_outcome, handle, apply}
use Rattle.model.specs.Demands.{effects_of, is_cursor_expired}
use Rattle.model.specs.OwnAnswer.{OnlyOwn, UpdateRead, UpdateSent, UpdatesSentSo, OwnersUpdate, OnlyOwnersCrowd, NoAttendeeCrowds}
use Rattle.model.proofs.Holds.{Ends, stopped, holds, bind, branch, loop, within_ends, inspect}
use Rattle.model.proofs.Calm.{Calm, NoUpdate, in_pass_holds, on_refresh_holds, start_pass_holds, list_answered_holds, on_pass_read_holds, apply_one_holds, read_observed_holds, either_keeps, forget_settled_keeps, forget_aliases_keeps}
use Rattle.model.proofs.Lively.{Lively, Planned, plan_update_ends, enqueue_ends, on_edit_read_ends, on_edit_write_ends, tick_ends, resume_ends}
use Rattle.model.proofs.Fitting.{all_append}
use Rattle.model.proofs.ValidParts.{ok_some, event_few, read_ok, input_outcome}
use Rattle.model.proofs.OwnAnswer.{only_own_answer}

-- ---- what the read and the queue say

-- an answer that found an event is a read that found it
found_read : (outcome : Outcome) (theirs : Option ProviderEvent) (t : ProviderEvent) → answer outcome ≡ ReadAnswer.Found theirs → theirs ≡ Some t
    → outcome ≡ Outcome.Read (Some t)
unfolding answer answer_failed
found_read (Outcome.Listed page) theirs t a e = cc
found_read (Outcome.Read event) theirs t a e = cc
found_read (Outcome.Written event) theirs t a e = cc
found_read Outcome.Deleted theirs t a e = cc
found_read (Outcome.Failed Failure.CursorExpired) theirs t a e = cc
found_read (Outcome.Failed Failure.PreconditionFailed) theirs t a e = cc
found_read (Outcome.Failed Failure.NotFound) theirs t a e = cc
found_read (Outcome.Failed Failure.AlreadyExists) theirs t a e = cc
found_read (Outcome.Failed Failure.Transient) theirs t a e = cc
found_read (Outcome.Failed (Failure.Rejected reason)) theirs t a e = cc

-- the head is the first entry of the queue that stands under the name
record Heads (edits : Map ResourceId Queue) (resource : ResourceId) (p : Pending) : Type 0 where
  behind : Queue
  waits : get by_name resource edits ≡ Some (p ∷ behind)

heads : (m : Machine) (resource : ResourceId) (p : Pending) → head resource m ≡ Some p → Heads m.state.edits resource p
unfolding head queue_of first match◌none:◌some:◌
heads m resource p e = go (get by_name resource m.state.edits) refl e
  where
    go : (o : Option Queue) → get by_name resource m.state.edits ≡ o → first (match o none: [] some: (λ queue. queue)) ≡ Some p → Heads m.state.edits resource p
    go None f e = absurd (let z : ◌≡◌ {A = ℕ} 0 1 = cc in omega arith)
    go (Some []) f e = absurd (let z : ◌≡◌ {A = ℕ} 0 1 = cc in omega arith)
    go (Some (q ∷ queue)) f e = record { behind = queue; waits = cc }

few_read : (n : RequestId) (t : ProviderEvent) → input_f.Ok (Input.Outcome n (Outcome.Read (Some t))) → length t.fields.attendees ≤ max_attendees
few_read n t ok = event_few t (ok_some event_f t (read_ok (Some t) (input_outcome n _ ok)))

module _ (s : SyncState) (input : Input) where
  -- an effect that may be told
  Fine : Effect → Type 0
  Fine (Effect.Request n (Request.List from)) = Unit {0}
  Fine (Effect.Request n (Request.Read resource)) = Unit {0}
  Fine (Effect.Request n (Request.Lookup key)) = Unit {0}
  Fine (Effect.Request n (Request.Create resource event)) = Unit {0}
  Fine (Effect.Request n (Request.Update resource if-match event)) = UpdateSent s input resource event
  Fine (Effect.Request n (Request.Delete resource if-match)) = Unit {0}
  Fine (Effect.Notify notice) = Unit {0}

  Good : Machine → Type 0
  Good m = All Fine m.out

  -- a refusal with 6 is for an owner's update
  Why : ℕ → Type 0
  Why n = n ≡ 6 → input_f.Ok input → OwnersUpdate s input

  why_4 : Why 4
  unfolding Why
  why_4 e ok = absurd (omega (arith, e))

  why_5 : Why 5
  unfolding Why
  why_5 e ok = absurd (omega (arith, e))

  why_7 : Why 7
  unfolding Why
  why_7 e ok = absurd (omega (arith, e))

  push_good : (e : Effect) (m : Machine) → Fine e → Good m → Ends Why Good (push e m)
  unfolding push Good
  push_good e m f h = branch _ (holds (all_append Fine m.out (e ∷ []) h (f, tt))) (stopped why_7)

  -- a request, what it asks being fine
  request_good : (purpose : Purpose) (what : Request) (m : Machine) → ((n : RequestId) → Fine (Effect.Request n what)) → Good m → Ends Why Good (request purpose what m)
  unfolding request set_in_flight set_next_request Good
  request_good purpose what m f h = branch _ (stopped why_4) (bind (within_ends {P = Good} why_5 _ _ _ _ h) (λ m h. push_good _ m (f _) h))

  no_update_fine : (what : Request) (n : RequestId) → NoUpdate what → Fine (Effect.Request n what)
  unfolding Fine
  no_update_fine (Request.List from) n u = tt
  no_update_fine (Request.Read resource) n u = tt
  no_update_fine (Request.Lookup key) n u = tt
  no_update_fine (Request.Create resource event) n u = tt
  no_update_fine (Request.Update resource if-match event) n u = absurd u
  no_update_fine (Request.Delete resource if-match) n u = tt

  tell_good : (notice : Notice) (m : Machine) → Good m → Ends Why Good (tell notice m)
  unfolding tell Fine
  tell_good notice m h = push_good _ m tt h

  calmly : Calm Why Good
  unfolding Good set_records set_pass set_learned set_learned_all set_aliases drop_in_flight set_in_flight
  calmly = record {
    no_place = why_5;
    records = λ v m h. h;
    pass = λ v m h. h;
    learned = λ v m h. h;
    learned_all = λ v m h. h;
    aliases = λ v m h. h;
    asks = λ purpose what m q u h. request_good purpose what m (λ n. no_update_fine what n u) h;
    fails = λ reason m h. tell_good _ m h;
    drops = λ m h. h;
  }

  lively : Lively Why Good
  unfolding Good set_edits set_in_flight set_now
  lively = record {
    calmly = calmly;
    no_number = why_4;
    no_room = why_7;
    edits = λ v m h. h;
    in_flight = λ v m h. h;
    now = λ v m h. h;
    sends = λ purpose what m u h. request_good purpose what m (λ n. no_update_fine what n u) h;
    tells = tell_good;
  }

  cursor_good : (v : Option Cursor) (m : Machine) → Good m → Good (set_cursor v m)
  unfolding Good set_cursor
  cursor_good v m h = h

  drop_good : (p : Purpose → Bool) (m : Machine) → Good m → Good (drop_in_flight p m)
  unfolding Good drop_in_flight set_in_flight
  drop_good p m h = h

  -- ---- the update that is planned

  crowded : (resource : ResourceId) (r : UpdateRead s input resource) (role : Role) → r.head.edit.role ≡ role
      → leb (length (merge r.base r.ours r.theirs role).event.fields.attendees) max_attendees ≡ false → Why 6
  unfolding Why
  crowded resource r Role.Owner e f six ok = record { resource = resource; read = r; owner = e }
  crowded resource r (Role.Attendee address) e f six ok =
      let few : length r.theirs.fields.attendees ≤ max_attendees = few_read r.number r.theirs (subst input_f.Ok r.answers ok) in
      let as_many = (only_own_answer r.base r.ours r.theirs address).count in
      absurd (subst T f (le→leb _ max_attendees (subst (λ n. n ≤ max_attendees) (sym as_many) few)))

  sent : (resource : ResourceId) (r : UpdateRead s input resource)
      → UpdateSent s input resource (merge r.base r.ours r.theirs r.head.edit.role).event
  sent resource r = record {
    read = r;
    merged = refl;
    only = λ address e. subst (λ role. OnlyOwn address r.theirs (merge r.base r.ours r.theirs role).event) (sym e)
        (only_own_answer r.base r.ours r.theirs address);
  }

  planned : (resource : ResourceId) (number : RequestId) (outcome : Outcome) (m : Machine) → input ≡ Input.Outcome number outcome → m.state.edits ≡ s.edits
      → get by_number number s.in_flight ≡ Some (Purpose.EditRead resource)
      → (theirs : Option ProviderEvent) → answer outcome ≡ ReadAnswer.Found theirs → Planned lively resource theirs m
  unfolding Fine
  planned resource number outcome m i same asked theirs a p base ours t h u f m' k =
      let H : Heads m.state.edits resource p = heads m resource p h in
      let r : UpdateRead s input resource = record {
        number = number;
        theirs = t;
        answers = i ∙ ap (Input.Outcome number) (found_read outcome theirs t a f);
        asked = asked;
        head = p;
        behind = H.behind;
        waits = sym (ap (get by_name resource) same) ∙ H.waits;
        base = base;
        ours = ours;
        update = u;
      } in
      plan_update_ends lively resource p.edit.role base ours t m' (crowded resource r p.edit.role refl)
      (λ m h. request_good _ _ m (λ n. sent resource r) h) k

  -- ---- apply

  restart_pass_good : (m : Machine) → Good m → Ends Why Good (restart_pass m)
  unfolding restart_pass
  restart_pass_good m h = start_pass_holds calmly _ (cursor_good _ _ (drop_good is_pass_read m h))

  list_failed_good : (rid : RequestId) (failure : Failure) (pass : Pass) (m : Machine) → Good m → Ends Why Good (list_answered rid (Outcome.Failed failure) pass m)
  unfolding list_answered list_failed is_cursor_expired
  list_failed_good rid Failure.CursorExpired pass m h = restart_pass_good m h
  list_failed_good rid Failure.PreconditionFailed pass m h = list_answered_holds calmly rid (Outcome.Failed Failure.PreconditionFailed) pass m refl h
  list_failed_good rid Failure.NotFound pass m h = list_answered_holds calmly rid (Outcome.Failed Failure.NotFound) pass m refl h
  list_failed_good rid Failure.AlreadyExists pass m h = list_answered_holds calmly rid (Outcome.Failed Failure.AlreadyExists) pass m refl h
  list_failed_good rid Failure.Transient pass m h = list_answered_holds calmly rid (Outcome.Failed Failure.Transient) pass m refl h
  list_failed_good rid (Failure.Rejected reason) pass m h = list_answered_holds calmly rid (Outcome.Failed (Failure.Rejected reason)) pass m refl h

  list_answered_good : (rid : RequestId) (outcome : Outcome) (pass : Pass) (m : Machine) → Good m → Ends Why Good (list_answered rid outcome pass m)
  unfolding is_cursor_expired
  list_answered_good rid (Outcome.Listed page) pass m h = list_answered_holds calmly rid _ pass m refl h
  list_answered_good rid (Outcome.Read event) pass m h = list_answered_holds calmly rid _ pass m refl h
  list_answered_good rid (Outcome.Written event) pass m h = list_answered_holds calmly rid _ pass m refl h
  list_answered_good rid Outcome.Deleted pass m h = list_answered_holds calmly rid _ pass m refl h
  list_answered_good rid (Outcome.Failed failure) pass m h = list_failed_good rid failure pass m h

  on_list_good : (rid : RequestId) (outcome : Outcome) (m : Machine) → Good m → Ends Why Good (on_list rid outcome m)
  unfolding on_list
  on_list_good rid outcome m h = in_pass_holds calmly _ m (λ pass m h. list_answered_good rid outcome pass m h) h

  apply_pass_good : (pass : Pass) (m : Machine) → Good m → Ends Why Good (apply_pass pass m)
  unfolding apply_pass apply_staged
  apply_pass_good pass m h =
      bind (loop _ (λ e m h. apply_one_holds calmly _ _ m h) _ (calmly.pass _ m h))
      (λ m h. tell_good _ _ (cursor_good _ _ (either_keeps calmly _ _ _ (calmly.records _ m h) h)))

  try_commit_good : (m : Machine) → Good m → Ends Why Good (try_commit m)
  unfolding try_commit
  try_commit_good m h =
      branch _ (in_pass_holds calmly _ m (λ pass m h. branch _ (apply_pass_good pass m h) (read_observed_holds calmly pass m h)) h) (holds h)

  on_outcome_good : (rid : RequestId) (purpose : Purpose) (outcome : Outcome) (m : Machine) → input ≡ Input.Outcome rid outcome → m.state.edits ≡ s.edits
      → get by_number rid s.in_flight ≡ Some purpose → Good m → Ends Why Good (on_outcome rid purpose outcome m)
  unfolding on_outcome
  on_outcome_good rid Purpose.List outcome m i same asked h = on_list_good _ _ m h
  on_outcome_good rid (Purpose.PassRead r) outcome m i same asked h = on_pass_read_holds calmly _ _ _ m h
  on_outcome_good rid (Purpose.EditRead r) outcome m i same asked h = on_edit_read_ends lively rid r outcome m (planned r rid outcome m i same asked) h
  on_outcome_good rid (Purpose.EditWrite r) outcome m i same asked h = on_edit_write_ends lively _ _ _ m h
  on_outcome_good rid (Purpose.Refresh r) outcome m i same asked h = on_refresh_holds calmly _ _ _ m h

  known_outcome_good : (rid : RequestId) (purpose : Purpose) (outcome : Outcome) (m : Machine) → input ≡ Input.Outcome rid outcome → m.state ≡ s
      → get by_number rid s.in_flight ≡ Some purpose → Good m → Ends Why Good (known_outcome rid purpose outcome m)
  unfolding known_outcome set_in_flight
  known_outcome_good rid purpose outcome m i same asked h =
      bind (on_outcome_good rid purpose outcome _ i (ap (λ (s : SyncState). s.edits) same) asked (lively.in_flight _ m h)) (λ m h. try_commit_good m h)

  handle_good : (i : Input) (m : Machine) → input ≡ i → m.state ≡ s → Good m → Ends Why Good (handle i m)
  unfolding handle
  handle_good Input.Sync m i same h = branch _ (holds h) (start_pass_holds calmly m h)
  handle_good (Input.Edit edit) m i same h = enqueue_ends lively edit m h
  handle_good (Input.Outcome rid outcome) m i same h = inspect (get by_number rid m.state.in_flight) (λ e. holds h)
      (λ purpose e. known_outcome_good rid purpose outcome m i same (sym (ap (λ (s : SyncState). get by_number rid s.in_flight) same) ∙ e) h)
  handle_good (Input.Tick now) m i same h = tick_ends lively now m h
  handle_good Input.Resume m i same h = resume_ends lively m h

  apply_good : (m : Machine) → m.state ≡ s → Good m → Ends Why Good (apply input m)
  unfolding apply
  apply_good m same h =
      bind (handle_good input m refl same h) (λ m h. holds (forget_aliases_keeps calmly _ (forget_settled_keeps calmly m h)))

-- ---- a step

all_split : {A : Type 0} (P : A → Type 0) (before after : List A) (x : A) → All P (before ++ x ∷ after) → P x
all_split P [] after x h = h.0
all_split P (y ∷ before) after x h = all_split P before after x h.1

step_fine : (limits : Limits) (s : SyncState) (input : Input) → Ends (Why s input) (Good s input) (apply input (start limits s))
unfolding start Good
step_fine limits s input = apply_good s input (start limits s) refl tt

sent_fine : (s : SyncState) (input : Input) (r : Run) → Ends (Why s input) (Good s input) r → All (Fine s input) (effects_of (stepped r))
unfolding stepped effects_of Good
sent_fine s input (Run.refused n) h = tt
sent_fine s input (Run.ok m) (holds h) = h

pub updates_sent_so : UpdatesSentSo
unfolding step Fine
updates_sent_so limits s input before after n resource revision event e =
    all_split (Fine s input) before after (Effect.Request n (Request.Update resource revision event))
    (subst (All (Fine s input)) e (sent_fine s input _ (step_fine limits s input)))

refused_why : (s : SyncState) (input : Input) (r : Run) (n : ℕ) → Ends (Why s input) (Good s input) r → stepped r ≡ Stepped.Refused n → Why s input n
unfolding stepped
refused_why s input (Run.refused k) n (stopped w) e = let same : k ≡ n = cc in subst (Why s input) same w
refused_why s input (Run.ok m) n (holds h) e = absurd (let z : ◌≡◌ {A = ℕ} 0 1 = cc in omega arith)

pub only_owners_crowd : OnlyOwnersCrowd
unfolding step Why
only_owners_crowd limits s input ok e = refused_why s input _ 6 (step_fine limits s input) e refl ok

-- an input answers one read only, and a queue has one head
same_role : (s : SyncState) (input : Input) (r t : ResourceId) (x : UpdateRead s input r) (y : UpdateRead s input t) → x.head.edit.role ≡ y.head.edit.role
same_role s input r t x y =
    let a = x.answers in
    let b = y.answers in
    let numbers : x.number ≡ y.number = cc in
    let c : get by_number y.number s.in_flight ≡ Some (Purpose.EditRead r) = subst (λ (n : RequestId). get by_number n s.in_flight ≡ Some (Purpose.EditRead r)) numbers x.asked in
    let d = y.asked in
    let names : r ≡ t = cc in
    let e : get by_name t s.edits ≡ Some (x.head ∷ x.behind) = subst (λ (n : ResourceId). get by_name n s.edits ≡ Some (x.head ∷ x.behind)) names x.waits in
    let f = y.waits in
    let heads : x.head ≡ y.head = cc in
    ap (λ (p : Pending). p.edit.role) heads

pub no_attendee_crowds : NoAttendeeCrowds
no_attendee_crowds limits s input ok resource read address e six =
    let owners : OwnersUpdate s input = only_owners_crowd limits s input ok six in
    let clash : Role.Owner ≡ Role.Attendee address = sym owners.owner ∙ same_role s input _ _ owners.read read ∙ e in
    absurd (let z : ◌≡◌ {A = ℕ} 0 1 = cc in omega arith)
