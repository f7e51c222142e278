-- A fact of the machine that outlives the assignments, the requests but for an Update, and the notices of the writing half outlives the writing half. One
-- proof for all such facts, as Calm.antt has it for the reading half. What is known where an update is planned is handed to `on_edit_read_ends`.
-- Assumes nothing.
use Rattle.std.specs.Prelude.{Option, Some, None}
use mathlib.Core.Path.{◌≡◌, refl, sym, ◌∙◌}
use Prim.Native.Nat.{ℕ}
use mathlib.Core.List.{List, [], ◌∷◌}
use mathlib.Core.Bool.{Bool, true, false}
use lib.Dec.{leb}
use lib.ListN.{length}
use Rattle.model.specs.Event.{NormalizedEvent, ProviderEvent}
use Rattle.model.specs.Seam.{RequestId, ResourceId, Request, Failure, Outcome}
use Rattle.model.specs.Parts.{Role}
use Rattle.model.specs.Edits.{Timestamp, Operation, Edit}
use Rattle.model.specs.Calls.{Rejection, Notice}
use Rattle.model.specs.State.{Map, Pending, Queue, Purpose}
use Rattle.model.specs.Limits.{max_attendees}
use Rattle.model.specs.Maps.{when◌then◌else◌}
use Rattle.model.specs.Merge.{merge}
use Rattle.model.specs.Machine.{Machine, Run, tell, request, queue_of, set_queue, set_edits, set_in_flight, set_now, set_aliases}
use Rattle.model.specs.Sync.{ReadAnswer, answer, Coalesced, drop_in_flight, learn, doubt, observe_write, head, notify, end_head, start_head, start_queue, start_edit, finish_queue, finish, read_for_edit, change_head, fold_in, cancel, append, place, enqueue_live, enqueue, move_to, move_behind, remap, plan_update, plan, edit_read_found, edit_read_answered, on_edit_read, written, deleted, read_again, write_failed, on_edit_write, tell_expired, tick_queue, tick_resource, tick, restart_edit, resume}
use Rattle.model.proofs.Holds.{Ends, stopped, holds, bind, branch, choose, loop, both, within_ends, decide, inspect}
use Rattle.model.proofs.Calm.{Calm, NoUpdate, same_calm, in_pass_holds, learn_holds, doubt_holds, observe_holds, observe_write_holds, resume_pass_holds}

pub record Lively (R : ℕ → Type 0) (P : Machine → Type 0) : Type 0 where
  pub calmly : Calm R P
  pub no_number : R 4
  pub no_room : R 7
  pub edits : (v : Map ResourceId Queue) (m : Machine) → P m → P (set_edits v m)
  pub in_flight : (v : Map RequestId Purpose) (m : Machine) → P m → P (set_in_flight v m)
  pub now : (v : Option Timestamp) (m : Machine) → P m → P (set_now v m)
  pub sends : (purpose : Purpose) (what : Request) (m : Machine) → NoUpdate what → P m → Ends R P (request purpose what m)
  pub tells : (notice : Notice) (m : Machine) → P m → Ends R P (tell notice m)

head_same : (resource : ResourceId) (m m' : Machine) → m'.state.edits ≡ m.state.edits → head resource m' ≡ head resource m
unfolding head queue_of
head_same resource m m' e = rw e refl

module _ {R : ℕ → Type 0} {P : Machine → Type 0} (lively : Lively R P) where
  and_then : {r : Run} {f : Machine → Run} → Ends R P r → ((m : Machine) → P m → Ends R P (f m)) → Ends R P (Rattle.model.specs.Machine.◌>>=◌ r f)
  and_then h k = bind h k

  no_place : R 5
  no_place = lively.calmly.no_place

  within_lively : {A : Type 0} (limit : ℕ) (table : List A) (set : List A → Machine → Machine) (m : Machine) → P (set table m)
      → Ends R P (Rattle.model.specs.Machine.within limit table set m)
  within_lively limit table set m h = within_ends no_place limit table set m h

  aliases_keeps : (v : Map ResourceId ResourceId) (m : Machine) → P m → P (set_aliases v m)
  aliases_keeps v m h = lively.calmly.aliases v m h

  in_flight_keeps : (v : Map RequestId Purpose) (m : Machine) → P m → P (set_in_flight v m)
  in_flight_keeps v m h = lively.in_flight v m h

  tells_ends : (notice : Notice) (m : Machine) → P m → Ends R P (tell notice m)
  tells_ends notice m h = lively.tells notice m h

  drop_keeps : (p : Purpose → Bool) (m : Machine) → P m → P (drop_in_flight p m)
  unfolding drop_in_flight
  drop_keeps p m h = lively.in_flight _ m h

  set_queue_keeps : (r : ResourceId) (q : Queue) (m : Machine) → P m → P (set_queue r q m)
  unfolding set_queue
  set_queue_keeps r [] m h = lively.edits _ m h
  set_queue_keeps r (p ∷ q) m h = lively.edits _ m h

  change_head_keeps : (f : Pending → Pending) (r : ResourceId) (m : Machine) → P m → P (change_head f r m)
  unfolding change_head
  change_head_keeps f r m h = set_queue_keeps _ _ m h

  learn_ends : (r : ResourceId) (m : Machine) → P m → Ends R P (learn r m)
  learn_ends r m h = learn_holds lively.calmly r m h

  doubt_ends : (r : ResourceId) (m : Machine) → P m → Ends R P (doubt r m)
  doubt_ends r m h = doubt_holds lively.calmly r m h

  observe_write_ends : (rid : RequestId) (r : ResourceId) (e : Option ProviderEvent) (m : Machine) → P m → Ends R P (observe_write rid r e m)
  observe_write_ends rid r e m h = observe_write_holds lively.calmly rid r e m h

  creates : (r : ResourceId) (event : ProviderEvent) (m : Machine) → P m → Ends R P (request (Purpose.EditWrite r) (Request.Create r event) m)
  creates r event m h = lively.sends _ _ m tt h

  read_for_edit_ends : (resource : ResourceId) (m : Machine) → P m → Ends R P (read_for_edit resource m)
  unfolding read_for_edit when◌then◌else◌
  read_for_edit_ends resource m h = go (Rattle.model.specs.Sync.looks_up resource m)
    where
      go : (b : Bool) → Ends R P (request (Purpose.EditRead resource) (when b then Request.Lookup resource else Request.Read resource) m)
      go true = lively.sends _ _ m tt h
      go false = lively.sends _ _ m tt h

  -- the set that `search` is given: the statements, and the functions already done
  ruleset walks = (and_then, branch, choose, holds, stopped, no_place, within_lively, tells_ends, aliases_keeps, learn_ends, doubt_ends, observe_write_ends, set_queue_keeps, change_head_keeps, creates, read_for_edit_ends)

  notify_ends : (done : Pending) (rejection : Option Rejection) (m : Machine) → P m → Ends R P (notify done rejection m)
  unfolding notify
  notify_ends done rejection m h = loop _ (λ x m h. tells_ends _ m h) m h

  end_head_ends : (resource : ResourceId) (p : Pending) (q : Queue) (rejection : Option Rejection) (m : Machine) → P m → Ends R P (end_head resource p q rejection m)
  unfolding end_head
  end_head_ends resource p q rejection m h = search (walks, notify_ends)

  start_head_ends : (r : ResourceId) (operation : Operation) (role : Role) (not-owner : Run) (m : Machine)
      → Ends R P not-owner → P m → Ends R P (start_head r operation role not-owner m)
  unfolding start_head
  start_head_ends r (Operation.Create event) role not-owner m k h = search walks
  start_head_ends r Operation.Delete role not-owner m k h = search walks
  start_head_ends r (Operation.Update base ours) role not-owner m k h = read_for_edit_ends r m h

  start_queue_ends : (r : ResourceId) (q : Queue) (m : Machine) → P m → Ends R P (start_queue r q m)
  unfolding start_queue
  start_queue_ends r [] m h = holds h
  start_queue_ends r (p ∷ q) m h =
      start_head_ends r _ _ _ m (and_then (end_head_ends r p q _ m h) (λ m h. start_queue_ends r q m h)) h

  start_edit_ends : (resource : ResourceId) (m : Machine) → P m → Ends R P (start_edit resource m)
  unfolding start_edit
  start_edit_ends resource m h = start_queue_ends _ _ m h

  finish_queue_ends : (r : ResourceId) (rejection : Option Rejection) (q : Queue) (m : Machine) → P m → Ends R P (finish_queue r rejection q m)
  unfolding finish_queue
  finish_queue_ends r rejection [] m h = holds h
  finish_queue_ends r rejection (p ∷ q) m h = search (walks, end_head_ends, start_edit_ends)

  finish_ends : (resource : ResourceId) (rejection : Option Rejection) (m : Machine) → P m → Ends R P (finish resource rejection m)
  unfolding finish
  finish_ends resource rejection m h = finish_queue_ends _ _ _ m h

  fold_in_ends : (operation : Operation) (w : Pending) (q : Queue) (edit : Edit) (m : Machine) → P m → Ends R P (fold_in operation w q edit m)
  unfolding fold_in
  fold_in_ends operation w q edit m h = search walks

  cancel_ends : (w : Pending) (q : Queue) (edit : Edit) (m : Machine) → P m → Ends R P (cancel w q edit m)
  unfolding cancel
  cancel_ends w q edit m h = search (walks, notify_ends)

  append_ends : (q : Queue) (edit : Edit) (m : Machine) → P m → Ends R P (append q edit m)
  unfolding append
  append_ends q edit m h = search (walks, start_edit_ends)

  place_ends : (q : Queue) (o : Option Pending) (c : Option Coalesced) (edit : Edit) (m : Machine) → P m → Ends R P (place q o c edit m)
  unfolding place
  place_ends q None k edit m h = append_ends _ _ m h
  place_ends q (Some w) None edit m h = append_ends _ _ m h
  place_ends q (Some w) (Some (Coalesced.Into operation)) edit m h = fold_in_ends _ _ _ _ m h
  place_ends q (Some w) (Some Coalesced.Cancelled) edit m h = cancel_ends _ _ _ m h

  enqueue_live_ends : (edit : Edit) (m : Machine) → P m → Ends R P (enqueue_live edit m)
  unfolding enqueue_live
  enqueue_live_ends edit m h = place_ends _ _ _ _ m h

  pub enqueue_ends : (edit : Edit) (m : Machine) → P m → Ends R P (enqueue edit m)
  unfolding enqueue
  enqueue_ends edit m h = search (walks, enqueue_live_ends)

  move_to_ends : (to : ResourceId) (q : Queue) (m : Machine) → P m → Ends R P (move_to to q m)
  unfolding move_to
  move_to_ends to [] m h = holds h
  move_to_ends to (p ∷ q) m h = search (walks, start_edit_ends)

  move_behind_ends : (from to : ResourceId) (q : Queue) (m : Machine) → P m → Ends R P (move_behind from to q m)
  unfolding move_behind
  move_behind_ends from to [] m h = holds h
  move_behind_ends from to (p ∷ []) m h = holds h
  move_behind_ends from to (p ∷ q ∷ queue) m h = move_to_ends _ _ _ (set_queue_keeps _ _ m h)

  remap_ends : (from : ResourceId) (to : ResourceId) (m : Machine) → P m → Ends R P (remap from to m)
  unfolding remap
  remap_ends from to m h = search (walks, move_behind_ends)

  -- ---- the answer to an edit's read

  -- an update: `crowded` where the merge has too many attendees, `sent` where it is written
  pub plan_update_ends : (resource : ResourceId) (role : Role) (base ours : NormalizedEvent) (theirs : ProviderEvent) (m : Machine)
      → (leb (length (merge base ours theirs role).event.fields.attendees) max_attendees ≡ false → R 6)
      → ((m : Machine) → P m → Ends R P (request (Purpose.EditWrite resource) (Request.Update resource theirs.revision (merge base ours theirs role).event) m))
      → P m → Ends R P (plan_update resource role base ours theirs m)
  unfolding plan_update
  plan_update_ends resource role base ours theirs m crowded sent h =
      decide _ (λ e. branch _ (sent _ (change_head_keeps _ _ m h)) (finish_ends _ _ _ (change_head_keeps _ _ m h))) (λ e. stopped (crowded e))

  plan_ends : (resource : ResourceId) (p : Pending) (operation : Operation) (theirs : Option ProviderEvent) (m : Machine)
      → ((base ours : NormalizedEvent) (t : ProviderEvent) → operation ≡ Operation.Update base ours → theirs ≡ Some t → Ends R P (plan_update resource p.edit.role base ours t m))
      → P m → Ends R P (plan resource p operation theirs m)
  unfolding plan
  plan_ends resource p (Operation.Create ours) (Some theirs) m k h = search (walks, remap_ends, finish_ends)
  plan_ends resource p (Operation.Create ours) None m k h = search (walks, finish_ends)
  plan_ends resource p (Operation.Update base ours) None m k h = finish_ends _ _ m h
  plan_ends resource p (Operation.Update base ours) (Some theirs) m k h = k base ours theirs refl refl
  plan_ends resource p Operation.Delete None m k h = finish_ends _ _ m h
  plan_ends resource p Operation.Delete (Some theirs) m k h = lively.sends _ _ m tt h

  -- what is shown of the plan of an update: the head stands as it stood, and theirs is what was found
  abbrev pub Planned : ResourceId → Option ProviderEvent → Machine → Type 0
  Planned resource theirs m = (p : Pending) (base ours : NormalizedEvent) (t : ProviderEvent) → head resource m ≡ Some p → p.edit.operation ≡ Operation.Update base ours
      → theirs ≡ Some t → (m' : Machine) → P m' → Ends R P (plan_update resource p.edit.role base ours t m')

  edit_read_found_ends : (rid : RequestId) (resource : ResourceId) (theirs : Option ProviderEvent) (m : Machine) → Planned resource theirs m
      → P m → Ends R P (edit_read_found rid resource theirs m)
  unfolding edit_read_found
  edit_read_found_ends rid resource theirs m planned h =
      let still = same_calm lively.no_number no_place lively.no_room m.state.edits in
      branch _ (branch _ (read_for_edit_ends resource m h) (doubt_ends resource m h))
      (bind (both (branch _ (learn_ends resource m h) (observe_holds lively.calmly resource theirs m h))
      (branch _ (learn_holds still resource m refl) (observe_holds still resource theirs m refl)))
      (λ m' k. inspect (head resource m') (λ e. holds k.0)
      (λ p e. plan_ends resource p _ theirs m' (λ base ours t u f. planned p base ours t (sym (head_same resource m m' k.1) ∙ e) u f m' k.0) k.0)))

  edit_read_answered_ends : (rid : RequestId) (resource : ResourceId) (outcome : Outcome) (a : ReadAnswer) (m : Machine)
      → ((theirs : Option ProviderEvent) → a ≡ ReadAnswer.Found theirs → Planned resource theirs m) → P m → Ends R P (edit_read_answered rid resource outcome a m)
  unfolding edit_read_answered
  edit_read_answered_ends rid resource outcome (ReadAnswer.Found theirs) m planned h = edit_read_found_ends rid resource theirs m (planned theirs refl) h
  edit_read_answered_ends rid resource outcome ReadAnswer.Again m planned h = search walks
  edit_read_answered_ends rid resource outcome ReadAnswer.Other m planned h = search (walks, finish_ends)

  pub on_edit_read_ends : (rid : RequestId) (resource : ResourceId) (outcome : Outcome) (m : Machine)
      → ((theirs : Option ProviderEvent) → answer outcome ≡ ReadAnswer.Found theirs → Planned resource theirs m) → P m → Ends R P (on_edit_read rid resource outcome m)
  unfolding on_edit_read
  on_edit_read_ends rid resource outcome m planned h = edit_read_answered_ends rid resource outcome (answer outcome) m planned h

  -- ---- the answer to an edit's write

  written_ends : (rid : RequestId) (resource : ResourceId) (event : ProviderEvent) (m : Machine) → P m → Ends R P (written rid resource event m)
  unfolding written
  written_ends rid resource event m h = search (walks, remap_ends, finish_ends)

  deleted_ends : (rid : RequestId) (resource : ResourceId) (m : Machine) → P m → Ends R P (deleted rid resource m)
  unfolding deleted
  deleted_ends rid resource m h = search (walks, finish_ends)

  read_again_ends : (resource : ResourceId) (m : Machine) → P m → Ends R P (read_again resource m)
  unfolding read_again
  read_again_ends resource m h = search walks

  write_failed_ends : (rid : RequestId) (resource : ResourceId) (failure : Failure) (m : Machine) → P m → Ends R P (write_failed rid resource failure m)
  unfolding write_failed
  write_failed_ends rid resource Failure.CursorExpired m h = read_again_ends _ m h
  write_failed_ends rid resource Failure.PreconditionFailed m h = read_again_ends _ m h
  write_failed_ends rid resource Failure.NotFound m h = search (walks, deleted_ends, read_again_ends)
  write_failed_ends rid resource Failure.AlreadyExists m h = read_again_ends _ _ (change_head_keeps _ _ m h)
  write_failed_ends rid resource Failure.Transient m h = read_again_ends _ m h
  write_failed_ends rid resource (Failure.Rejected reason) m h = finish_ends _ _ m h

  pub on_edit_write_ends : (rid : RequestId) (resource : ResourceId) (outcome : Outcome) (m : Machine) → P m → Ends R P (on_edit_write rid resource outcome m)
  unfolding on_edit_write
  on_edit_write_ends rid resource (Outcome.Listed page) m h = read_again_ends _ m h
  on_edit_write_ends rid resource (Outcome.Read event) m h = read_again_ends _ m h
  on_edit_write_ends rid resource (Outcome.Written event) m h = written_ends _ _ _ m h
  on_edit_write_ends rid resource Outcome.Deleted m h = deleted_ends _ _ m h
  on_edit_write_ends rid resource (Outcome.Failed failure) m h = write_failed_ends _ _ _ m h

  -- ---- time and restarts

  tell_expired_ends : (p : Pending) (m : Machine) → P m → Ends R P (tell_expired p m)
  unfolding tell_expired
  tell_expired_ends p m h = loop _ (λ x m h. tells_ends _ m h) m h

  tick_queue_ends : (now : Timestamp) (r : ResourceId) (q : Queue) (m : Machine) → P m → Ends R P (tick_queue now r q m)
  unfolding tick_queue
  tick_queue_ends now r [] m h = holds h
  tick_queue_ends now r (p ∷ q) m h =
      branch _ (and_then (loop _ (λ p m h. tell_expired_ends p m h) m h)
      (λ m h. start_edit_ends r _ (set_queue_keeps _ _ _ (drop_keeps _ m h))))
      (and_then (loop _ (λ p m h. tell_expired_ends p m h) m h) (λ m h. holds (set_queue_keeps _ _ m h)))

  pub tick_ends : (now : Timestamp) (m : Machine) → P m → Ends R P (tick now m)
  unfolding tick tick_resource
  tick_ends now m h = loop _ (λ r m h. tick_queue_ends _ r _ m h) _ (lively.now _ m h)

  restart_edit_ends : (resource : ResourceId) (m : Machine) → P m → Ends R P (restart_edit resource m)
  unfolding restart_edit
  restart_edit_ends resource m h = start_edit_ends _ _ (change_head_keeps _ _ m h)

  pub resume_ends : (m : Machine) → P m → Ends R P (resume m)
  unfolding resume
  resume_ends m h =
      and_then (loop _ (λ r m h. doubt_ends r m h) _ (lively.in_flight _ m h))
      (λ m h. and_then (in_pass_holds lively.calmly _ m (λ pass m h. resume_pass_holds lively.calmly pass m h) h)
      (λ m h. loop _ (λ r m h. restart_edit_ends r m h) m h))
