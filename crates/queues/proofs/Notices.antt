-- The notices of a queue's head, and the request that creates its event. Assumes nothing.
use Rattle.std.specs.Prelude.{Option, Some, None}
use Rattle.format.proofs.Options.{Some-injective, None-ne-Some}
use Prim.Native.Nat.{ℕ, zero, suc, ◌+◌, ◌-◌, ◌≤◌, ◌<◌}
use native.Mathlib.Numerals.{add-one}
use native.Mathlib.Omega.{arith}
use mathlib.Core.Path.{◌≡◌, refl, sym, ap, ◌∙◌, subst}
use mathlib.Core.List.{List, [], ◌∷◌, ◌++◌, append_assoc}
use lib.ListN.{length, take, drop, take-append-drop}
use lib.Seq.{drop-drop, take_all}
use Rattle.format.specs.Format.{Format, enum, ◌∣◌, via}
use Rattle.spans.specs.Bytes.{zeros}
use Rattle.model.specs.Event.{Text, ProviderEvent}
use Rattle.model.specs.Seam.{ResourceId, RequestId}
use Rattle.model.specs.Seam as seam
use Rattle.model.specs.Edits.{Operation, EditId}
use Rattle.model.specs.Calls.{Rejection, Notice, Effect}
use Rattle.model.specs.Formats.{operation_f, event_f, conflicts_f, refusals_f}
use Rattle.model.specs.State.{Pending, SyncState, Purpose}
use Rattle.model.specs.Machine.{Machine, Run, refused, ok, ◌>>=◌, for_each, match◌none:◌some:◌, tell, push, request, set_in_flight, set_next_request, queue_of}
use Rattle.model.specs.Sync.{ids_of, ending, notify}
use Rattle.model.specs.Demands.{no_number}
use Rattle.model.proofs.Holds as model
use Rattle.model.proofs.ValidParts.{create_ok}
use Rattle.model.proofs.InFlight.{same_state}
use Rattle.pens.specs.declared.Pen.{Pen}
use Rattle.effects.specs.Told.{Told, ToldOf, ToldOfBoth}
use Rattle.state.specs.Layout.{padded, field}
use Rattle.state.specs.Values.{name_of}
use Rattle.state.specs.Contract.{Keeps, Reads}
use Rattle.state.proofs.Padded.{text_name_only}
use Rattle.waiting.specs.Queues.{queue, queue_in, nth}
use Rattle.waiting.proofs.Bridge.{queue_is}
use Rattle.waiting.specs.Entries.{SomeEntryAt, EntryIs, FindsEntry}
use Rattle.waiting.specs.Reading.{nth_id, ReadsId, ids_number}
use Rattle.waiting.proofs.Reading.{nth_id_some}
use Rattle.machine.specs.declared.Progress.{Progress}
use Rattle.machine.specs.Contract.{Ran, Does, Changes, Pushes}
use Rattle.machine.specs.Steps.{pen_of, sent_by, reserve}
use Rattle.machine.proofs.Runs as runs
use Rattle.machine.proofs.Steps as steps
use Rattle.queues.specs.Parts.{StandsAt, PartOf}
use Rattle.queues.specs.Heads.{created, created_by, id_effect, applied_effect, create_effect, Sends, notify_at, notify_first}

-- ---- values in their fields

pub stands_field : {A : Type 0} (f : Format A) (v : A) (w : List ℕ) (at width : ℕ) → f.Ok v → take width (drop at w) ≡ field width f v → StandsAt f v w at
unfolding padded
stands_field f v w at width k e = record {
  ok = k;
  rest = zeros (width - length (f.enc v)) ++ drop width (drop at w);
  is = sym (take-append-drop width (drop at w)) ∙ ap (λ (x : List ℕ). x ++ drop width (drop at w)) e ∙ append_assoc (f.enc v) (zeros (width - length (f.enc v))) (drop width (drop at w));
}

pub create_bytes : (e : ProviderEvent) → operation_f.enc (Operation.Create e) ≡ 0 ∷ event_f.enc e
unfolding operation_f via enum ◌∣◌
create_bytes e = refl

-- the event of an operation that stands at a place
pub stands_event : (e : ProviderEvent) (w : List ℕ) (at : ℕ) → StandsAt operation_f (Operation.Create e) w at → StandsAt event_f e w (at + 1)
stands_event e w at S = record {
  ok = create_ok e S.ok;
  rest = S.rest;
  is = sym (drop-drop 1 at w) ∙ ap (drop 1) (S.is ∙ ap (λ (x : List ℕ). x ++ S.rest) (create_bytes e));
}

-- ---- effects that the state gives

pub gives : (effect : SyncState → Option Effect) (w : List ℕ) {o o' : List ℕ} {p r : Progress} {x q : Pen} → x ≡ pen_of p → r ≡ sent_by p q
    → ((s : SyncState) → Keeps s w → (e : Effect) → effect s ≡ Some e → Told e o o' x q) → Sends effect w o p r o'
gives effect w {p = p} {q = q} a b T = record {
  run = λ z m h e k. ((steps.told a (T m.state h.keeps e k) b).does w).run z m h;
  stays = λ n. ap (λ (x : Progress). x.code) (b ∙ sym (steps.sent_stopped p q n));
}

gives_none : (effect : SyncState → Option Effect) (w o : List ℕ) (p : Progress) → ((s : SyncState) → Keeps s w → effect s ≡ None) → Sends effect w o p p o
gives_none effect w o p n = record {
  run = λ z m h e k. absurd (None-ne-Some e (sym (n m.state h.keeps) ∙ k));
  stays = λ n. refl;
}

module _ (j : ℕ) (r : ResourceId) (w : List ℕ) (place : Option ℕ) (F : FindsEntry r j w place) where
  entry_there : (at : ℕ) → place ≡ Some at → (s : SyncState) → Keeps s w → SomeEntryAt r j w s at
  unfolding EntryIs
  entry_there at e s h = subst (EntryIs r j w s) e (F.is s h)

  no_entry : place ≡ None → (s : SyncState) → Keeps s w → nth j (queue r s) ≡ None
  unfolding EntryIs
  no_entry e s h = subst (EntryIs r j w s) e (F.is s h)

  -- ---- Applied

  pub applied_none : (id : Text) (o : List ℕ) (p : Progress) → place ≡ None → Sends (applied_effect j id r) w o p p o
  unfolding applied_effect match◌none:◌some:◌
  applied_none id o p e = gives_none (applied_effect j id r) w o p (λ s h. rw (no_entry e s h))

  pub applied_sent : (at : ℕ) (id : Text) {o o' edit cs rs : List ℕ} {p q : Progress} {x y : Pen} → place ≡ Some at → PartOf conflicts_f w (at + 1578) cs → PartOf refusals_f w (at + 4650) rs → edit ≡ id
      → x ≡ pen_of p → ToldOfBoth conflicts_f cs refusals_f rs (λ c d. Effect.Notify (Notice.Applied edit c d)) o o' x y → q ≡ sent_by p y → Sends (applied_effect j id r) w o p q o'
  unfolding applied_effect match◌none:◌some:◌
  applied_sent at id {o} {o'} {edit} {cs} {rs} {x = x} {y} e C R d a T b = gives (applied_effect j id r) w a b (λ s h e' k.
      let E = entry_there at e s h in
      let P : Pending = E.entry in
      let c : Effect.Notify (Notice.Applied id E.entry.conflicts E.entry.refused) ≡ e' =
      Some-injective (Effect.Notify (Notice.Applied id E.entry.conflicts E.entry.refused)) e' (sym (ap (λ (y : Option Pending). match y none: None some: (λ p. Some (Effect.Notify (Notice.Applied id p.conflicts p.refused)))) E.is.got) ∙ k) in
      subst (λ (z : Effect). Told z o o' x y) (ap (λ (i : Text). Effect.Notify (Notice.Applied i E.entry.conflicts E.entry.refused)) d ∙ c)
      (T.told P.conflicts P.refused
      (C.is P.conflicts (stands_field conflicts_f P.conflicts w (at + 1578) 3072 E.is.fits.conflicts E.is.conflicts))
      (R.is P.refused (stands_field refusals_f P.refused w (at + 4650) 1024 E.is.fits.refused E.is.refused))))

module _ (r : ResourceId) (w : List ℕ) (place : Option ℕ) (F : FindsEntry r 0 w place) where
  -- ---- the request that creates

  pub create_none : (n : RequestId) (o : List ℕ) (p : Progress) → place ≡ None → Sends (create_effect n r) w o p p o
  unfolding create_effect created match◌none:◌some:◌
  create_none n o p e = gives_none (create_effect n r) w o p (λ s h. rw (no_entry 0 r w place F e s h))

  pub create_sent : (at : ℕ) (n : RequestId) {o o' resource event : List ℕ} {p q : Progress} {x y : Pen} → place ≡ Some at → PartOf event_f w (at + 67) event → resource ≡ r
      → x ≡ pen_of p → ToldOf event_f event (λ v. Effect.Request n (seam.Request.Create resource v)) o o' x y → q ≡ sent_by p y → Sends (create_effect n r) w o p q o'
  unfolding create_effect created created_by match◌none:◌some:◌
  create_sent at n {o} {o'} {resource} {event} {x = x} {y} e C d a T b = gives (create_effect n r) w a b (λ s h e' k.
      let E = entry_there 0 r w place F at e s h in
      go e' E.entry.edit.operation E.is.fits.operation E.is.operation (sym (ap (λ (y : Option Pending). match created y none: None some: (λ v. Some (Effect.Request n (seam.Request.Create r v)))) E.is.got) ∙ k))
    where
      go : (e' : Effect) (op : Operation) → operation_f.Ok op → take 1469 (drop (at + 66) w) ≡ field 1469 operation_f op → (match created_by op none: None some: (λ v. Some (Effect.Request n (seam.Request.Create r v)))) ≡ Some e' → Told e' o o' x y
      go e' (Operation.Create v) c f k =
          let S : StandsAt event_f v w (at + 67) = subst (λ (i : ℕ). StandsAt event_f v w i) (let q : at + 66 + 1 ≡ at + 67 = omega arith in q) (stands_event v w (at + 66) (stands_field operation_f (Operation.Create v) w (at + 66) 1469 c f)) in
          subst (λ (z : Effect). Told z o o' x y) (ap (λ (i : Text). Effect.Request n (seam.Request.Create i v)) d ∙ Some-injective (Effect.Request n (seam.Request.Create r v)) e' k) (T.told v (C.is v S))
      go e' (Operation.Update base ours) c f k = absurd (None-ne-Some e' k)
      go e' Operation.Delete c f k = absurd (None-ne-Some e' k)

-- ---- one id

pub record IdGiven (j k : ℕ) (r : ResourceId) (rejection : Option Rejection) (s : SyncState) (e : Effect) : Type 0 where
  pub entry : Pending
  pub id : Text
  pub got : nth j (queue r s) ≡ Some entry
  pub has : nth_id k (ids_of entry) ≡ Some id
  pub is : Effect.Notify (ending entry rejection id) ≡ e

id_given : (j k : ℕ) (r : ResourceId) (rejection : Option Rejection) (s : SyncState) (e : Effect) → id_effect j k r rejection s ≡ Some e → IdGiven j k r rejection s e
unfolding id_effect match◌none:◌some:◌
id_given j k r rejection s e q = go (nth j (queue r s)) refl q
  where
    on : (p : Pending) → nth j (queue r s) ≡ Some p → (x : Option Text) → nth_id k (ids_of p) ≡ x → (match x none: None some: (λ id. Some (Effect.Notify (ending p rejection id)))) ≡ Some e → IdGiven j k r rejection s e
    on p g None h q = absurd (None-ne-Some e q)
    on p g (Some id) h q = record { entry = p; id = id; got = g; has = h; is = Some-injective (Effect.Notify (ending p rejection id)) e q }

    go : (x : Option Pending) → nth j (queue r s) ≡ x → (match x none: None some: (λ p. match nth_id k (ids_of p) none: None some: (λ id. Some (Effect.Notify (ending p rejection id))))) ≡ Some e → IdGiven j k r rejection s e
    go None g q = absurd (None-ne-Some e q)
    go (Some p) g q = on p g (nth_id k (ids_of p)) refl q

id_is : {j k : ℕ} {r : ResourceId} {w b : List ℕ} {s : SyncState} {e : Effect} {rejection : Option Rejection} → ReadsId r j k w b → Keeps s w → (G : IdGiven j k r rejection s e) → name_of b ≡ G.id
id_is {s = s} I h G = ap name_of (I.is s h G.entry G.got G.id G.has).0 ∙ text_name_only G.id

module _ (j k : ℕ) (r : ResourceId) {w o o' b : List ℕ} {p q : Progress} (I : ReadsId r j k w b) where
  pub id_applied : Sends (applied_effect j (name_of b) r) w o p q o' → Sends (id_effect j k r None) w o p q o'
  unfolding applied_effect match◌none:◌some:◌ ending
  id_applied S = record {
    run = λ z m h e f.
        let G = id_given j k r None m.state e f in
        S.run z m h e (ap (λ (y : Option Pending). match y none: None some: (λ p. Some (Effect.Notify (Notice.Applied (name_of b) p.conflicts p.refused)))) G.got
        ∙ ap (λ (i : Text). Some (Effect.Notify (Notice.Applied i G.entry.conflicts G.entry.refused))) (id_is I h.keeps G) ∙ ap Some G.is);
    stays = S.stays;
  }

  pub id_rejected : (reason : Rejection) → Pushes (Effect.Notify (Notice.Rejected (name_of b) reason)) o p q o' → Sends (id_effect j k r (Some reason)) w o p q o'
  unfolding ending
  id_rejected reason P = record {
    run = λ z m h e f.
        let G = id_given j k r (Some reason) m.state e f in
        subst (λ (x : Effect). Ran (push x m) q w o') (ap (λ (i : Text). Effect.Notify (Notice.Rejected i reason)) (id_is I h.keeps G) ∙ G.is) ((P.does w).run z m h);
    stays = (P.does w).stays;
  }

-- the same, with the ending as a case tells it
pub id_ends : {A : Type 0} (j k : ℕ) (r : ResourceId) {w o o' : List ℕ} {p q : Progress} (f : A → Option Rejection) {a b : A} → a ≡ b → Sends (id_effect j k r (f b)) w o p q o' → Sends (id_effect j k r (f a)) w o p q o'
id_ends j k r {w} {o} {o'} {p} {q} f e S = subst (λ x. Sends (id_effect j k r (f x)) w o p q o') (sym e) S

-- ---- notify

-- one id more
tells_more : (body : Text → Machine → Run) (k : ℕ) (xs : List Text) (x : Text) → nth_id k xs ≡ Some x → (m : Machine) → for_each body (take (suc k) xs) m ≡ (for_each body (take k xs) m >>= body x)
unfolding for_each ◌>>=◌ nth_id
tells_more body k [] x e m = absurd (None-ne-Some x e)
tells_more body zero (y ∷ xs) x e m = runs.bind_ok (body y m) ∙ ap (λ (z : Text). body z m) (Some-injective y x e)
tells_more body (suc k) (y ∷ xs) x e m = go (body y m) (λ m'. tells_more body k xs x e m')
  where
    go : (r : Run) → ((m' : Machine) → for_each body (take (suc k) xs) m' ≡ (for_each body (take k xs) m' >>= body x)) → (r >>= for_each body (take (suc k) xs)) ≡ ((r >>= for_each body (take k xs)) >>= body x)
    go (refused n) ih = refl
    go (ok m') ih = ih m'

-- a run that leaves the state, and then an effect that the state gives
ran_sends : (effect : SyncState → Option Effect) {w o o' : List ℕ} {q q' : Progress} (s : SyncState) (e : Effect) → effect s ≡ Some e → Sends effect w o q q' o' → (r : Run) → model.Holds (λ m. effect m.state ≡ Some e) r → Ran r q w o → Ran (r >>= push e) q' w o'
unfolding Ran ◌>>=◌
ran_sends effect s e k S (refused n) h (c, d) = (S.stays (λ z. d (sym c ∙ z)) ∙ c, d)
ran_sends effect s e k S (ok m) (model.holds h) (c, d) = S.run c m d e h

module _ (j : ℕ) (r : ResourceId) (rejection : Option Rejection) where
  notify_is : (k : ℕ) (m : Machine) (p : Pending) → nth j (queue r m.state) ≡ Some p → notify_first j k r rejection m ≡ for_each (λ id. tell (ending p rejection id)) (take k (ids_of p)) m
  unfolding notify_first match◌none:◌some:◌
  notify_is k m p g = ap (λ (x : Option Pending). match x none: ok m some: (λ p. for_each (λ id. tell (ending p rejection id)) (take k (ids_of p)) m)) (ap (nth j) (queue_is r m) ∙ g)

  pub notify_start : {w o : List ℕ} {p : Progress} → Does (notify_first j 0 r rejection) w o p p w o
  unfolding notify_first match◌none:◌some:◌ for_each
  notify_start = runs.is (notify_first j 0 r rejection) (λ m. go m (nth j (queue_of r m))) runs.nothing
    where
      go : (m : Machine) (x : Option Pending) → ok m ≡ (match x none: ok m some: (λ p. for_each (λ id. tell (ending p rejection id)) (take 0 (ids_of p)) m))
      go m None = refl
      go m (Some p) = refl

  some_entry : (s : SyncState) (n k : ℕ) → n ≡ ids_number (nth j (queue r s)) → k < n → (p : Pending) × (nth j (queue r s) ≡ Some p) × (n ≡ length (ids_of p))
  unfolding ids_number
  some_entry s n k e l = go (nth j (queue r s)) refl e
    where
      go : (x : Option Pending) → nth j (queue r s) ≡ x → n ≡ ids_number x → (p : Pending) × (nth j (queue r s) ≡ Some p) × (n ≡ length (ids_of p))
      go None g f = absurd (let z : n ≡ 0 = f in omega arith)
      go (Some p) g f = (p, g, f)

  pub notify_next : (n k : ℕ) {w o o₁ o₂ : List ℕ} {p q s : Progress} → Reads (λ s. ids_number (nth j (queue r s))) w n → k < n → Does (notify_first j k r rejection) w o p q w o₁ → Sends (id_effect j k r rejection) w o₁ q s o₂
      → Does (notify_first j (k + 1) r rejection) w o p s w o₂
  unfolding tell id_effect match◌none:◌some:◌
  notify_next n k {w} {o} {o₁} {o₂} {p} {q} {s} N l D S = record {
    run = λ z m h.
        let E = some_entry m.state n k (N.is m.state h.keeps) l in
        let P : Pending = E.0 in
        let c : n ≡ length (ids_of E.0) = E.2 in
        let I = nth_id_some k (ids_of E.0) (omega arith) in
        let e : Effect = Effect.Notify (ending E.0 rejection I.0) in
        let body : EditId → Machine → Run = λ id. tell (ending E.0 rejection id) in
        let gives : id_effect j k r rejection m.state ≡ Some (Effect.Notify (ending E.0 rejection I.0)) =
        ap (λ (x : Option Pending). match x none: None some: (λ p. match nth_id k (ids_of p) none: None some: (λ id. Some (Effect.Notify (ending p rejection id))))) E.1
        ∙ ap (λ (x : Option Text). match x none: None some: (λ id. Some (Effect.Notify (ending E.0 rejection id)))) I.1 in
        let a : notify_first j (k + 1) r rejection m ≡ (for_each (λ id. tell (ending E.0 rejection id)) (take k (ids_of E.0)) m >>= push (Effect.Notify (ending E.0 rejection I.0))) =
        notify_is (k + 1) m E.0 E.1 ∙ ap (λ (i : ℕ). for_each (λ id. tell (ending E.0 rejection id)) (take i (ids_of E.0)) m) (add-one k) ∙ tells_more (λ id. tell (ending E.0 rejection id)) k (ids_of E.0) I.0 I.1 m in
        subst (λ (x : Run). Ran x s w o₂) (sym a)
        (ran_sends (id_effect j k r rejection) m.state e gives S (for_each (λ id. tell (ending E.0 rejection id)) (take k (ids_of E.0)) m)
        (model.weaken (same_state (λ id. ending E.0 rejection id) (take k (ids_of E.0)) m) (λ m' y. ap (id_effect j k r rejection) y ∙ gives))
        (subst (λ (x : Run). Ran x q w o₁) (notify_is k m E.0 E.1) (D.run z m h)));
    stays = λ d. let k = D.stays d in S.stays (λ z. d (sym k ∙ z)) ∙ k;
    state = λ h. h;
  }

  pub notify_end : (n k : ℕ) {w o o₁ : List ℕ} {p q : Progress} → Reads (λ s. ids_number (nth j (queue r s))) w n → n ≤ k → Does (notify_first j k r rejection) w o p q w o₁ → Does (notify_at j r rejection) w o p q w o₁
  unfolding notify_first notify_at notify match◌none:◌some:◌ ids_number
  notify_end n k N l D = runs.is_held (notify_at j r rejection) (λ m h. go m (nth j (queue r m.state)) (sym (ap (nth j) (queue_is r m))) (N.is m.state h.keeps)) D
    where
      go : (m : Machine) (x : Option Pending) → x ≡ nth j (queue_of r m) → n ≡ ids_number x
          → (match nth j (queue_of r m) none: ok m some: (λ p. for_each (λ id. tell (ending p rejection id)) (take k (ids_of p)) m)) ≡ (match nth j (queue_of r m) none: ok m some: (λ p. for_each (λ id. tell (ending p rejection id)) (ids_of p) m))
      go m None e f = rw (← e)
      go m (Some p) e f =
          let t : take k (ids_of p) ≡ ids_of p = take_all k (ids_of p) (omega (arith, f)) in
          subst (λ (y : Option Pending). (match y none: ok m some: (λ p. for_each (λ id. tell (ending p rejection id)) (take k (ids_of p)) m)) ≡ (match y none: ok m some: (λ p. for_each (λ id. tell (ending p rejection id)) (ids_of p) m)))
          e (ap (λ (xs : List Text). for_each (λ id. tell (ending p rejection id)) xs m) t)

-- ---- a number, and the request that creates the head's event

reserve_edits : (purpose : Purpose) (m : Machine) → model.Holds (λ m'. m'.state.edits ≡ m.state.edits) (reserve purpose m)
unfolding reserve set_in_flight set_next_request
reserve_edits purpose m = model.branch _ (model.stopped no_number) (model.within_holds _ _ set_in_flight _ refl)

create_given : (n : RequestId) (r : ResourceId) (s : SyncState) (event : ProviderEvent) → Some event ≡ created (nth 0 (queue r s)) → create_effect n r s ≡ Some (Effect.Request n (seam.Request.Create r event))
unfolding create_effect match◌none:◌some:◌
create_given n r s event e = rw (← e)

pub created_request : (r : ResourceId) (event : ProviderEvent) {w o w₁ o₁ : List ℕ} {p q s : Progress} {n : ℕ} → Reads (λ s. s.next_request) w n → Changes (reserve (Purpose.EditWrite r)) w p q w₁ → Sends (create_effect n r) w₁ o q s o₁
    → Reads (λ s. created (nth 0 (queue r s))) w (Some event) → Does (request (Purpose.EditWrite r) (seam.Request.Create r event)) w o p s w₁ o₁
created_request r event {w} {o} {w₁} {o₁} {p} {q} {s} {n} N C S R = record {
  run = λ z m h.
      let a : (reserve (Purpose.EditWrite r) m >>= push (Effect.Request n (seam.Request.Create r event))) ≡ request (Purpose.EditWrite r) (seam.Request.Create r event) m =
      ap (λ (k : ℕ). reserve (Purpose.EditWrite r) m >>= push (Effect.Request k (seam.Request.Create r event))) (N.is m.state h.keeps) ∙ steps.request_is (Purpose.EditWrite r) (seam.Request.Create r event) m in
      let g : create_effect n r m.state ≡ Some (Effect.Request n (seam.Request.Create r event)) = create_given n r m.state event (R.is m.state h.keeps) in
      subst (λ (x : Run). Ran x s w₁ o₁) a
      (ran_sends (create_effect n r) m.state (Effect.Request n (seam.Request.Create r event)) g S (reserve (Purpose.EditWrite r) m)
      (model.weaken (reserve_edits (Purpose.EditWrite r) m) (λ m' y. create_given n r m'.state event (R.is m.state h.keeps ∙ ap (λ x. created (nth 0 (queue_in r x))) (sym y))))
      ((C.does o).run z m h));
  stays = λ d. let k = (C.does o).stays d in S.stays (λ z. d (sym k ∙ z)) ∙ k;
  state = (C.does o).state;
}
