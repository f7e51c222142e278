-- What is lost with a restart, and asked for again. Assumes nothing.
use Rattle.std.specs.Prelude.{Option, Some, None}
use Prim.Native.Nat.{ℕ}
use mathlib.Core.Path.{◌≡◌, refl, sym, ap, ◌∙◌}
use mathlib.Core.List.{List, [], ◌∷◌}
use mathlib.Core.Bool.{Bool, true, false, false≢true}
use Rattle.format.specs.Format.{All, via, enum, ◌∣◌}
use Rattle.model.specs.Seam.{ResourceId, RequestId, Request}
use Rattle.model.specs.Maps.{when◌then◌else◌, map, keys, values, filter_map, is_some}
use Rattle.model.specs.Formats.{resource_id, u64}
use Rattle.model.specs.SavedForm.{purpose_f}
use Rattle.model.specs.State.{Map, Pass, Queue, Purpose, with_in_flight}
use Rattle.model.specs.Machine.{Machine, ok, ◌>>=◌, for_each, match◌none:◌some:◌, request, in_pass, with_state, set_in_flight, set_queue}
use Rattle.model.specs.Sync.{doubt, refreshed, change_front, change_head, without_plan, start_edit, restart_edit, read_unread, resume_pass, resume}
use Rattle.state.specs.Layout.{name_slot, pass_of}
use Rattle.state.specs.Contract.{HasState, Reads, Edits}
use Rattle.state.specs.Values.{name_of, EachNamed}
use Rattle.state.proofs.Names.{each_named}
use Rattle.flights.specs.Asked.{lost}
use Rattle.observe.proofs.Each as each
use Rattle.waiting.specs.Queues.{queue, put_queue}
use Rattle.waiting.proofs.Bridge.{queue_is, set_queue_is}
use Rattle.waiting.proofs.Keys.{keys_ok}
use Rattle.machine.specs.declared.Progress.{Progress}
use Rattle.machine.specs.Contract.{Does}
use Rattle.machine.proofs.Runs as runs
use Rattle.passes.specs.Reading.{request_from}
use Rattle.restarts.specs.Resuming.{doubt_lost, restart_edits}

-- ---- the Refreshes that were in flight

-- their names are names
lost_ok : (m : Map RequestId Purpose) → All (λ e. u64.Ok e.0 × purpose_f.Ok e.1) m → All resource_id.Ok (filter_map refreshed (values m))
unfolding filter_map values map refreshed purpose_f via enum ◌∣◌
lost_ok [] a = tt
lost_ok (e ∷ m) a = go e.1 a.0.1 (lost_ok m a.1)
  where
    go : (p : Purpose) → purpose_f.Ok p → All resource_id.Ok (filter_map refreshed (values m)) → All resource_id.Ok (filter_map refreshed (p ∷ values m))
    go Purpose.List k h = h
    go (Purpose.PassRead r) k h = h
    go (Purpose.EditRead r) k h = h
    go (Purpose.EditWrite r) k h = h
    go (Purpose.Refresh r) k h = (k, h)

module _ (w : List ℕ) (names : List (List ℕ)) (K : HasState w) (R : Reads (λ s. map name_slot (lost s)) w names) where
  pub lost_named : EachNamed names
  lost_named = each_named names (lost K.state) (R.is K.state K.keeps) (lost_ok K.state.in_flight K.keeps.fits.in_flight.each)

  pub doubts_lost : {w₁ o w' o' : List ℕ} {p q : Progress} → Edits (with_in_flight []) w w₁ → Does (for_each doubt (map name_of names)) w₁ o p q w' o' → Does doubt_lost w o p q w' o'
  unfolding set_in_flight
  doubts_lost E D =
      runs.is doubt_lost (λ m. refl)
      (each.for_state (λ l m. for_each doubt l (set_in_flight [] m)) lost K (λ s h. runs.edit {g = for_each doubt (lost s)} E (each.names_are doubt names (lost s) (R.is s h) D)))

-- ---- the heads of the queues

cleared : (r : ResourceId) (m : Machine) → with_state (put_queue r (change_front without_plan (queue r m.state)) m.state) m ≡ change_head without_plan r m
unfolding change_head
cleared r m = sym (set_queue_is r (change_front without_plan (queue r m.state)) m) ∙ ap (λ (q : Queue). set_queue r (change_front without_plan q) m) (sym (queue_is r m))

pub restarts : {w w₁ o w' o' : List ℕ} {p q : Progress} (r : ResourceId) → Edits (λ s. put_queue r (change_front without_plan (queue r s)) s) w w₁ → Does (start_edit r) w₁ o p q w' o'
    → Does (restart_edit r) w o p q w' o'
unfolding restart_edit
restarts r E D = runs.is (restart_edit r) (λ m. ap (start_edit r) (cleared r m)) (runs.edit {g = start_edit r} E D)

pub queues_named : (w : List ℕ) (names : List (List ℕ)) → HasState w → Reads (λ s. map name_slot (keys s.edits)) w names → EachNamed names
queues_named w names K R = each_named names (keys K.state.edits) (R.is K.state K.keeps) (keys_ok K.state.edits K.keeps.fits.edits.each)

-- ---- the open pass

pub pass_closed : {w o : List ℕ} {p : Progress} {v : Bool} → Reads (λ s. is_some s.pass) w v → v ≡ false → Does (in_pass resume_pass) w o p p w o
unfolding in_pass match◌none:◌some:◌ is_some
pass_closed R e = runs.is_held (in_pass resume_pass) (λ m h. go m m.state.pass (sym e ∙ R.is m.state h.keeps)) runs.nothing
  where
    go : (m : Machine) (o : Option Pass) → false ≡ is_some o → ok m ≡ (match o none: ok m some: (λ pass. resume_pass pass m))
    go m None e = refl
    go m (Some p) e = absurd (false≢true e)

pub pass_listed : {w o w' o' : List ℕ} {p q : Progress} {v d : Bool} → Reads (λ s. is_some s.pass) w v → v ≡ true → Reads (λ s. is_some (pass_of s.pass).done) w d → d ≡ true
    → Does read_unread w o p q w' o' → Does (in_pass resume_pass) w o p q w' o'
unfolding in_pass match◌none:◌some:◌ is_some pass_of resume_pass when◌then◌else◌ ◌>>=◌
pass_listed R e S f D =
    runs.is_held (in_pass resume_pass) (λ m h. go m m.state.pass (sym e ∙ R.is m.state h.keeps) (sym f ∙ S.is m.state h.keeps)) D
  where
    go : (m : Machine) (o : Option Pass) → true ≡ is_some o → true ≡ is_some (pass_of o).done → read_unread m ≡ (match o none: ok m some: (λ pass. resume_pass pass m))
    go m None e f = absurd (false≢true (sym e))
    go m (Some p) e f = rw (← f)

pub pass_asks : {w o w₁ o₁ w' o' : List ℕ} {p q r : Progress} {v d : Bool} → Reads (λ s. is_some s.pass) w v → v ≡ true → Reads (λ s. is_some (pass_of s.pass).done) w d → d ≡ false
    → Does request_from w o p q w₁ o₁ → Does read_unread w₁ o₁ q r w' o' → Does (in_pass resume_pass) w o p r w' o'
unfolding request_from in_pass match◌none:◌some:◌ is_some pass_of resume_pass when◌then◌else◌ ◌>>=◌
pass_asks R e S f D U =
    runs.is_held (in_pass resume_pass) (λ m h. go m m.state.pass refl (sym e ∙ R.is m.state h.keeps) (sym f ∙ S.is m.state h.keeps)) (runs.next D U)
  where
    go : (m : Machine) (o : Option Pass) → m.state.pass ≡ o → true ≡ is_some o → false ≡ is_some (pass_of o).done
        → (request Purpose.List (Request.List (pass_of o).from) m >>= read_unread) ≡ (match o none: ok m some: (λ pass. resume_pass pass m))
    go m None q e f = absurd (false≢true (sym e))
    go m (Some p) q e f = rw (← f)

-- ---- the whole of it

pub resumed : {w o w₁ o₁ w₂ o₂ w₃ o₃ : List ℕ} {p q r s : Progress} → Does doubt_lost w o p q w₁ o₁ → Does (in_pass resume_pass) w₁ o₁ q r w₂ o₂ → Does restart_edits w₂ o₂ r s w₃ o₃ → Does resume w o p s w₃ o₃
unfolding resume
resumed D P R = runs.is resume (λ m. refl) (runs.next D (runs.next P R))
