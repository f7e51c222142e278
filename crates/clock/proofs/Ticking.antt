-- One queue at a tick, and all of them. Assumes nothing.
use Rattle.std.specs.Prelude.{Some}
use Prim.Native.Nat.{ℕ}
use mathlib.Core.Path.{◌≡◌, refl, sym, ap, ap₂, ◌∙◌, subst}
use mathlib.Core.List.{List, [], ◌∷◌}
use mathlib.Core.Bool.{Bool, true, false, not, ◌&&◌, false≢true}
use lib.ListN.{drop}
use Rattle.format.specs.Format.{stamp}
use Rattle.model.specs.Seam.{ResourceId}
use Rattle.model.specs.Edits.{Timestamp}
use Rattle.model.specs.State.{Pending, Queue, Purpose, SyncState}
use Rattle.model.specs.Maps.{when◌then◌else◌, any, filter, retain, is_some_and, values}
use Rattle.model.specs.Formats.{same}
use Rattle.model.specs.SavedForm.{purpose_f}
use Rattle.model.specs.Machine.{Machine, Run, ok, ◌>>=◌, for_each, with_state, set_in_flight, set_now, set_queue}
use Rattle.model.specs.Sync.{due, edit_reads, edit_writes, in_flight_any, drop_in_flight, start_edit, tell_expired, due_entries, kept_entries, tick_queue, tick_resource, tick}
use Rattle.model.proofs.Fitting.{any_same, filter_same}
use Rattle.state.specs.Setters.{with_in_flight, with_now}
use Rattle.state.specs.Contract.{Keeps, HasState, Reads, Edits}
use Rattle.state.proofs.Bridge as bridge
use Rattle.waiting.specs.Queues.{queue, put_queue, nth}
use Rattle.waiting.proofs.Bridge.{queue_is, set_queue_is}
use Rattle.queues.proofs.Starts.{reads_any}
use Rattle.machine.specs.declared.Progress.{Progress}
use Rattle.machine.specs.Contract.{Does}
use Rattle.machine.proofs.Runs as runs
use Rattle.observe.proofs.Each as each
use Rattle.clock.specs.Expiring.{tell_due, kept_behind, head_falls, tick_each}
use Rattle.waiting.proofs.Algebra as algebra

-- ---- whether the head goes

module _ (r : ResourceId) (at : Timestamp) {w : List ℕ} {b : Bool} (B : Reads (λ s. is_some_and (λ p. due at p.edit) (nth 0 (queue r s))) w b) where
  pub falls : {a : Bool} → b ≡ true → Reads (λ s. any (same purpose_f (Purpose.EditWrite r)) (values s.in_flight)) w a → Reads (head_falls at r) w (not a)
  falls {a} z A = record {
    is = λ s h. ap₂ (λ (x y : Bool). x && not y) (sym z ∙ B.is s h) (A.is s h ∙ any_same (same purpose_f (Purpose.EditWrite r)) (edit_writes r) (bridge.edit_writes_is r) (values s.in_flight));
  }

-- ---- one queue

-- without the reads of its edits
abbrev unread : ResourceId → SyncState → SyncState
unread r s = with_in_flight (filter (λ e. not (same purpose_f (Purpose.EditRead r) e.1)) s.in_flight) s

abbrev fallen : Timestamp → ResourceId → Queue → Machine → Run
fallen at r q m = tell_due at (drop 0 q) m >>= (λ m. start_edit r (with_state (put_queue r (kept_behind 0 at q) (unread r m.state)) m))

abbrev spared : Timestamp → ResourceId → Queue → Machine → Run
spared at r q m = tell_due at (drop 1 q) m >>= (λ m. ok (with_state (put_queue r (kept_behind 1 at q) m.state) m))

unread_is : (r : ResourceId) (m : Machine) → with_state (unread r m.state) m ≡ drop_in_flight (edit_reads r) m
unfolding drop_in_flight retain set_in_flight
unread_is r m = ap (λ x. with_state (with_in_flight x m.state) m) (filter_same (λ e. not (same purpose_f (Purpose.EditRead r) e.1)) (λ e. not (edit_reads r e.1)) (λ e. ap not (bridge.edit_reads_is r e.1)) m.state.in_flight)

put_unread : (r : ResourceId) (q : Queue) (m : Machine) → with_state (put_queue r q (unread r m.state)) m ≡ set_queue r q (drop_in_flight (edit_reads r) m)
put_unread r q m = sym (set_queue_is r q (with_state (unread r m.state) m)) ∙ ap (set_queue r q) (unread_is r m)

and_first : (a b : Bool) → (a && b) ≡ true → a ≡ true
and_first true b e = refl
and_first false b e = e

abbrev falls_as : Timestamp → ResourceId → Queue → Machine → Bool
falls_as at r q m = is_some_and (λ p. due at p.edit) (nth 0 q) && not (any (edit_writes r) (values m.state.in_flight))

told_first : (at : Timestamp) (p : Pending) (q : Queue) → due at p.edit ≡ true → due_entries at (p ∷ q) ≡ p ∷ due_entries at q
unfolding due_entries filter when◌then◌else◌
told_first at p q d = rw d

kept_first : (at : Timestamp) (p : Pending) (q : Queue) → due at p.edit ≡ true → kept_entries at (p ∷ q) ≡ kept_entries at q
unfolding kept_entries filter when◌then◌else◌
kept_first at p q d = rw d

falls_so : (at : Timestamp) (r : ResourceId) (m : Machine) (q : Queue) → falls_as at r q m ≡ true → fallen at r q m ≡ tick_queue at r q m
unfolding tick_queue is_some_and nth in_flight_any when◌then◌else◌
falls_so at r m [] t = absurd (false≢true t)
falls_so at r m (p ∷ q) t =
    let d : due at p.edit ≡ true = and_first (due at p.edit) (not (any (edit_writes r) (values m.state.in_flight))) t in
    rw t
    (ap (λ (l : Queue). for_each tell_expired l m >>= (λ m. start_edit r (with_state (put_queue r (kept_entries at (p ∷ q)) (unread r m.state)) m))) (told_first at p q d)
    ∙ each.bind_same (for_each tell_expired (p ∷ due_entries at q) m) _ (λ m. start_edit r (set_queue r (kept_entries at q) (drop_in_flight (edit_reads r) m)))
    (λ m. ap (start_edit r) (put_unread r (kept_entries at (p ∷ q)) m ∙ ap (λ (l : Queue). set_queue r l (drop_in_flight (edit_reads r) m)) (kept_first at p q d))))

spared_so : (at : Timestamp) (r : ResourceId) (m : Machine) (q : Queue) → put_queue r q m.state ≡ m.state → falls_as at r q m ≡ false → spared at r q m ≡ tick_queue at r q m
unfolding tick_queue is_some_and nth in_flight_any when◌then◌else◌ due_entries kept_entries filter for_each ◌>>=◌
spared_so at r m [] o t = ap (λ (s : SyncState). ok (with_state s m)) o
spared_so at r m (p ∷ q) o t =
    rw t (each.bind_same (for_each tell_expired (due_entries at q) m) _ (λ m. ok (set_queue r (p ∷ kept_entries at q) m)) (λ m. ap ok (sym (set_queue_is r (p ∷ kept_entries at q) m))))

module _ (at : Timestamp) (r : ResourceId) {w o o₁ : List ℕ} {p q : Progress} {b : Bool} (H : HasState w) (B : Reads (head_falls at r) w b) where
  pub tick_fallen : {w₁ w₂ w₃ o₃ : List ℕ} {s : Progress} → b ≡ true → ((l : Queue) → Reads (λ s. queue r s) w l → Does (tell_due at (drop 0 l)) w o p q w o₁) → Edits (unread r) w w₁
      → Edits (λ s. put_queue r (kept_behind 0 at (queue r s)) s) w₁ w₂ → Does (start_edit r) w₂ o₁ q s w₃ o₃ → Does (tick_resource at r) w o p s w₃ o₃
  unfolding tick_resource
  tick_fallen {w₂ = w₂} z T E F S =
      runs.is_held (tick_resource at r) (λ m h. falls_so at r m (queue r m.state) (sym (B.is m.state h.keeps) ∙ z) ∙ ap (λ (x : Queue). tick_queue at r x m) (sym (queue_is r m)))
      (each.for_state (fallen at r) (queue r) H (λ s h.
      let R : Reads (queue r) w (queue r s) = reads_any (queue r) (record { state = s; keeps = h }) in
      runs.next (T (queue r s) R) (runs.edit {f = λ x. put_queue r (kept_behind 0 at (queue r s)) (unread r x)} {g = start_edit r}
      (record { makes = λ x k. subst (λ (y : Queue). Keeps (put_queue r (kept_behind 0 at y) (unread r x)) w₂) (sym (R.is x k)) (F.makes (unread r x) (E.makes x k)) }) S)))

  pub tick_spared : {w₁ : List ℕ} → b ≡ false → ((l : Queue) → Reads (λ s. queue r s) w l → Does (tell_due at (drop 1 l)) w o p q w o₁)
      → Edits (λ s. put_queue r (kept_behind 1 at (queue r s)) s) w w₁ → Does (tick_resource at r) w o p q w₁ o₁
  unfolding tick_resource
  tick_spared {w₁} z T F =
      runs.is_held (tick_resource at r) (λ m h. spared_so at r m (queue r m.state) (algebra.put_own m.state h.keeps.fits r) (sym (B.is m.state h.keeps) ∙ z) ∙ ap (λ (x : Queue). tick_queue at r x m) (sym (queue_is r m)))
      (each.for_state (spared at r) (queue r) H (λ s h.
      let R : Reads (queue r) w (queue r s) = reads_any (queue r) (record { state = s; keeps = h }) in
      runs.next (T (queue r s) R) (runs.last_edit {f = λ x. put_queue r (kept_behind 1 at (queue r s)) x}
      (record { makes = λ x k. subst (λ (y : Queue). Keeps (put_queue r (kept_behind 1 at y) x) w₁) (sym (R.is x k)) (F.makes x k) }))))

-- a time as its bits give it
pub resource_at : (r : ResourceId) {x y : Timestamp} {w o w₁ o₁ : List ℕ} {p q : Progress} → x ≡ y → Does (tick_resource x r) w o p q w₁ o₁ → Does (tick_resource y r) w o p q w₁ o₁
resource_at r {w = w} {o} {w₁} {o₁} {p} {q} e D = subst (λ (t : Timestamp). Does (tick_resource t r) w o p q w₁ o₁) e D

pub each_at : {x y : Timestamp} {w o w₁ o₁ : List ℕ} {p q : Progress} → x ≡ y → Does (tick_each x) w o p q w₁ o₁ → Does (tick_each y) w o p q w₁ o₁
each_at {w = w} {o} {w₁} {o₁} {p} {q} e D = subst (λ (t : Timestamp). Does (tick_each t) w o p q w₁ o₁) e D

-- ---- all of them

pub ticks : (at : Timestamp) {x : Timestamp} {w w₁ o w₂ o₂ : List ℕ} {p q : Progress} → x ≡ at → stamp.Ok at → (stamp.Ok x → Edits (with_now (Some x)) w w₁) → Does (tick_each x) w₁ o p q w₂ o₂ → Does (tick at) w o p q w₂ o₂
unfolding tick set_now
ticks at {w = w} {w₁} e k E D =
    let F : stamp.Ok at → Edits (with_now (Some at)) w w₁ = subst (λ (t : Timestamp). stamp.Ok t → Edits (with_now (Some t)) w w₁) e E in
    runs.is (tick at) (λ m. refl) (runs.edit {g = tick_each at} (F k) (each_at e D))
