-- A state is well-formed exactly where it fits its regions and keeps the rules across its tables. Assumes nothing.
use Rattle.std.specs.Prelude.{Option, Some, None}
use Prim.Native.Nat.{ℕ, ◌+◌, ◌≤◌, ◌<◌}
use native.Mathlib.Omega.{arith}
use mathlib.Core.Path.{◌≡◌, refl, sym, ap₂, ◌∙◌, subst}
use mathlib.Core.List.{[], ◌∷◌}
use mathlib.Core.Bool.{not}
use lib.ListN.{length, length-append}
use lib.Dec.{T, leb, le→leb}
use Rattle.format.specs.Format.{All, option, via, ◌⊗◌, enum, ◌∣◌, nothing, list, number}
use Rattle.model.specs.Seam.{ResourceId}
use Rattle.model.specs.State.{Map, Pass, Queue, SyncState}
use Rattle.model.specs.Limits.{Limits, max_conflict_bytes, max_refused_bytes}
use Rattle.model.specs.Maps.{by_name, same_text, map, is_empty, keys, values}
use Rattle.model.specs.Formats.{resource_id, conflicts_f, refusals_f, edit_f, list_from_f}
use Rattle.model.specs.SavedForm.{pass_f, pending_f, queue_f, state_f}
use Rattle.model.specs.Machine.{sum}
use Rattle.model.specs.Sync.{start}
use Rattle.model.specs.WellFormed.{all, if_any, rising, pass_rises, entry_rules, queue_rules, rules, WellFormed}
use Rattle.model.proofs.Tables.{and_left, and_right, and_both, same_self, same_is}
use Rattle.model.proofs.OneInFlight.{every_at}
use Rattle.model.proofs.Fits as model
use Rattle.model.proofs.StaysWellFormed.{start_fit, every_all}
use Rattle.model.proofs.Fitting.{length-map}
use Rattle.state.specs.Layout.{edit_slots, pass_of, no_pass}
use Rattle.state.specs.Fits.{PassFits, PendingFits, QueueFits, Fits}
use Rattle.state.proofs.Regions.{bool_ok}
use Rattle.wellformed.specs.Across.{Across}

module _ (L : Limits) where
  -- ---- the queues

  pending_fits : (r : ResourceId) (q : Queue) → All (model.Pended L r) q → All (PendingFits L r) q
  unfolding pending_f edit_f via ◌⊗◌ max_conflict_bytes max_refused_bytes
  pending_fits r [] a = tt
  pending_fits r (p ∷ q) a =
      let e = a.0.fits in (
        record {
          resource_is = same_is p.edit.resource r a.0.owned;
          id = e.0.0;
          operation = e.0.1.1.0;
          role = e.0.1.1.1.0;
          expires_at = e.0.1.1.1.1;
          conflicts = e.1.0;
          conflict_bytes = a.0.conflicts;
          refused = e.1.1.0;
          refused_bytes = a.0.refused;
          absorbed = e.1.1.1.1;
        },
        pending_fits r q a.1,
      )

  some_entry : (q : Queue) → T (not (is_empty q)) → 0 < length q
  unfolding is_empty
  some_entry [] t = absurd t
  some_entry (p ∷ q) t = omega arith

  queues_fit : (m : Map ResourceId Queue) → All (model.QueueFits L) m → T (all queue_rules m) → All (QueueFits L) m
  unfolding all queue_rules
  queues_fit [] a t = tt
  queues_fit (e ∷ m) a t =
      let here : T (queue_rules e) = and_left (queue_rules e) (all queue_rules m) t in (
        record {
          key = a.0.0;
          some = some_entry e.1 (and_left (not (is_empty e.1)) (all (entry_rules e.0) e.1) here);
          each = pending_fits e.0 e.1 a.0.1;
        },
        queues_fit m a.1 (and_right (queue_rules e) (all queue_rules m) t),
      )

  -- as many slots as entries
  pub slots_sum : (m : Map ResourceId Queue) → length (edit_slots L m) ≡ sum (map length (values m))
  unfolding edit_slots sum map values
  slots_sum [] = refl
  slots_sum (e ∷ m) = length-append (map _ e.1) (edit_slots L m) ∙ ap₂ ◌+◌ (length-map _ e.1) (slots_sum m)

  -- ---- well-formed states fit

  pass_fits : (o : Option Pass) → model.PassIfAny L o → PassFits L (pass_of o)
  unfolding pass_of no_pass rising keys map option via enum ◌∣◌ nothing list_from_f
  pass_fits None h = record {
    from = tt;
    staged = record { small = omega arith; each = tt; rises = tt };
    seen = record { small = omega arith; each = tt; rises = tt };
    observed = record { small = omega arith; each = tt; rises = tt };
    done = tt;
  }
  pass_fits (Some p) h = record {
    from = h.from;
    staged = record { small = h.staged.small; each = h.staged.each; rises = h.staged.rises };
    seen = record { small = h.seen.small; each = h.seen.each; rises = h.seen.rises };
    observed = record { small = h.observed.small; each = h.observed.each; rises = h.observed.rises };
    done = h.done;
  }

  pub fits_of : (s : SyncState) → WellFormed L s → Fits L s
  unfolding start rules number
  fits_of s w =
      let h = start_fit L s w in record {
        records = record { small = h.records.small; each = h.records.each; rises = h.records.rises };
        cursor = h.cursor;
        pass = pass_fits s.pass h.pass;
        edits = record {
          small = subst (λ (n : ℕ). n ≤ L.waiting) (sym (slots_sum s.edits)) h.waiting;
          each = queues_fit s.edits h.edits (every_at (rules L s) 7 w.ruled);
          rises = h.rises;
        };
        in_flight = record { small = h.in_flight.small; each = h.in_flight.each; rises = h.in_flight.rises };
        next_request = h.next_request;
        learned = record { small = h.learned.small; each = h.learned.each; rises = h.learned.rises };
        learned_all = h.learned_all;
        now = h.now;
        aliases = record { small = h.aliases.small; each = h.aliases.each; rises = h.aliases.rises };
      }

  pub across_of : (s : SyncState) → WellFormed L s → Across s
  unfolding rules
  across_of s w = record {
    below = every_at (rules L s) 8 w.ruled;
    one_each = every_at (rules L s) 9 w.ruled;
    queued = every_at (rules L s) 10 w.ruled;
  }

  -- ---- and back

  pending_ok : (r : ResourceId) (q : Queue) → resource_id.Ok r → All (PendingFits L r) q → All (pending_f L).Ok q
  unfolding pending_f edit_f via ◌⊗◌
  pending_ok r [] k a = tt
  pending_ok r (p ∷ q) k a =
      let h = a.0 in (
        (
          (h.id, (subst (λ (t : ResourceId). resource_id.Ok t) (sym h.resource_is) k, (h.operation, (h.role, h.expires_at)))),
          (h.conflicts, (h.refused, (bool_ok p.collided, h.absorbed))),
        ),
        pending_ok r q k a.1,
      )

  queues_ok : (m : Map ResourceId Queue) → All (QueueFits L) m → sum (map length (values m)) ≤ L.waiting → All (λ e. resource_id.Ok e.0 × (queue_f L).Ok e.1) m
  unfolding queue_f list values map sum
  queues_ok [] a l = tt
  queues_ok (e ∷ m) a l = ((a.0.key, (omega arith, pending_ok e.0 e.1 a.0.key a.0.each)), queues_ok m a.1 (omega arith))

  -- there are no more queues than entries
  queues_few : (m : Map ResourceId Queue) → All (QueueFits L) m → length m ≤ sum (map length (values m))
  unfolding values map sum
  queues_few [] a = omega arith
  queues_few (e ∷ m) a = let i = queues_few m a.1 in let j = a.0.some in omega arith

  entries_ruled : (r : ResourceId) (q : Queue) → All (PendingFits L r) q → T (all (entry_rules r) q)
  unfolding all entry_rules max_conflict_bytes max_refused_bytes
  entries_ruled r [] a = tt
  entries_ruled r (p ∷ q) a =
      let owned : T (same_text p.edit.resource r) = subst (λ (t : ResourceId). T (same_text t r)) (sym a.0.resource_is) (subst T (sym (same_self r)) tt) in
      and_both (entry_rules r p) (all (entry_rules r) q)
      (every_all (same_text p.edit.resource r ∷ leb (length (conflicts_f.enc p.conflicts)) max_conflict_bytes ∷ leb (length (refusals_f.enc p.refused)) max_refused_bytes ∷ [])
      (owned, (le→leb (length (conflicts_f.enc p.conflicts)) max_conflict_bytes a.0.conflict_bytes, (le→leb (length (refusals_f.enc p.refused)) max_refused_bytes a.0.refused_bytes, tt))))
      (entries_ruled r q a.1)

  not_empty : (q : Queue) → 0 < length q → T (not (is_empty q))
  unfolding is_empty
  not_empty [] h = absurd (omega arith)
  not_empty (p ∷ q) h = tt

  queues_ruled : (m : Map ResourceId Queue) → All (QueueFits L) m → T (all queue_rules m)
  unfolding all queue_rules
  queues_ruled [] a = tt
  queues_ruled (e ∷ m) a =
      and_both (queue_rules e) (all queue_rules m)
      (and_both (not (is_empty e.1)) (all (entry_rules e.0) e.1) (not_empty e.1 a.0.some) (entries_ruled e.0 e.1 a.0.each))
      (queues_ruled m a.1)

  pass_ok : (o : Option Pass) → PassFits L (pass_of o) → (option (pass_f L)).Ok o
  unfolding option pass_f via enum ◌∣◌ ◌⊗◌ list nothing pass_of
  pass_ok None h = tt
  pass_ok (Some p) h =
      (bool_ok p.full, (h.from, ((h.staged.small, h.staged.each), ((h.seen.small, h.seen.each), ((h.observed.small, h.observed.each), h.done)))))

  pass_ruled : (o : Option Pass) → PassFits L (pass_of o) → T (if_any pass_rises o)
  unfolding if_any pass_rises pass_of
  pass_ruled None h = tt
  pass_ruled (Some p) h =
      and_both (rising by_name (keys p.staged)) _ h.staged.rises (and_both (rising by_name p.seen) (rising by_name p.observed) h.seen.rises h.observed.rises)

  pub well_of : (s : SyncState) → Fits L s → Across s → WellFormed L s
  unfolding state_f via ◌⊗◌ list rules number
  well_of s h x =
      let w : sum (map length (values s.edits)) ≤ L.waiting = subst (λ (n : ℕ). n ≤ L.waiting) (slots_sum s.edits) h.edits.small in
      let few = queues_few s.edits h.edits.each in
      record {
        fits = (
          (h.records.small, h.records.each),
          (
            h.cursor,
            (
              pass_ok s.pass h.pass,
              (
                (omega arith, queues_ok s.edits h.edits.each w),
                ((h.in_flight.small, h.in_flight.each), (h.next_request, ((h.learned.small, h.learned.each), (h.learned_all, (h.now, (h.aliases.small, h.aliases.each)))))),
              ),
            ),
          ),
        );
        ruled = every_all (rules L s) (
          h.records.rises,
          (
            pass_ruled s.pass h.pass,
            (
              h.edits.rises,
              (
                h.in_flight.rises,
                (
                  h.learned.rises,
                  (
                    h.aliases.rises,
                    (le→leb (sum (map length (values s.edits))) L.waiting w, (queues_ruled s.edits h.edits.each, (x.below, (x.one_each, (x.queued, tt))))),
                  ),
                ),
              ),
            ),
          ),
        );
      }
