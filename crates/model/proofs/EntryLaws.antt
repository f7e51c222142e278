-- The entry over the lent bytes: which bytes are a state, demand 1, and that a list of calls of the entry is a list of calls of the
-- engine. Assumes nothing.
use Rattle.std.specs.Prelude.{Option, Some, None}
use native.Mathlib.Omega.{arith}
use mathlib.Core.Path.{◌≡◌, refl, ap, ◌∙◌}
use mathlib.Core.List.{List, [], ◌∷◌}
use mathlib.Core.Bool.{Bool, true, false}
use mathlib.Core.Logic.{◌↔◌}
use Rattle.format.specs.Format.{via, enum, whole_of}
use Rattle.format.proofs.WholeLaws.{whole}
use Rattle.model.specs.Calls.{Input}
use Rattle.model.specs.State.{SyncState}
use Rattle.model.specs.Limits.{Limits}
use Rattle.model.specs.Maps.{when◌then◌else◌}
use Rattle.model.specs.Formats.{Bytes, input_f}
use Rattle.model.specs.Machine.{match◌none:◌some:◌}
use Rattle.model.specs.Sync.{Stepped}
use Rattle.model.specs.WellFormed.{WellFormed}
use Rattle.model.specs.Layout.{state_layout}
use Rattle.model.specs.Entry.{Lent, Returned, WellFormedBytes, lengths_right, read_state, decode, step_frame, step_bytes, leaves, answered, entry}
use Rattle.model.specs.Demands.{Call, lend, call, state_after, after_calls, answer_of, bytes_after_calls, EveryCall, EntryCalls}
use Rattle.model.proofs.Bytes.{accepted}
use Rattle.model.proofs.LayoutLaws.{state_bytes_law, state_there, state_back}
use Rattle.model.proofs.StaysWellFormed.{stays_well_formed, step_well_formed}

-- bytes are read as a state exactly where they are those of that well-formed state
pub states_exact : (limits : Limits) (bytes : Bytes) (s : SyncState)
    → (read_state limits bytes ≡ Some s) ↔ (WellFormed limits s × (bytes ≡ (state_layout limits).enc s))
unfolding read_state
states_exact limits bytes s =
    let w = whole (state_bytes_law limits) bytes s in
    (λ e. let p = w.0 e in (state_back limits s p.0, p.1), λ p. w.1 (state_there limits s p.0, p.1))

-- no bytes are no input
pub no_bytes : decode [] ≡ None
unfolding decode whole_of input_f via enum
no_bytes = refl

-- ---- demand 1

module _ (limits : Limits) (lent : Lent) (frame : Bytes) where
  abbrev Kept : Returned → Type 0
  Kept a = (a.code ≡ 0 → ⊥) → a.lent.state ≡ lent.state

  abbrev Well : Returned → Type 0
  Well a = a.code ≡ 0 → WellFormedBytes limits a.lent.state

  kept_answer : (r : Stepped) → Kept (answered limits lent r)
  unfolding answered leaves
  kept_answer (Stepped.Refused n) h = refl
  kept_answer (Stepped.Done s out) h = absurd (h refl)

  kept : (b : Bool) (r : Stepped) → Kept (when b then answered limits lent r else record { code = 1; length = 0; lent = lent })
  unfolding when◌then◌else◌
  kept true r h = kept_answer r h
  kept false r h = refl

  well_answer : (s : SyncState) → WellFormed limits s → lent.state ≡ (state_layout limits).enc s
      → (r : Stepped) → WellFormed limits (state_after s r) → Well (answered limits lent r)
  unfolding answered leaves state_after
  well_answer s w e (Stepped.Refused n) v h = record { state = s; well = w; is = e }
  well_answer s w e (Stepped.Done s' out) v h = record { state = s'; well = v; is = refl }

  well_step : (s : SyncState) → WellFormed limits s → (o : Option Input) → decode frame ≡ o → WellFormed limits (state_after s (step_frame limits s o))
  unfolding step_frame state_after decode
  well_step s w None e = w
  well_step s w (Some input) e = step_well_formed limits s input w ((accepted frame input).0 e).0

  well : (b : Bool) (o : Option SyncState) → read_state limits lent.state ≡ o
      → Well (when b then answered limits lent (match o none: Stepped.Refused 2 some: (λ s. step_frame limits s (decode frame))) else record { code = 1; length = 0; lent = lent })
  unfolding when◌then◌else◌ match◌none:◌some:◌ answered leaves
  well true None e h = absurd (omega arith)
  well true (Some s) e h =
      let p = (states_exact limits lent.state s).0 e in
      well_answer s p.0 p.1 (step_frame limits s (decode frame)) (well_step s p.0 (decode frame) refl) h
  well false o e h = absurd (omega arith)

pub demand_1 : EveryCall
unfolding entry step_bytes
demand_1 limits lent frame = record {
  refused = kept limits lent frame (lengths_right limits lent) (step_bytes limits lent.state frame);
  accepted = well limits lent frame (lengths_right limits lent) (read_state limits lent.state) refl;
}

-- ---- the calls of the entry are the calls of the engine

module _ (limits : Limits) where
  abbrev untouched : Lent → Returned
  untouched lent = record { code = 1; length = 0; lent = lent }

  one_of : (lent : Lent) (frame : Bytes) (s : SyncState) (b : Bool) (o : Option SyncState) → o ≡ Some s
      → (when b then answered limits lent (match o none: Stepped.Refused 2 some: (λ s. step_frame limits s (decode frame))) else untouched lent)
      ≡ (when b then answered limits lent (when b then step_frame limits s (decode frame) else Stepped.Refused 1) else untouched lent)
  unfolding when◌then◌else◌ match◌none:◌some:◌
  one_of lent frame s true o e = rw e
  one_of lent frame s false o e = refl

  one : (s : SyncState) → WellFormed limits s → (c : Call) → entry limits (lend limits s c) c.frame ≡ answer_of limits s c
  unfolding entry step_bytes answer_of call lend
  one s w c =
      one_of (lend limits s c) c.frame s (lengths_right limits (lend limits s c)) (read_state limits ((state_layout limits).enc s))
      ((states_exact limits ((state_layout limits).enc s) s).1 (w, refl))

  -- what a call leaves in the state's buffer
  left : (lent : Lent) (s : SyncState) (b : Bool) (r : Stepped) → lent.state ≡ (state_layout limits).enc s
      → (when b then answered limits lent (when b then r else Stepped.Refused 1) else untouched lent).lent.state
      ≡ (state_layout limits).enc (state_after s (when b then r else Stepped.Refused 1))
  unfolding when◌then◌else◌ answered leaves state_after
  left lent s true (Stepped.Refused n) e = e
  left lent s true (Stepped.Done s' out) e = refl
  left lent s false r e = e

  list_of : (s : SyncState) → WellFormed limits s → (calls : List Call) → bytes_after_calls limits ((state_layout limits).enc s) calls ≡ (state_layout limits).enc (after_calls limits s calls)
  unfolding bytes_after_calls after_calls answer_of call lend
  list_of s w [] = refl
  list_of s w (c ∷ cs) =
      let e : (entry limits (lend limits s c) c.frame).lent.state ≡ (state_layout limits).enc (state_after s (call limits s c)) =
      ap (λ (a : Returned). a.lent.state) (one s w c) ∙ left (lend limits s c) s (lengths_right limits (lend limits s c)) (step_frame limits s (decode c.frame)) refl in
      ap (λ (b : Bytes). bytes_after_calls limits b cs) e ∙ list_of (state_after s (call limits s c)) (stays_well_formed limits s w c) cs

pub entry_calls : EntryCalls
entry_calls limits s w = record { one = one limits s w; list = list_of limits s w }
