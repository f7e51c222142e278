-- Calls of `step` meet the three demands, and refuse for no other reason. Assumes nothing.
use Rattle.std.specs.Prelude.{Some}
use mathlib.Core.Path.{◌≡◌, refl, sym, ap, ◌∙◌, subst}
use mathlib.Core.List.{List, [], ◌∷◌}
use mathlib.Core.Bool.{Bool, true, false}
use lib.Dec.{T}
use Rattle.model.specs.Calls.{Input, Effect}
use Rattle.model.specs.State.{SyncState}
use Rattle.model.specs.Limits.{document01}
use Rattle.model.specs.Maps.{when◌then◌else◌, map}
use Rattle.model.specs.Formats.{Bytes, input_f}
use Rattle.model.specs.Machine.{match◌none:◌some:◌}
use Rattle.model.specs.Sync.{Stepped, step}
use Rattle.model.specs.WellFormed.{WellFormed}
use Rattle.model.specs.Layout.{state_layout}
use Rattle.model.specs.Entry.{Lent, Returned, WellFormedBytes, lengths_right, read_state, decode, step_frame, step_bytes, leaves, answered, entry}
use Rattle.model.specs.Demands.{lend, call, state_after, after_calls, answer_of, bytes_after_calls, Codes}
use Rattle.model.proofs.Theorems as model
use Rattle.engine.specs.Demands.{Called, Demand1, NothingElse, Demand2, Linked, left, plain, Answers, Meets}

entry_is : (lent : Lent) (frame : Bytes) (s : SyncState) (i : Input) (b : Bool) → T b → lengths_right document01 lent ≡ b → read_state document01 lent.state ≡ Some s → decode frame ≡ Some i
    → entry document01 lent frame ≡ answered document01 lent (step document01 s i)
unfolding entry step_bytes when◌then◌else◌ match◌none:◌some:◌ step_frame
entry_is lent frame s i true t l e d = rw (l, e, d)
entry_is lent frame s i false t l e d = absurd t

pub demand_2 : (c : Called) (s : SyncState) → WellFormed document01 s → (i : Input) → input_f.Ok i → Demand2 c s i
unfolding decode
demand_2 c s w i ok = record {
  same = λ l e f. c.is ∙ entry_is c.lent c.frame s i (lengths_right document01 c.lent) l refl
      ((model.states_exact document01 c.lent.state s).1 (w, e)) ((model.accepted c.frame i).1 (ok, f));
}

done_code : (lent : Lent) (r : Stepped) (s : SyncState) (effects : List Effect) → r ≡ Stepped.Done s effects → (answered document01 lent r).code ≡ 0
unfolding answered leaves
done_code lent r s effects e = rw e

pub nothing_else : (c : Called) → NothingElse c
nothing_else c = subst (λ (a : Returned). Codes document01 c.lent c.frame a.code) (sym c.is) (model.nothing_else_refuses document01 c.lent c.frame)

pub demand_1 : (c : Called) → Demand1 c
demand_1 c =
    let d = model.demand_1 document01 c.lent c.frame in
    record {
      refused = λ n. ap (λ (a : Returned). a.lent.state) c.is ∙ d.refused (λ z. n (ap (λ (a : Returned). a.code) c.is ∙ z));
      accepted = λ z. subst (λ (a : Returned). WellFormedBytes document01 a.lent.state) (sym c.is) (d.accepted (sym (ap (λ (a : Returned). a.code) c.is) ∙ z));
      others = λ s w i v s' effects e l b f.
          ap (λ (a : Returned). a.code) ((demand_2 c s w i v).same l b f) ∙ done_code c.lent (step document01 s i) s' effects e;
    }

-- lent the state's bytes, it answers what the model's call gives
one : (c : Called) (s : SyncState) → WellFormed document01 s → c.lent.state ≡ (state_layout document01).enc s → c.answer ≡ answer_of document01 s (plain c)
unfolding lend
one c s w e =
    c.is ∙ ap (λ (b : Bytes). entry document01 (record { state = b; work = c.lent.work; out = c.lent.out }) c.frame) e
    ∙ (model.entry_calls document01 s w).one (plain c)

-- and leaves the bytes of the model's next state
after : (c : Called) (s : SyncState) → WellFormed document01 s → c.lent.state ≡ (state_layout document01).enc s
    → c.answer.lent.state ≡ (state_layout document01).enc (state_after s (call document01 s (plain c)))
unfolding bytes_after_calls after_calls lend
after c s w e =
    ap (λ (a : Returned). a.lent.state) (one c s w e ∙ sym ((model.entry_calls document01 s w).one (plain c)))
    ∙ (model.entry_calls document01 s w).list (plain c ∷ [])

all_answer : (bytes : Bytes) (s : SyncState) → WellFormed document01 s → bytes ≡ (state_layout document01).enc s → (calls : List Called) → Linked bytes calls → Answers s calls
unfolding Linked Answers
all_answer bytes s w e [] h = tt
all_answer bytes s w e (c ∷ calls) h = (
  one c s w (h.0 ∙ e),
  all_answer c.answer.lent.state (state_after s (call document01 s (plain c))) (model.stays_well_formed document01 s w (plain c)) (after c s w (h.0 ∙ e)) calls h.1,
)

ends_at : (bytes : Bytes) (s : SyncState) → WellFormed document01 s → bytes ≡ (state_layout document01).enc s → (calls : List Called) → Linked bytes calls
    → left bytes calls ≡ (state_layout document01).enc (after_calls document01 s (map plain calls))
unfolding Linked left after_calls map
ends_at bytes s w e [] h = e
ends_at bytes s w e (c ∷ calls) h =
    ends_at c.answer.lent.state (state_after s (call document01 s (plain c))) (model.stays_well_formed document01 s w (plain c)) (after c s w (h.0 ∙ e)) calls h.1

-- from the bytes of any well-formed state, whatever is lent and whatever the frames are
pub demand_3 : (bytes : Bytes) (I : WellFormedBytes document01 bytes) (calls : List Called) → Linked bytes calls → Meets bytes I.state calls
demand_3 bytes I calls h = record {
  answers = all_answer bytes I.state I.well I.is calls h;
  end = ends_at bytes I.state I.well I.is calls h;
  demand3 = model.demand_3 document01 I.state I.well (map plain calls);
}
