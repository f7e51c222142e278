-- The three demands of `step`, over lists of its calls on lent bytes, and that nothing else refuses. A call is known by what `step` ensures of it, and by nothing
-- else. Theorems.antt of proofs/ has the proofs. Assumes nothing.
use Rattle.std.specs.Prelude.{◌≡◌, List, [], ◌∷◌, T}
use Rattle.model.specs.Calls.{Input, Effect}
use Rattle.model.specs.State.{SyncState}
use Rattle.model.specs.Limits.{document01}
use Rattle.model.specs.Maps.{map}
use Rattle.model.specs.Formats.{Bytes, input_f}
use Rattle.model.specs.Sync.{Stepped, step}
use Rattle.model.specs.WellFormed.{WellFormed}
use Rattle.model.specs.Layout.{state_layout}
use Rattle.model.specs.Entry.{Lent, Returned, WellFormedBytes, lengths_right, answered, entry}
use Rattle.model.specs.Demands.{Call, call, state_after, after_calls, answer_of, Demand3, Codes}

-- a call of `step`
pub record Called : Type 0 where
  pub lent : Lent
  pub frame : Bytes
  -- what it answered, and the buffers as it left them
  pub answer : Returned
  -- what `step` ensures
  pub is : answer ≡ entry document01 lent frame

-- ---- demand 1

pub record Demand1 (c : Called) : Type 0 where
  -- a refused call keeps the state
  pub refused : (c.answer.code ≡ 0 → ⊥) → c.answer.lent.state ≡ c.lent.state
  -- an accepted one leaves a well-formed state
  pub accepted : c.answer.code ≡ 0 → WellFormedBytes document01 c.answer.lent.state
  -- right lengths, a well-formed state, an input and a step that the definitions do not refuse: it is accepted
  pub others : (s : SyncState) → WellFormed document01 s → (i : Input) → input_f.Ok i → (s' : SyncState) (effects : List Effect) → step document01 s i ≡ Stepped.Done s' effects
      → T (lengths_right document01 c.lent) → c.lent.state ≡ (state_layout document01).enc s → c.frame ≡ input_f.enc i → c.answer.code ≡ 0

-- ---- nothing else refuses

-- its code is one of 0 to 7, with the reason that document 01 gives for it, and no other
abbrev pub NothingElse : Called → Type 0
NothingElse c = Codes document01 c.lent c.frame c.answer.code

-- ---- demand 2

-- lent the bytes of a well-formed state and of an input, it answers what the model's `step` gives
pub record Demand2 (c : Called) (s : SyncState) (i : Input) : Type 0 where
  pub same : T (lengths_right document01 c.lent) → c.lent.state ≡ (state_layout document01).enc s → c.frame ≡ input_f.enc i
      → c.answer ≡ answered document01 c.lent (step document01 s i)

-- ---- demand 3

-- each call is lent the state's bytes as the call before left them
unfoldable pub Linked : Bytes → List Called → Type 0
Linked bytes [] = Unit {0}
Linked bytes (c ∷ calls) = (c.lent.state ≡ bytes) × Linked c.answer.lent.state calls

-- the state's bytes after the calls
unfoldable pub left : Bytes → List Called → Bytes
left bytes [] = bytes
left bytes (c ∷ calls) = left c.answer.lent.state calls

-- what the model's list of calls has of a call
abbrev pub plain : Called → Call
plain c = record { work = c.lent.work; out = c.lent.out; frame = c.frame }

-- each call answers what the model's call gives from the state that the calls before left
unfoldable pub Answers : SyncState → List Called → Type 0
Answers s [] = Unit {0}
Answers s (c ∷ calls) = (c.answer ≡ answer_of document01 s (plain c)) × Answers (state_after s (call document01 s (plain c))) calls

pub record Meets (bytes : Bytes) (s : SyncState) (calls : List Called) : Type 0 where
  pub answers : Answers s calls
  -- the state's bytes at the end are those of the model's state at the end
  pub end : left bytes calls ≡ (state_layout document01).enc (after_calls document01 s (map plain calls))
  pub demand3 : Demand3 document01 s (map plain calls)
