-- Change request 11/13, of the code: what is claimed of lists of uses from a fresh sender. A use is known by what its method ensures, and by nothing
-- else. Proved in proofs/CodeTheorems.antt. Assumes nothing.
use Rattle.std.specs.Prelude.{ℕ, ◌≤◌, ◌<◌, ◌≡◌, List, [], ◌∷◌, ◌++◌, map, length, take, get_or, eqb, ◌&&◌, Option, Some, None, Result, Ok, Err, is_ok}
use Rattle.model.specs.Maps.{when◌then◌else◌}
use Rattle.sender_turns.specs.Sender.{Call, Use, mills, calls, fresh, sender_over, told_over}
use Rattle.sender_turns.specs.Claims.{NoResume, Within, numbers_of}
use Rattle.sender_turns.specs.Laid.{lane_of, laid_out, Answers}
use Rattle.sender_turns.specs.declared.Sender.{Sender as SenderStruct}
use Rattle.sender_turns.specs.declared.Call.{Call as CallStruct}
use Rattle.sender_turns.specs.declared.Refusal.{Refusal}

-- a use: what the method was called with, the sender after it, what it answered, and what it ensures
pub record Used : Type 0 where
  pub asked : Use
  pub sender : SenderStruct
  pub after : SenderStruct
  pub answer : Result (Option CallStruct) Refusal
  pub is : Answers asked sender after answer

abbrev pub uses_of : List Used → List Use
uses_of l = map (λ u. u.asked) l

-- each use is of the sender that the use before it left
unfoldable pub Linked : SenderStruct → List Used → Type 0
Linked s [] = Unit {0}
Linked s (u ∷ l) = (u.sender ≡ s) × Linked u.after l

-- the sender that the uses leave
unfoldable pub left : SenderStruct → List Used → SenderStruct
left s [] = s
left s (u ∷ l) = left u.after l

-- the grant that an answer tells, if it tells one
unfoldable pub told_in : Result (Option CallStruct) Refusal → List Call
told_in (Ok (Some call)) = (call.mill, call.number) ∷ []
told_in (Ok None) = []
told_in (Err e) = []

-- the grants that the answers tell, in their order
unfoldable pub told : List Used → List Call
told [] = []
told (u ∷ l) = told_in u.answer ++ told l

-- a mill's requests that wait, and how many
unfoldable pub count_in : ℕ → SenderStruct → ℕ
count_in mill s = (get_or s.lanes mill (lane_of [])).count

unfoldable pub waiting_in : ℕ → SenderStruct → List ℕ
waiting_in mill s = take (count_in mill s) (get_or s.lanes mill (lane_of [])).numbers

-- what entered the mill's lane, in its order
unfoldable pub entered_by : ℕ → Use → Result (Option CallStruct) Refusal → List ℕ
entered_by mill (Use.Enter m number) r = when is_ok r && eqb mill m then number ∷ [] else []
entered_by mill (Use.Reply m number) r = []
entered_by mill (Use.Resume m) r = []

unfoldable pub entered_in : ℕ → List Used → List ℕ
entered_in mill [] = []
entered_in mill (u ∷ l) = entered_by mill u.asked u.answer ++ entered_in mill l

-- of uses from a fresh sender, and of uses after these
pub record Meets (start : SenderStruct) (before later : List Used) : Type 0 where
  -- what is told, and the sender that is left, are the definitions'
  pub tells : told later ≡ told_over (sender_over fresh (uses_of before)) (uses_of later)
  pub leaves : left start before ≡ laid_out (sender_over fresh (uses_of before))
  -- a lane with a request waiting, and not emptied by its own mill's Resume, gets a grant within the next eight grants
  pub fair : (mill : ℕ) → mill < mills → (count_in mill (left start before) ≡ 0 → ⊥) → NoResume mill (uses_of later)
      → mills ≤ length (told later) → Within mills mill (told later)
  -- a mill's order of requests is kept: what it is granted and then its lane are its lane before and then what entered
  pub ordered : (mill : ℕ) → mill < mills → NoResume mill (uses_of later)
      → numbers_of mill (told later) ++ waiting_in mill (left (left start before) later) ≡ waiting_in mill (left start before) ++ entered_in mill later
  -- never more than four are out
  pub few : (left start before).out ≤ calls
  -- every grant possible was made: where fewer are out, nothing waits
  pub none_possible : (left start before).out < calls → (mill : ℕ) → count_in mill (left start before) ≡ 0
  -- a mill alone may have all four: what enters while fewer are out is granted at once
  pub at_once : (u : Used) → u.sender ≡ left start before → (mill number : ℕ) → mill < mills → u.asked ≡ Use.Enter mill number
      → (left start before).out < calls → told (u ∷ []) ≡ (mill, number) ∷ []

-- the start is a fresh sender, as `fresh` ensures
abbrev pub EveryListOfUses : Type 0
EveryListOfUses = (start : SenderStruct) → start ≡ laid_out fresh → (before later : List Used) → Linked start before → Linked (left start before) later → Meets start before later
