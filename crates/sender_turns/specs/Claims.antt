-- Change request 11/13: what is claimed of a sender. Proved in proofs/Theorems.antt. Assumes nothing.
use Rattle.std.specs.Prelude.{ℕ, ◌-◌, ◌≤◌, ◌<◌, ◌≡◌, List, [], ◌∷◌, ◌++◌, Bool, false, not, length, set, take, eqb, T, Some, None}
use Rattle.format.specs.Format.{All}
use Rattle.model.specs.Maps.{when◌then◌else◌, any, filter_map, is_empty}
use Rattle.sender_turns.specs.Sender.{Call, Sender, Use, Answer, mills, calls, lane_size, fresh, lane, after, same_call, mill_of, used, sender_after, told_by, sender_over, told_over}

-- ---- within the next eight grants

unfoldable pub resumes : ℕ → Use → Bool
resumes mill (Use.Enter m number) = false
resumes mill (Use.Reply m number) = false
resumes mill (Use.Resume m) = eqb mill m

unfoldable pub for_mill : ℕ → Call → Bool
for_mill mill call = eqb mill call.0

abbrev pub Waits : ℕ → Sender → Type 0
Waits mill s = T (not (is_empty (lane mill s.lanes)))

-- no Resume of the mill is among the uses
abbrev pub NoResume : ℕ → List Use → Type 0
NoResume mill uses = T (not (any (resumes mill) uses))

-- one of the first so many calls is the mill's
abbrev pub Within : ℕ → ℕ → List Call → Type 0
Within n mill told = T (any (for_mill mill) (take n told))

-- from a fresh sender, over any uses, a lane with a request waiting, and not emptied by its own mill's Resume, gets a grant within the
-- next eight grants
abbrev pub FairTurns : Type 0
FairTurns = (before uses : List Use) (mill : ℕ) → mill < mills → Waits mill (sender_over fresh before) → NoResume mill uses
    → mills ≤ length (told_over (sender_over fresh before) uses) → Within mills mill (told_over (sender_over fresh before) uses)

-- and no fewer would do: here the lane's grant is the eighth
pub record EightIsExact : Type 0 where
  pub before : List Use
  pub uses : List Use
  pub mill : ℕ
  pub there : mill < mills
  pub waits : Waits mill (sender_over fresh before)
  pub quiet : NoResume mill uses
  pub told : length (told_over (sender_over fresh before) uses) ≡ mills
  pub not_sooner : T (not (any (for_mill mill) (take (mills - 1) (told_over (sender_over fresh before) uses))))

-- ---- a mill's order of requests is kept

-- what a use puts behind the mill's lane, if it is accepted, and what it leaves of the lane first
unfoldable pub entered : ℕ → Use → Answer → List ℕ
entered mill (Use.Enter m number) (Answer.Done t) = when eqb mill m then number ∷ [] else []
entered mill (Use.Enter m number) (Answer.Refused n) = []
entered mill (Use.Reply m number) answer = []
entered mill (Use.Resume m) answer = []

unfoldable pub left_of : ℕ → Use → List ℕ → List ℕ
left_of mill (Use.Enter m number) l = l
left_of mill (Use.Reply m number) l = l
left_of mill (Use.Resume m) l = when eqb mill m then [] else l

unfoldable pub numbers_of : ℕ → List Call → List ℕ
numbers_of mill told = filter_map (λ call. when for_mill mill call then Some call.1 else None) told

-- what the uses put behind the mill's lane, in their order
unfoldable pub entered_over : ℕ → Sender → List Use → List ℕ
entered_over mill s [] = []
entered_over mill s (u ∷ uses) = entered mill u (used u s) ++ entered_over mill (sender_after s (used u s)) uses

-- what a use grants the mill and then its lane are its lane before, emptied by its own Resume, and then what entered
abbrev pub OrderKept : Type 0
OrderKept = (s : Sender) (u : Use) (mill : ℕ) → mill < mills → length s.lanes ≡ mills
    → numbers_of mill (told_by (used u s)) ++ lane mill (sender_after s (used u s)).lanes ≡ left_of mill u (lane mill s.lanes) ++ entered mill u (used u s)

-- so over any uses, from one Resume of the mill to the next: it is granted what entered, in that order
abbrev pub OrderKeptOver : Type 0
OrderKeptOver = (before uses : List Use) (mill : ℕ) → mill < mills → NoResume mill uses
    → numbers_of mill (told_over (sender_over fresh before) uses) ++ lane mill (sender_over (sender_over fresh before) uses).lanes
    ≡ lane mill (sender_over fresh before).lanes ++ entered_over mill (sender_over fresh before) uses

-- ---- what every use leaves

-- the mill of the last call
unfoldable pub last_mill : List Call → ℕ
last_mill [] = 0
last_mill (c ∷ []) = c.0
last_mill (c ∷ d ∷ out) = last_mill (d ∷ out)

pub record Settled (s : Sender) : Type 0 where
  pub eight : length s.lanes ≡ mills
  pub short : (mill : ℕ) → length (lane mill s.lanes) ≤ lane_size
  pub at : s.turn < mills
  -- the calls out are those of the eight mills, and never more than four
  pub there : All (λ c. c.0 < mills) s.out
  pub within : length s.out ≤ calls
  -- every grant possible was made: four are out, or nothing waits
  pub none_possible : (calls ≤ length s.out → ⊥) → (mill : ℕ) → lane mill s.lanes ≡ []
  -- while four are out, the last of them is the last granted
  pub last : calls ≤ length s.out → s.turn ≡ after (last_mill s.out)

abbrev pub StaysSettled : Type 0
StaysSettled = (s : Sender) → Settled s → (u : Use) → Settled (sender_after s (used u s))

-- the number that a use carries, if it has one
unfoldable pub carried : Use → List ℕ
carried (Use.Enter mill number) = number ∷ []
carried (Use.Reply mill number) = number ∷ []
carried (Use.Resume mill) = []

-- some uses of a fresh sender lead to it, of the eight mills and with numbers below the bound
pub record Reached (bound : ℕ) (s : Sender) : Type 0 where
  pub uses : List Use
  pub given : All (λ u. (mill_of u < mills) × All (λ n. n < bound) (carried u)) uses
  pub is : sender_over fresh uses ≡ s

-- every number that waits or is out is below the bound
pub record Numbered (bound : ℕ) (s : Sender) : Type 0 where
  pub waiting : All (All (λ n. n < bound)) s.lanes
  pub out : All (λ c. c.1 < bound) s.out

-- a sender is settled, with its numbers below the bound, exactly where such uses lead to it: for each bound from four on (the code's is 2 ^ 64)
pub record SettledIsReached (bound : ℕ) (s : Sender) : Type 0 where
  pub settled : Reached bound s → Settled s × Numbered bound s
  pub reached : Settled s → Numbered bound s → Reached bound s

-- a use grants at most once
abbrev pub OneGrant : Type 0
OneGrant = (s : Sender) → Settled s → (u : Use) → length (told_by (used u s)) ≤ 1

-- ---- what frees nothing

-- a reply whose mill and number are not out changes nothing
abbrev pub UnknownReply : Type 0
UnknownReply = (s : Sender) → Settled s → (mill number : ℕ) → mill < mills → T (not (any (same_call (mill, number)) s.out))
    → used (Use.Reply mill number) s ≡ Answer.Done (record { grants = []; sender = s })

-- a Resume empties its mill's lane and changes nothing else: the calls out hold their share
abbrev pub ResumeEmpties : Type 0
ResumeEmpties = (s : Sender) → Settled s → (mill : ℕ) → mill < mills
    → used (Use.Resume mill) s ≡ Answer.Done (record { grants = []; sender = record { lanes = set s.lanes mill []; out = s.out; turn = s.turn } })

-- ---- a mill alone may have all four

-- a request that enters while fewer than four calls are out is granted at once
abbrev pub GrantedAtOnce : Type 0
GrantedAtOnce = (s : Sender) → Settled s → (mill number : ℕ) → mill < mills → length s.out < calls
    → used (Use.Enter mill number) s ≡ Answer.Done (record {
      grants = (mill, number) ∷ [];
      sender = record { lanes = s.lanes; out = s.out ++ (mill, number) ∷ []; turn = after mill };
    })

abbrev pub AloneAllFour : Type 0
AloneAllFour = (mill : ℕ) → mill < mills → (a b c d : ℕ)
    → told_over fresh (Use.Enter mill a ∷ Use.Enter mill b ∷ Use.Enter mill c ∷ Use.Enter mill d ∷ [])
    ≡ (mill, a) ∷ (mill, b) ∷ (mill, c) ∷ (mill, d) ∷ []
