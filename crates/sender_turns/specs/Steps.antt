-- What the functions below the methods promise. Assumes nothing.
use Rattle.std.specs.Prelude.{ℕ, ◌≤◌, ◌<◌, ◌≡◌, [], length, get_or, Option, IfSome}
use Rattle.sender_turns.specs.Sender.{Sender, mills, calls, lane_size, lane, next_mill, first_of, granted, grant_all}
use Rattle.sender_turns.specs.Laid.{call_of, laid_out, one_told}
use Rattle.sender_turns.specs.declared.Call.{Call as CallStruct}
use Rattle.sender_turns.specs.declared.Sender.{Sender as SenderStruct}

-- a sender that may grant: as a use leaves it before its grants
pub record Ready (s : Sender) : Type 0 where
  pub eight : length s.lanes ≡ mills
  pub short : (mill : ℕ) → length (lane mill s.lanes) ≤ lane_size
  pub at : s.turn < mills
  pub within : length s.out ≤ calls

-- how many wait in the mill's lane
abbrev pub count_at : ℕ → SenderStruct → ℕ
count_at mill self = (get_or self.lanes mill (record { numbers = []; count = 0 })).count

pub record Found (self : SenderStruct) (r : Option ℕ) : Type 0 where
  pub is : (s : Sender) → Ready s → self ≡ laid_out s → r ≡ next_mill mills s.turn s.lanes
  pub waits : IfSome r (λ mill. (mill < mills) × (0 < count_at mill self))

-- the mill's oldest request is granted
pub record GrantsTo (before : SenderStruct) (mill : ℕ) (left : SenderStruct) (call : CallStruct) : Type 0 where
  pub call_is : (s : Sender) → Ready s → before ≡ laid_out s → call ≡ call_of (mill, first_of (lane mill s.lanes))
  pub leaves : (s : Sender) → Ready s → before ≡ laid_out s → left ≡ laid_out (granted mill s)

-- every grant possible, where that is one at most
pub record Granting (s : Sender) (left : SenderStruct) (r : Option CallStruct) : Type 0 where
  pub told : r ≡ one_told (grant_all s).grants
  pub leaves : left ≡ laid_out (grant_all s).sender

pub record Grants (before left : SenderStruct) (r : Option CallStruct) : Type 0 where
  pub is : (s : Sender) → Ready s → length (grant_all s).grants ≤ 1 → before ≡ laid_out s → Granting s left r
