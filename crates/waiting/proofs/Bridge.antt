-- The words of the contracts in the words of the model. Assumes nothing.
use Prim.Native.Nat.{ℕ, suc, ◌-◌}
use native.Mathlib.Omega.{arith}
use mathlib.Core.Path.{◌≡◌, refl, sym, ap, ◌∙◌}
use mathlib.Core.List.{[], ◌∷◌, ◌++◌}
use lib.ListN.{length, take, drop}
use Rattle.model.specs.Seam.{ResourceId}
use Rattle.model.specs.Parts.{MergeOutcome}
use Rattle.model.specs.State.{Queue}
use Rattle.model.specs.Maps.{first}
use Rattle.model.specs.Machine.{Machine, queue_of, set_queue, set_edits, entries, with_state}
use Rattle.model.specs.Sync.{head, with_plan, change_front, without_back}
use Rattle.waiting.specs.Queues.{queue_in, put_in, queue, put_queue, all_entries, nth, without, planned}

pub queue_is : (r : ResourceId) (m : Machine) → queue_of r m ≡ queue r m.state
unfolding queue_of queue_in
queue_is r m = refl

pub set_queue_is : (r : ResourceId) (q : Queue) (m : Machine) → set_queue r q m ≡ with_state (put_queue r q m.state) m
unfolding set_queue set_edits put_in
set_queue_is r [] m = refl
set_queue_is r (p ∷ q) m = refl

pub put_is : (r : ResourceId) (q : Queue) (m : Machine) → (set_queue r q m).state ≡ put_queue r q m.state
put_is r q m = ap (λ (m : Machine). m.state) (set_queue_is r q m)

pub entries_is : (m : Machine) → entries m ≡ all_entries m.state
unfolding entries
entries_is m = refl

pub head_is : (r : ResourceId) (m : Machine) → head r m ≡ nth 0 (queue r m.state)
unfolding head first nth
head_is r m = ap first (queue_is r m) ∙ go (queue r m.state)
  where
    go : (q : Queue) → first q ≡ nth 0 q
    go [] = refl
    go (p ∷ q) = refl

-- a merge's reports
pub plan_is : (merged : MergeOutcome) (q : Queue) → change_front (with_plan merged) q ≡ change_front (planned merged.conflicts merged.refused) q
unfolding with_plan planned change_front
plan_is merged [] = refl
plan_is merged (p ∷ q) = refl

pub without_back_is : (q : Queue) → without_back q ≡ without (length q - 1) q
unfolding without_back without
without_back_is [] = refl
without_back_is (p ∷ []) = refl
without_back_is (p ∷ (x ∷ q)) =
    let e : suc (suc (length q)) - 1 ≡ suc (length (x ∷ q) - 1) = omega arith in
    ap (λ (l : Queue). p ∷ l) (without_back_is (x ∷ q)) ∙ sym (ap (λ (n : ℕ). take n (p ∷ (x ∷ q)) ++ drop (suc n) (p ∷ (x ∷ q))) e)
