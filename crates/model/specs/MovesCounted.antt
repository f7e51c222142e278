-- Change request 1/13: the clerk's own lines, and the corners of the number of moves waiting. MovesCounted.antt of proofs/ has the theorem. Assumes nothing.
use Rattle.std.specs.Prelude.{◌≡◌, ℕ, zero, suc, List, [], ◌∷◌, length, None}
use Prim.Native.String.{String}
use Rattle.model.specs.Event.{ascii}
use Rattle.model.specs.Parts.{Role}
use Rattle.model.specs.Edits.{Operation, Edit}
use Rattle.model.specs.Machine.{Run, ok, ◌>>=◌, queue_of}
use Rattle.model.specs.Sync.{enqueue, remap}
use Rattle.model.specs.Waiting.{moves_waiting}
use Rattle.model.specs.Facts.{fresh, fields_at, delete_of, behind_head}

-- the n-th move of a slot: it goes on from where the one before ended
unfoldable pub move : ℕ → Edit
move n = record {
  id = n ∷ [];
  resource = ascii "r";
  operation = Operation.Update (fields_at n) (fields_at (suc n));
  role = Role.Owner;
  expires_at = None;
}

-- a slot moved so many times
unfoldable pub moved : ℕ → Run
moved zero = ok fresh
moved (suc n) = moved n >>= enqueue (move n)

-- how many entries the queue of a resource has, and its moves waiting, where the run was not refused
unfoldable pub shown : String → Run → List ℕ
shown r (Run.refused n) = []
shown r (Run.ok m) = length (queue_of (ascii r) m) ∷ moves_waiting (ascii r) m.state ∷ []

pub record MovesCounted : Type 0 where
  -- moved four times: two entries, and the board shows four
  pub four_wait : shown "r" (moved 4) ≡ 2 ∷ 4 ∷ []
  -- no other booking has any
  pub none_elsewhere : shown "q" (moved 4) ≡ 0 ∷ 0 ∷ []
  -- the limit of six is one on entries: eight ids wait in two of them, and another booking's edit is taken
  pub eight_wait : shown "r" (moved 8) ≡ 2 ∷ 8 ∷ []
  pub still_taken : shown "q" (moved 8 >>= enqueue (delete_of "d" "q")) ≡ 1 ∷ 1 ∷ []
  -- a create and its delete behind a head cancel each other, and count no more
  pub cancelled : shown "r" behind_head ≡ 1 ∷ 1 ∷ []
  -- after a remap the head counts under the old name, and what stood behind it, with all that was folded into it, under the new one
  pub kept_name : shown "r" (moved 4 >>= remap (ascii "r") (ascii "q")) ≡ 1 ∷ 1 ∷ []
  pub new_name : shown "q" (moved 4 >>= remap (ascii "r") (ascii "q")) ≡ 1 ∷ 3 ∷ []
