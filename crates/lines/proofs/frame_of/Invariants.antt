use Rattle.std.proofs.Common.{◌≡◌, length, take, drop}
use Rattle.lines.proofs.Laws.{after, bytes_of}
use Rattle.lines.proofs.frame_of.Given as goal

abbrev pub invariant-loop-n : goal.invariant-loop-n
invariant-loop-n l = (length l.frame ≡ length l.initial.frame) × (bytes_of l.pairs ≡ after (take l.n l.frame) (bytes_of (drop l.n l.pairs)))
