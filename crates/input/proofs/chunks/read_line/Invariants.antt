use Rattle.std.proofs.Common.{◌≡◌, [], length}
use Rattle.input.specs.Ready.{Reads, between}
use Rattle.input.proofs.chunks.read_line.Given as goal

abbrev pub invariant-loop : goal.invariant-loop
invariant-loop l = (length l.chunk ≡ length l.initial.chunk) × (length l.line ≡ length l.initial.line) × Reads [] (between l.at l.end l.initial.chunk) l.chunk l.line l.p
