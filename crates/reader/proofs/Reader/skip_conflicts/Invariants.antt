use Rattle.std.proofs.Common.{◌≡◌, ◌-◌}
use Rattle.model.specs.Formats.{conflict_f, conflicts_f}
use Rattle.reader.specs.Left.{rest, after}
use Rattle.reader.proofs.Laws.{after_many}
use Rattle.reader.proofs.Reader.skip_conflicts.Given as goal

abbrev pub invariant-loop-i : goal.invariant-loop-i
invariant-loop-i l = after conflicts_f l.self.rest.now ≡ after_many conflict_f (l.count - l._i) (rest l.next)
