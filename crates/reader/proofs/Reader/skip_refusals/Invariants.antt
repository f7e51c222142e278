use Rattle.std.proofs.Common.{◌≡◌, ◌-◌}
use Rattle.model.specs.Formats.{refused_f, refusals_f}
use Rattle.reader.specs.Left.{rest, after}
use Rattle.reader.proofs.Laws.{after_many}
use Rattle.reader.proofs.Reader.skip_refusals.Given as goal

abbrev pub invariant-loop-i : goal.invariant-loop-i
invariant-loop-i l = after refusals_f l.self.rest.now ≡ after_many refused_f (l.count - l._i) (rest l.next)
