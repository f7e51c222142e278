use Rattle.std.proofs.Common.{◌≡◌, ◌-◌}
use Rattle.format.specs.Format.{list}
use Rattle.model.specs.Limits.{max_changes}
use Rattle.model.specs.Formats.{change_f}
use Rattle.reader.specs.Left.{rest, after}
use Rattle.reader.proofs.Laws.{after_many}
use Rattle.reader.proofs.Reader.skip_changes.Given as goal

abbrev pub invariant-loop-i : goal.invariant-loop-i
invariant-loop-i l = after (list max_changes change_f) l.self.rest.now ≡ after_many change_f (l.count - l._i) (rest l.next)
