use Rattle.std.proofs.Common.{◌≡◌, ◌-◌}
use Rattle.format.specs.Format.{list}
use Rattle.reader.specs.Left.{rest, after}
use Rattle.reader.proofs.Laws.{after_many}
use Rattle.wellformed.specs.Entries.{entry_f}
use Rattle.wellformed.proofs.table.skip_slots.Given as goal

abbrev pub invariant-loop-i : goal.invariant-loop-i
invariant-loop-i l = after (list 6 entry_f) l.at.rest.now ≡ after_many entry_f (l.count - l._i) (rest l.next)
