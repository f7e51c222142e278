use Rattle.comparison.specs.Which.{number_of}
use Rattle.pens.specs.Writing.{Listed}
use Rattle.attendees.specs.Entries.{our_items}
use Prim.Native.Nat.{◌-◌, ◌≤◌}
use Rattle.attendees.proofs.lists.our_entries.Given as goal

abbrev pub invariant-loop-i : goal.invariant-loop-i
invariant-loop-i l = (l.i ≤ l.count) × Listed l.initial.out l.out l.initial.h.pen l.initial.h.count l.h.pen l.h.count (our_items (number_of l.which) l.owner l.me l.base l.ours l.theirs l.i)

abbrev pub decreases-loop-i : goal.decreases-loop-i
decreases-loop-i l = l.count - l.i
