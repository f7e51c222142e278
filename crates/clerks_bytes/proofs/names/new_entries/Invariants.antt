use Rattle.pens.specs.Writing.{Wrote}
use Rattle.clerks_bytes.specs.Names.{new_names}
use Prim.Native.Nat.{◌-◌, ◌≤◌}
use Rattle.clerks_bytes.proofs.names.new_entries.Given as goal

abbrev pub invariant-loop-i : goal.invariant-loop-i
invariant-loop-i l = (l.i ≤ l.count) × Wrote l.initial.out l.out l.initial.next l.next (new_names l.order l.p l.q l.list l.before l.also l.entries l.i)

abbrev pub decreases-loop-i : goal.decreases-loop-i
decreases-loop-i l = l.count - l.i
