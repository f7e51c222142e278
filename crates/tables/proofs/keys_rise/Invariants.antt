use Rattle.std.proofs.Common.{◌≡◌, ◌-◌, drop}
use Rattle.tables.specs.Table.{slots_of, rising}
use Rattle.tables.proofs.keys_rise.Given as goal

abbrev pub invariant-loop-i : goal.invariant-loop-i
invariant-loop-i l = rising (slots_of l.stride l.region) ≡ rising (drop (l.i - 1) (slots_of l.stride l.region))
