use Rattle.std.proofs.Common.{◌≡◌, ◌+◌, ◌*◌, drop}
use Rattle.tables.specs.Table.{slots_of, place}
use Rattle.tables.proofs.find.Given as goal

abbrev pub invariant-loop-i : goal.invariant-loop-i
invariant-loop-i l = (l.at ≡ 1 + l.i * l.stride) × (place l.stride l.key (slots_of l.stride l.region) 1 ≡ place l.stride l.key (drop l.i (slots_of l.stride l.region)) l.at)
