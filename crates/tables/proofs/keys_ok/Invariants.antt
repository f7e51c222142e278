use Rattle.std.proofs.Common.{◌≡◌, drop}
use Rattle.tables.specs.Table.{slots_of, keys_ok}
use Rattle.tables.proofs.keys_ok.Given as goal

abbrev pub invariant-loop-i : goal.invariant-loop-i
invariant-loop-i l = keys_ok l.width (slots_of l.stride l.region) ≡ keys_ok l.width (drop l.i (slots_of l.stride l.region))
