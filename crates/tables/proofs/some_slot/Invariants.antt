use Rattle.std.proofs.Common.{◌≡◌, drop}
use Rattle.tables.specs.Table.{slots_of, some_slot, is_equal, against}
use Rattle.tables.proofs.some_slot.Given as goal

abbrev pub invariant-loop-i : goal.invariant-loop-i
invariant-loop-i l = some_slot (λ s. is_equal (against l.o l.pattern s)) (slots_of l.stride l.region) ≡ some_slot (λ s. is_equal (against l.o l.pattern s)) (drop l.i (slots_of l.stride l.region))
