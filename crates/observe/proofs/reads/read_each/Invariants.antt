use lib.ListN.{take}
use Rattle.model.specs.Maps.{map}
use Rattle.model.specs.Machine.{for_each}
use Rattle.state.specs.Contract.{HasState}
use Rattle.state.specs.Values.{name_of}
use Rattle.machine.specs.Contract.{Does}
use Rattle.observe.specs.Reading.{read_for_pass}
use Rattle.observe.proofs.reads.read_each.Given as goal

abbrev pub invariant-loop-i : goal.invariant-loop-i
invariant-loop-i l = (HasState l.work) × Does (for_each read_for_pass (take l.i (map name_of l.names))) l.initial.work l.initial.out l.initial.q l.q l.work l.out
