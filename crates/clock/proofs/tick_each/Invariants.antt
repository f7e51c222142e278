use lib.ListN.{take}
use Rattle.model.specs.Maps.{map}
use Rattle.model.specs.Machine.{for_each}
use Rattle.model.specs.Sync.{tick_resource}
use Rattle.state.specs.Contract.{HasState}
use Rattle.state.specs.Values.{name_of}
use Rattle.machine.specs.Contract.{Does}
use Rattle.clock.proofs.tick_each.Given as goal

abbrev pub invariant-loop-k : goal.invariant-loop-k
invariant-loop-k l = (HasState l.work) × Does (for_each (tick_resource l.at) (take l.k (map name_of l.names))) l.initial.work l.initial.out l.initial.q l.q l.work l.out
