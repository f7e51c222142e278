use mathlib.Core.Path.{refl}
use mathlib.Core.Bool.{◌||◌}
use Rattle.model.specs.Event.{Text}
use Rattle.model.specs.State.{Purpose}
use Rattle.state.specs.Contract.{Reads}
use Rattle.state.specs.Values.{name_of}
use Rattle.flights.proofs.Laws as laws
use Rattle.flights.proofs.asks_about.Goals as goal
use Rattle.flights.proofs.asks_about.Goals.{then-asks, else-asks, then-asks-2, else-asks-2}

pub returns-then-asks-3 : goal.returns-then-asks-3
returns-then-asks-3 c =
    let r : Text = name_of c.args.name.bytes in
    let two : Reads (λ s. laws.Asks Purpose.PassRead r s || laws.Asks Purpose.EditRead r s) c.args.work.now c.if-asks.value =
    elim c.if-asks.branch [
      | then-asks w ↦ laws.first_asks c.asks.ensures (laws.Asks Purpose.EditRead r) w.if-asks.true w.value-is
      | else-asks w ↦ laws.second_asks c.asks.ensures w.if-asks.false w.asks-else-asks.ensures w.value-is
    ] in
    let three : Reads (λ s. (laws.Asks Purpose.PassRead r s || laws.Asks Purpose.EditRead r s) || laws.Asks Purpose.EditWrite r s) c.args.work.now c.if-asks-2.value =
    elim c.if-asks-2.branch [
      | then-asks-2 w ↦ laws.first_asks two (laws.Asks Purpose.EditWrite r) w.if-asks-2.true w.value-is
      | else-asks-2 w ↦ laws.second_asks two w.if-asks-2.false w.asks-else-asks-2.ensures w.value-is
    ] in
    laws.about_is_four r (laws.first_asks three (laws.Asks Purpose.Refresh r) c.if-asks-3.true refl)

pub returns-else-asks-3 : goal.returns-else-asks-3
returns-else-asks-3 c =
    let r : Text = name_of c.args.name.bytes in
    let two : Reads (λ s. laws.Asks Purpose.PassRead r s || laws.Asks Purpose.EditRead r s) c.args.work.now c.if-asks.value =
    elim c.if-asks.branch [
      | then-asks w ↦ laws.first_asks c.asks.ensures (laws.Asks Purpose.EditRead r) w.if-asks.true w.value-is
      | else-asks w ↦ laws.second_asks c.asks.ensures w.if-asks.false w.asks-else-asks.ensures w.value-is
    ] in
    let three : Reads (λ s. (laws.Asks Purpose.PassRead r s || laws.Asks Purpose.EditRead r s) || laws.Asks Purpose.EditWrite r s) c.args.work.now c.if-asks-2.value =
    elim c.if-asks-2.branch [
      | then-asks-2 w ↦ laws.first_asks two (laws.Asks Purpose.EditWrite r) w.if-asks-2.true w.value-is
      | else-asks-2 w ↦ laws.second_asks two w.if-asks-2.false w.asks-else-asks-2.ensures w.value-is
    ] in
    laws.about_is_four r (laws.second_asks three c.if-asks-3.false c.asks-else-asks-3.ensures refl)
