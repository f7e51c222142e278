use lib.ListN.{length}
use Rattle.looks.proofs.Laws.{first_room, second_room, shows_both}
use Rattle.looks.specs.Writes.{texted}
use Rattle.lent.specs.Lent.{part}
use mathlib.Core.Path.{refl, ap}
use native.Mathlib.Omega.{arith}
use borrow.Author.Rules.{rules}
use Rattle.looks.proofs.put_record.Goals as goal

pub put_text-named-requires : goal.put_text-named-requires
put_text-named-requires c = let m = ap length c.part_of.ensures in (omega arith, first_room (texted (part c.args.name.at c.args.name.length c.args.state.now)) (part c.args.event.at c.args.event.length c.args.state.now) (texted c.part_of.result.now) (part c.args.event.at c.args.event.length c.args.state.now) c.args.text.now c.args.at (ap texted c.part_of.ensures) refl c.requires.1)

pub put_digits-requires : goal.put_digits-requires
put_digits-requires c = second_room (texted (part c.args.name.at c.args.name.length c.args.state.now)) (part c.args.event.at c.args.event.length c.args.state.now) (texted c.part_of.result.now) c.part_of-2.result.now c.args.text.now c.args.at (ap texted c.part_of.ensures) c.part_of-2.ensures c.requires.1 (search rules) c.put_text-named.ensures

pub returns : goal.returns
returns c = shows_both (texted (part c.args.name.at c.args.name.length c.args.state.now)) (part c.args.event.at c.args.event.length c.args.state.now) (texted c.part_of.result.now) c.part_of-2.result.now c.args.text.now c.args.at (ap texted c.part_of.ensures) c.part_of-2.ensures c.requires.1 c.put_text-named.ensures c.put_digits.ensures
