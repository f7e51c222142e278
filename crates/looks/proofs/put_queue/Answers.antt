use lib.ListN.{length}
use Rattle.looks.proofs.Laws.{one_byte, first_room, second_room, shows_both}
use Rattle.looks.specs.Writes.{texted}
use Rattle.format.specs.Format.{number}
use Rattle.lent.specs.Lent.{part}
use Prim.Native.Nat.{◌%◌}
use mathlib.Core.Path.{refl, ap}
use mathlib.Core.List.{[], ◌∷◌}
use native.Mathlib.Omega.{arith}
use borrow.Author.Rules.{rules}
use Rattle.looks.proofs.put_queue.Goals as goal

pub put_text-named-requires : goal.put_text-named-requires
put_text-named-requires c = let m = ap length c.part_of.ensures in (omega arith, first_room (texted (part c.args.name.at c.args.name.length c.args.state.now)) ((number 1).enc c.args.count) (texted c.part_of.result.now) ((number 1).enc c.args.count) c.args.text.now c.args.at (ap texted c.part_of.ensures) refl c.requires.1)

pub put_byte-requires : goal.put_byte-requires
put_byte-requires c = second_room (texted (part c.args.name.at c.args.name.length c.args.state.now)) ((number 1).enc c.args.count) (texted c.part_of.result.now) (c.args.count % 256 ∷ []) c.args.text.now c.args.at (ap texted c.part_of.ensures) (one_byte c.args.count) c.requires.1 (search rules) c.put_text-named.ensures

pub returns : goal.returns
returns c = shows_both (texted (part c.args.name.at c.args.name.length c.args.state.now)) ((number 1).enc c.args.count) (texted c.part_of.result.now) (c.args.count % 256 ∷ []) c.args.text.now c.args.at (ap texted c.part_of.ensures) (one_byte c.args.count) c.requires.1 c.put_text-named.ensures c.put_byte.ensures
