use Rattle.std.proofs.Common.{get_or, rules, arith}
use Rattle.lines.proofs.Laws.{pair_place, puts_more}
use Rattle.lines.proofs.put_digits.Goals as goal

pub loop-b-preserved : goal.loop-b-preserved
loop-b-preserved c = (
  (let p = pair_place (get_or c.args.bytes.now c.loop-b.b-index 0) c.put_pair-next.ensures in omega arith),
  search rules,
  puts_more _ _ _ _ _ _ _ _ (search rules) c.requires c.loop-b.invariant.2 c.put_pair-next.ensures,
)
