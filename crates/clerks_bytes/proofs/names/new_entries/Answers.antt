use Rattle.clerks_bytes.specs.Names.{new_names}
use Rattle.clerks_bytes.proofs.NameLaws.{new_zero, new_next}
use Rattle.pens.proofs.Laws.{wrote_nothing, wrote_then, wrote_as}
use mathlib.Core.Path.{◌≡◌, ap, ◌∙◌}
use native.Mathlib.Omega.{arith}
use borrow.Author.Rules.{rules}
use Rattle.clerks_bytes.proofs.names.new_entries.Goals as goal

pub loop-i-init : goal.loop-i-init
loop-i-init c = (search rules, wrote_as (wrote_nothing c.args.out.now c.args.pen) (new_zero c.args.order c.args.p.now c.args.q.now c.args.list.now c.args.before.now c.args.also.now c.args.entries.now))

pub loop-i-preserved : goal.loop-i-preserved
loop-i-preserved c = (search rules, wrote_as (wrote_then c.loop-i.invariant.1 c.new_entry-next.ensures) (new_next c.args.order c.args.p.now c.args.q.now c.args.list.now c.args.before.now c.args.also.now c.args.entries.now c.loop-i.i _ _ c.entry_part.ensures c.address-address.ensures))

pub shape_of-out : goal.shape_of-out
shape_of-out c = c.loop-i.invariant.1.long

pub returns : goal.returns
returns c = let e : c.loop-i.i ≡ c.entry_count-count.result = omega (arith, c.loop-i.invariant.0, c.loop-i-test.false) in wrote_as c.loop-i.invariant.1 (ap (new_names c.args.order c.args.p.now c.args.q.now c.args.list.now c.args.before.now c.args.also.now c.args.entries.now) (e ∙ c.entry_count-count.ensures))
