use mathlib.Core.Path.{sym}
use lib.Seq.{length-take-le}
use Rattle.clerks_lines.proofs.Laws.{line_place, tells_number, tells_lines}
use borrow.Author.Tests.{eq-eqb, ne_eqb}
use borrow.Author.Rules.{rules}
use Rattle.clerks_lines.proofs.put_answer.Goals as goal

pub returns-then-told-ne0 : goal.returns-then-told-ne0
returns-then-told-ne0 c = tells_number _ _ _ (ne_eqb _ 0 c.if-told-ne0.true) c.put_number.ensures

pub slice_bounds-put_line-end : goal.slice_bounds-put_line-end
slice_bounds-put_line-end c = sym (length-take-le _ _ c.requires.1)

pub put_line-next-requires : goal.put_line-next-requires
put_line-next-requires c = let h = length-take-le c.args.told.one c.args.one.now c.requires.1 in search rules

pub slice_bounds-put_line-end-2 : goal.slice_bounds-put_line-end-2
slice_bounds-put_line-end-2 c = sym (length-take-le _ _ c.requires.2)

pub put_line-requires : goal.put_line-requires
put_line-requires c = let h = length-take-le c.args.told.one c.args.one.now c.requires.1 in let k = length-take-le c.args.told.two c.args.two.now c.requires.2 in let p = line_place _ c.put_line-next.ensures in search rules

pub returns : goal.returns
returns c = let h = length-take-le c.args.told.one c.args.one.now c.requires.1 in let k = length-take-le c.args.told.two c.args.two.now c.requires.2 in tells_lines _ _ _ (eq-eqb _ 0 c.if-told-ne0.false) (search rules) (search rules) c.requires.5 (search rules) c.put_line-next.ensures c.put_line.ensures
