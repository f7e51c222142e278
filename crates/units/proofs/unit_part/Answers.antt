use Rattle.units.proofs.Laws as laws
use Rattle.units.proofs.unit_part.Goals as goal

pub returns : goal.returns
returns c = laws.part_of_unit c.args.s.now c.args.k _ _ _ c.unit_at-c.ensures c.skip_unit-e.ensures c.part.ensures
