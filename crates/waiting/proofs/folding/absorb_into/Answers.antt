use Rattle.waiting.proofs.Folds as folds
use Rattle.waiting.proofs.folding.absorb_into.Goals as goal

pub returns : goal.returns
returns c = folds.mores c.args.work.now c.write_field.new.work c.write_field-2.new.work c.write_field-3.new.work c.write_field-4.new.work c.args.operation.now c.args.expiry.now c.args.id.now c.args.i c.args.o c.args.count c.requires.i_bound.0 c.write_field.ensures c.write_field-2.ensures c.write_field-3.ensures c.write_field-4.ensures
