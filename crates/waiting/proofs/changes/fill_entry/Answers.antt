use Rattle.waiting.proofs.Laws as laws
use Rattle.waiting.proofs.changes.fill_entry.Goals as goal

pub returns : goal.returns
returns c = laws.fills c.args.work.now c.write_field.new.work c.write_field-2.new.work c.write_field-3.new.work c.write_field-4.new.work c.write_field-5.new.work c.args.name.bytes c.args.id.now c.args.operation.now c.args.role.now c.args.expiry.now c.args.i c.requires.i_bound.0 c.write_field.ensures c.write_field-2.ensures c.write_field-3.ensures c.write_field-4.ensures c.write_field-5.ensures
