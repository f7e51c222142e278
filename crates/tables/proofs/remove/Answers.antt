use Rattle.std.proofs.Common.{sym}
use Rattle.tables.proofs.Laws as laws
use Rattle.tables.proofs.remove.Goals as goal

pub returns-in-Ok : goal.returns-in-Ok
returns-in-Ok c = λ t z e. laws.remove_found c.requires.tab c.close_slot.new.region c.args.key.now t c.in-Ok.at z e (sym c.in-Ok.ensures) c.close_slot.ensures
