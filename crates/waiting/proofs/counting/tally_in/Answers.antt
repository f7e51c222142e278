use Rattle.tables.proofs.Laws as tables
use Rattle.waiting.proofs.Splices as splices
use Rattle.waiting.proofs.Laws as laws
use Rattle.lent.proofs.Laws as lent
use Rattle.waiting.proofs.counting.tally_in.Goals as goal

pub tally-requires : goal.tally-requires
tally-requires c = record { holds = tables.tab_holds (lent.lent_tab (splices.has_lent c.requires.has_slots)); key_nonzero = c.requires.key_nonzero }

pub returns : goal.returns
returns c = laws.tallied_in c.args.rank c.args.key.now c.args.work.now _ c.tally.ensures
