use Rattle.state.proofs.Columns as columns
use Rattle.state.proofs.Ops as ops
use Rattle.flights.proofs.Laws as laws
use Rattle.flights.proofs.drop_pass_reads.Goals as goal

pub sift-requires-clause-lent : goal.sift-requires-clause-lent
sift-requires-clause-lent c = columns.has_lent ops.flight_column c.requires

pub returns : goal.returns
returns c = laws.pass_reads_dropped c.args.work.now c.sift.new.work c.sift.ensures
