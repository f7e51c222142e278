use native.Mathlib.Omega.{arith}
use mathlib.Core.Path.{sym, ◌∙◌}
use Rattle.state.proofs.Columns as columns
use Rattle.state.proofs.Ops as ops
use Rattle.flights.proofs.Laws as laws
use Rattle.flights.proofs.purpose.Goals as goal

pub find-requires-clause-lent : goal.find-requires-clause-lent
find-requires-clause-lent c = columns.has_lent ops.flight_column c.requires

pub overflow_add-at : goal.overflow_add-at
overflow_add-at c = omega (arith, laws.found_room c.key_of.result c.args.work.now c.args.n c.in-Ok.at c.ranges.n.fits c.key_of.ensures c.requires (λ t z e. sym c.in-Ok.is ∙ c.find.ensures t z e))

pub overflow_add-at-in-Ok : goal.overflow_add-at-in-Ok
overflow_add-at-in-Ok c = omega (arith, laws.found_room c.key_of.result c.args.work.now c.args.n c.in-Ok.at c.ranges.n.fits c.key_of.ensures c.requires (λ t z e. sym c.in-Ok.is ∙ c.find.ensures t z e))

pub purpose_at-requires : goal.purpose_at-requires
purpose_at-requires c = omega (arith, laws.found_room c.key_of.result c.args.work.now c.args.n c.in-Ok.at c.ranges.n.fits c.key_of.ensures c.requires (λ t z e. sym c.in-Ok.is ∙ c.find.ensures t z e))

pub returns-in-Ok : goal.returns-in-Ok
returns-in-Ok c =
    let both = laws.found c.key_of.result c.args.work.now c.args.n c.in-Ok.at c.purpose_at.result c.ranges.n.fits c.key_of.ensures c.requires (λ t z e. sym c.in-Ok.is ∙ c.find.ensures t z e) c.purpose_at.ensures in
    record { reads = both.0; named = both.1 }

pub returns-in-Err-clause-reads : goal.returns-in-Err-clause-reads
returns-in-Err-clause-reads c = laws.missing c.key_of.result c.args.work.now c.args.n c.in-Err.field-0 c.ranges.n.fits c.key_of.ensures (λ t z e. sym c.in-Err.is ∙ c.find.ensures t z e)
