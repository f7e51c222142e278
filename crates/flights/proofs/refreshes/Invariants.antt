use Rattle.flights.proofs.Listing as listing
use Rattle.flights.proofs.refreshes.Given as goal

abbrev pub invariant-loop-i : goal.invariant-loop-i
invariant-loop-i l = listing.Noted l.i l.work l.names
