use Prim.Native.Nat.{◌<◌}
use native.Mathlib.Omega.{arith}
use Rattle.std.proofs.Common.{rules}
use lib.ListN.{length, get_or}
use Rattle.flights.proofs.Listing as listing
use Rattle.flights.proofs.Listing.{Noted}
use Rattle.flights.proofs.refreshes.Goals as goal
use Rattle.flights.proofs.refreshes.Goals.{Joined-purpose_at}

pub loop-i-init : goal.loop-i-init
loop-i-init c = rw c.new-names.ensures (listing.noted_start c.args.work.now)

pub overflow_mul-at : goal.overflow_mul-at
overflow_mul-at c = let l = c.loop-i-test.true in omega (arith, listing.count c.args.work.now _ c.requires c.in_flight_count-count.ensures)

pub overflow_add-at-in-loop-i : goal.overflow_add-at-in-loop-i
overflow_add-at-in-loop-i c = let l = c.loop-i-test.true in omega (arith, listing.count c.args.work.now _ c.requires c.in_flight_count-count.ensures)

pub overflow_add-at-in-loop-i-2 : goal.overflow_add-at-in-loop-i-2
overflow_add-at-in-loop-i-2 c = let l = c.loop-i-test.true in omega (arith, listing.count c.args.work.now _ c.requires c.in_flight_count-count.ensures)

pub purpose_at-requires : goal.purpose_at-requires
purpose_at-requires c = let l = c.loop-i-test.true in omega (arith, listing.count c.args.work.now _ c.requires c.in_flight_count-count.ensures)

pub push-requires : goal.push-requires
push-requires c =
    let l = c.loop-i-test.true in
    let m = c.loop-i.invariant.low in
    let h : length c.loop-i.names < 24 = omega (arith, listing.count c.args.work.now _ c.requires c.in_flight_count-count.ensures) in
    (omega arith, h)

inside : (c : Joined-purpose_at) → c.loop-i.i < get_or c.args.work.now 55643 0
inside c = let l = c.loop-i-test.true in omega (arith, listing.count c.args.work.now _ c.requires c.in_flight_count-count.ensures)

pub loop-i-preserved : goal.loop-i-preserved
loop-i-preserved c = listing.noted_turn c.args.work.now c.loop-i.i c.loop-i.names c.purpose_at.result (inside c) c.loop-i.invariant c.purpose_at.ensures _ (λ b e. search rules) (λ f. search rules)

pub returns : goal.returns
returns c = listing.noted_end c.args.work.now _ c.loop-i.i c.loop-i.names c.in_flight_count-count.ensures c.loop-i-test.false c.loop-i.invariant
