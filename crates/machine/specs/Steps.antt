-- What the smallest functions of the machine answer, and the definitions' `request` in two halves. Assumes nothing.
use Rattle.std.specs.Prelude.{ℕ, ◌+◌, ◌-◌, ◌^◌, Bool, cond, eqb}
use Rattle.model.specs.State.{Purpose}
use Rattle.model.specs.Maps.{when◌then◌else◌, by_number, insert}
use Rattle.model.specs.Machine.{Machine, Run, refused, within, set_in_flight, set_next_request}
use Rattle.pens.specs.declared.Pen.{Pen}
use Rattle.machine.specs.declared.Progress.{Progress}

-- where the next effect goes; stopped where the step is refused
abbrev pub pen_of : Progress → Pen
pen_of p = record { at = p.at; ok = eqb p.code 0 }

abbrev pub refusal : ℕ → Progress
refusal n = record { code = n; at = 0 }

-- unless the step is refused already
abbrev pub unless : Progress → Progress → Progress
unless p q = cond (eqb p.code 0) q p

-- after an effect: refused with 7 where there was no room for it
abbrev pub sent_by : Progress → Pen → Progress
sent_by p q = unless p (cond q.ok (record { code = 0; at = q.at }) (refusal 7))

-- after an insert: refused with 5 where the table is past its limit
abbrev pub tried_by : Progress → Bool → Progress
tried_by p within = unless p (cond within p (refusal 5))

-- `request` up to its last line, the push
unfoldable pub reserve : Purpose → Machine → Run
reserve purpose m =
    when eqb m.state.next_request (2 ^ 64 - 1) then refused 4
    else within m.limits.in_flight (insert by_number m.state.next_request purpose m.state.in_flight) set_in_flight (set_next_request (m.state.next_request + 1) m)
