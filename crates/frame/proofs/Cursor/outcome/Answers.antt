use lib.Dec.{lit<}
use Rattle.frame.proofs.Skips.{found_below}
use Rattle.frame.proofs.Inputs.{outcome_listed, outcome_read, outcome_written, outcome_deleted, outcome_failed, last5}
use Rattle.frame.proofs.Cursor.outcome.Goals as goal

pub returns-then-k-eq0 : goal.returns-then-k-eq0
returns-then-k-eq0 c =
    let a = c.args in
    let b = c.byte-case in
    outcome_listed a.frame.now a.self b.result.next b.result.value b.ensures c.if-k-eq0.true c.skip_page-next.result c.skip_page-next.ensures

pub returns-then-k-eq1 : goal.returns-then-k-eq1
returns-then-k-eq1 c =
    let a = c.args in
    let b = c.byte-case in
    outcome_read a.frame.now a.self b.result.next b.result.value b.ensures c.if-k-eq1.true c.skip_option_event-next.result c.skip_option_event-next.ensures

pub returns-then-k-eq2 : goal.returns-then-k-eq2
returns-then-k-eq2 c = outcome_written c.args.frame.now c.args.self c.byte-case.result.next c.byte-case.result.value c.byte-case.ensures c.if-k-eq2.true c.event-read.result.next c.event-read.result.value c.event-read.ensures

pub returns-then-k-eq3 : goal.returns-then-k-eq3
returns-then-k-eq3 c =
    let a = c.args in
    let b = c.byte-case in
    outcome_deleted a.frame.now a.self b.result.next b.result.value b.ensures c.if-k-eq3.true

pub returns : goal.returns
returns c =
    let a = c.args in
    let b = c.byte-case in
    let w = c.failure-why in
    outcome_failed a.frame.now a.self b.result.next b.result.value b.ensures (last5 b.result.value (found_below 5 a.frame.now a.self b.result.next b.result.value b.ensures (lit< tt)) c.if-k-eq0.false c.if-k-eq1.false c.if-k-eq2.false c.if-k-eq3.false) w.result.next _ w.ensures
