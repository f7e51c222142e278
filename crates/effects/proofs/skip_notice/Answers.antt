use Rattle.effects.proofs.Ends.{notice_synced, notice_listing_failed, notice_applied, notice_rejected, notice_expired, notice_remapped}
use Rattle.effects.proofs.skip_notice.Goals as goal

pub returns-then-k-eq0 : goal.returns-then-k-eq0
returns-then-k-eq0 c =
    let a = c.args in
    let b = c.byte-case in
    notice_synced a.s.now a.place b.result.next b.result.value b.ensures c.if-k-eq0.true

pub returns-then-k-eq1 : goal.returns-then-k-eq1
returns-then-k-eq1 c =
    let a = c.args in
    let b = c.byte-case in
    notice_listing_failed a.s.now a.place b.result.next b.result.value b.ensures c.if-k-eq1.true c.skip_reason.result c.skip_reason.ensures

pub returns-then-k-eq2 : goal.returns-then-k-eq2
returns-then-k-eq2 c =
    let a = c.args in
    let b = c.byte-case in
    notice_applied a.s.now a.place b.result.next b.result.value b.ensures c.if-k-eq2.true c.skip_short_text-conflicts.ensures c.skip_conflicts-refused.ensures c.skip_refusals.ensures

pub returns-then-k-eq3 : goal.returns-then-k-eq3
returns-then-k-eq3 c =
    let a = c.args in
    let b = c.byte-case in
    notice_rejected a.s.now a.place b.result.next b.result.value b.ensures c.if-k-eq3.true c.skip_short_text-reason.ensures c.skip_rejection.ensures

pub returns-then-k-eq4 : goal.returns-then-k-eq4
returns-then-k-eq4 c =
    let a = c.args in
    let b = c.byte-case in
    notice_expired a.s.now a.place b.result.next b.result.value b.ensures c.if-k-eq4.true c.skip_short_text.result c.skip_short_text.ensures

pub returns : goal.returns
returns c =
    let a = c.args in
    let b = c.byte-case in
    notice_remapped a.s.now a.place b.result.next b.result.value b.ensures c.if-k-eq0.false c.if-k-eq1.false c.if-k-eq2.false c.if-k-eq3.false c.if-k-eq4.false c.skip_resource_id.ensures c.skip_resource_id-2.ensures
