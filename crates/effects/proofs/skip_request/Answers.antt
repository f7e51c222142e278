use Rattle.effects.proofs.Ends.{request_list, request_read, request_lookup, request_create, request_update, request_delete}
use Rattle.effects.proofs.skip_request.Goals as goal

pub returns-then-k-eq0 : goal.returns-then-k-eq0
returns-then-k-eq0 c =
    let a = c.args in
    let b = c.byte-case in
    request_list a.s.now a.place b.result.next b.result.value b.ensures c.if-k-eq0.true c.skip_list_from.result c.skip_list_from.ensures

pub returns-then-k-eq1 : goal.returns-then-k-eq1
returns-then-k-eq1 c =
    let a = c.args in
    let b = c.byte-case in
    request_read a.s.now a.place b.result.next b.result.value b.ensures c.if-k-eq1.true c.skip_resource_id.result c.skip_resource_id.ensures

pub returns-then-k-eq2 : goal.returns-then-k-eq2
returns-then-k-eq2 c =
    let a = c.args in
    let b = c.byte-case in
    request_lookup a.s.now a.place b.result.next b.result.value b.ensures c.if-k-eq2.true c.skip_resource_id-then-k-eq2.result c.skip_resource_id-then-k-eq2.ensures

pub returns-then-k-eq3 : goal.returns-then-k-eq3
returns-then-k-eq3 c =
    let a = c.args in
    let b = c.byte-case in
    request_create a.s.now a.place b.result.next b.result.value b.ensures c.if-k-eq3.true c.skip_resource_id-then-k-eq3.ensures c.skip_event.ensures

pub returns-then-k-eq4 : goal.returns-then-k-eq4
returns-then-k-eq4 c =
    let a = c.args in
    let b = c.byte-case in
    request_update a.s.now a.place b.result.next b.result.value b.ensures c.if-k-eq4.true c.skip_resource_id-then-k-eq4.ensures c.skip_option_short_text.ensures c.skip_event-then-k-eq4.ensures

pub returns : goal.returns
returns c =
    let a = c.args in
    let b = c.byte-case in
    request_delete a.s.now a.place b.result.next b.result.value b.ensures c.if-k-eq0.false c.if-k-eq1.false c.if-k-eq2.false c.if-k-eq3.false c.if-k-eq4.false c.skip_resource_id-2.ensures c.skip_option_short_text-2.ensures
