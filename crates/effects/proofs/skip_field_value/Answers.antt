use Rattle.effects.proofs.Ends.{value_title, value_times, value_recurrence, value_organizer, value_attendee, value_location, value_description, value_status, value_transparency, value_visibility, value_reminders}
use Rattle.effects.proofs.skip_field_value.Goals as goal

pub returns-then-k-eq0 : goal.returns-then-k-eq0
returns-then-k-eq0 c =
    let a = c.args in
    let b = c.byte-case in
    value_title a.s.now a.place b.result.next b.result.value b.ensures c.if-k-eq0.true c.skip_option_short_text.result c.skip_option_short_text.ensures

pub returns-then-k-eq1 : goal.returns-then-k-eq1
returns-then-k-eq1 c =
    let a = c.args in
    let b = c.byte-case in
    value_times a.s.now a.place b.result.next b.result.value b.ensures c.if-k-eq1.true c.skip_tag.result c.skip_tag.ensures

pub returns-then-k-eq2 : goal.returns-then-k-eq2
returns-then-k-eq2 c =
    let a = c.args in
    let b = c.byte-case in
    value_recurrence a.s.now a.place b.result.next b.result.value b.ensures c.if-k-eq2.true c.skip_option_tag.result c.skip_option_tag.ensures

pub returns-then-k-eq3 : goal.returns-then-k-eq3
returns-then-k-eq3 c =
    let a = c.args in
    let b = c.byte-case in
    value_organizer a.s.now a.place b.result.next b.result.value b.ensures c.if-k-eq3.true c.skip_option_organizer.result c.skip_option_organizer.ensures

pub returns-then-k-eq4 : goal.returns-then-k-eq4
returns-then-k-eq4 c =
    let a = c.args in
    let b = c.byte-case in
    value_attendee a.s.now a.place b.result.next b.result.value b.ensures c.if-k-eq4.true c.skip_option_attendee.result c.skip_option_attendee.ensures

pub returns-then-k-eq5 : goal.returns-then-k-eq5
returns-then-k-eq5 c =
    let a = c.args in
    let b = c.byte-case in
    value_location a.s.now a.place b.result.next b.result.value b.ensures c.if-k-eq5.true c.skip_option_short_text-then-k-eq5.result c.skip_option_short_text-then-k-eq5.ensures

pub returns-then-k-eq6 : goal.returns-then-k-eq6
returns-then-k-eq6 c =
    let a = c.args in
    let b = c.byte-case in
    value_description a.s.now a.place b.result.next b.result.value b.ensures c.if-k-eq6.true c.skip_option_tag-then-k-eq6.result c.skip_option_tag-then-k-eq6.ensures

pub returns-then-k-eq7 : goal.returns-then-k-eq7
returns-then-k-eq7 c =
    let a = c.args in
    let b = c.byte-case in
    value_status a.s.now a.place b.result.next b.result.value b.ensures c.if-k-eq7.true c.skip_below.result c.skip_below.ensures

pub returns-then-k-eq8 : goal.returns-then-k-eq8
returns-then-k-eq8 c =
    let a = c.args in
    let b = c.byte-case in
    value_transparency a.s.now a.place b.result.next b.result.value b.ensures c.if-k-eq8.true c.skip_below-then-k-eq8.result c.skip_below-then-k-eq8.ensures

pub returns-then-k-eq9 : goal.returns-then-k-eq9
returns-then-k-eq9 c =
    let a = c.args in
    let b = c.byte-case in
    value_visibility a.s.now a.place b.result.next b.result.value b.ensures c.if-k-eq9.true c.skip_below-then-k-eq9.result c.skip_below-then-k-eq9.ensures

pub returns : goal.returns
returns c =
    let a = c.args in
    let b = c.byte-case in
    value_reminders a.s.now a.place b.result.next b.result.value b.ensures c.if-k-eq0.false c.if-k-eq1.false c.if-k-eq2.false c.if-k-eq3.false c.if-k-eq4.false c.if-k-eq5.false c.if-k-eq6.false c.if-k-eq7.false c.if-k-eq8.false c.if-k-eq9.false c.skip_tag-2.result c.skip_tag-2.ensures
