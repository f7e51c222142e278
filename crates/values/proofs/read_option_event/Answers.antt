use Rattle.model.specs.Formats.{event_f}
use Rattle.frame.specs.Meaning.{no_event}
use Rattle.frame.proofs.Means.{means_part}
use Rattle.frame.proofs.Inputs.{option_none, option_some}
use Rattle.values.proofs.read_option_event.Goals as goal

pub returns-then-some-eq0 : goal.returns-then-some-eq0
returns-then-some-eq0 c = option_none event_f c.args.frame.now c.args.place c.byte-some.result.next c.byte-some.result.value c.byte-some.ensures c.if-some-eq0.true

pub returns : goal.returns
returns c =
    option_some event_f c.args.frame.now c.args.place c.byte-some.result.next c.byte-some.result.value c.byte-some.ensures c.if-some-eq0.false c.event-read.result.next _
    (means_part event_f no_event c.args.frame.now c.byte-some.result.next c.event-read.result.next c.event-read.result.value c.event-read.ensures)
