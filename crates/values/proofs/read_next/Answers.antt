use Rattle.model.specs.Limits.{max_text}
use Rattle.values.proofs.Ends.{next_more, next_done}
use Rattle.values.proofs.read_next.Goals as goal

pub returns-then-case-eq0 : goal.returns-then-case-eq0
unfolding max_text
returns-then-case-eq0 c = next_more c.args.frame.now c.args.place c.byte-case.result.next c.byte-case.result.value c.byte-case.ensures c.text-read.result.next _ c.text-read.ensures c.if-case-eq0.true

pub returns : goal.returns
unfolding max_text
returns c = next_done c.args.frame.now c.args.place c.byte-case.result.next c.byte-case.result.value c.byte-case.ensures c.text-read.result.next _ c.text-read.ensures c.if-case-eq0.false
