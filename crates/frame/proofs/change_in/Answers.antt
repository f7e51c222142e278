use Rattle.model.specs.Limits.{max_id, max_text}
use Rattle.frame.specs.Read.{start}
use Rattle.frame.proofs.Inputs.{upsert_is, remove_is}
use Rattle.frame.proofs.change_in.Goals as goal

pub returns-then-case-eq0 : goal.returns-then-case-eq0
unfolding max_id max_text
returns-then-case-eq0 c = upsert_is c.args.rest.now start c.byte-case.result.next c.byte-case.result.value c.byte-case.ensures c.if-case-eq0.true c.text-name.result.next c.text-version.result.next c.skip_option_event-next.result _ _ c.text-name.ensures c.text-version.ensures c.skip_option_event-next.ensures

pub returns : goal.returns
unfolding max_id
returns c = remove_is c.args.rest.now start c.byte-case.result.next c.byte-case.result.value c.byte-case.ensures c.if-case-eq0.false c.text-name.result.next _ c.text-name.ensures
