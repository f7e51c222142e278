use Rattle.frame.specs.Read.{start}
use Rattle.frame.proofs.Chains.{event_by}
use Rattle.frame.proofs.event_in.Goals as goal

pub returns : goal.returns
returns c =
    let a = c.args in
    event_by a.rest.now start c.skip_ids.ensures c.skip_option_short_text.ensures c.number-version.ensures.place c.skip_fields.ensures c.skip_tag.ensures
