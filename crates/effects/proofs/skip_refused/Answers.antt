use Rattle.effects.proofs.Ends.{refused_by}
use Rattle.effects.proofs.skip_refused.Goals as goal

pub returns : goal.returns
returns c =
    let a = c.args in
    refused_by a.s.now a.place c.skip_below.ensures c.skip_option_short_text.ensures
