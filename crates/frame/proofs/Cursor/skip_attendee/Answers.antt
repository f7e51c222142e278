use Rattle.frame.proofs.Chains.{attendee_by}
use Rattle.frame.proofs.Cursor.skip_attendee.Goals as goal

pub returns : goal.returns
returns c =
    let a = c.args in
    attendee_by a.frame.now a.self c.skip_short_text.ensures c.skip_option_short_text.ensures c.skip_below.ensures c.skip_below-2.ensures c.skip_below-3.ensures
