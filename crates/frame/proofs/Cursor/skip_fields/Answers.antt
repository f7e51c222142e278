use Rattle.frame.proofs.Chains.{fields_by}
use Rattle.frame.proofs.Cursor.skip_fields.Goals as goal

pub returns : goal.returns
returns c =
    let a = c.args in
    fields_by a.frame.now a.self
    c.skip_option_short_text.ensures
    c.skip_tag.ensures
    c.skip_option_tag.ensures
    c.skip_option_organizer.ensures
    c.skip_attendees-who.ensures
    c.skip_option_short_text-2.ensures
    c.skip_option_tag-told.ensures
    c.skip_below.ensures
    c.skip_below-2.ensures
    c.skip_below-3.ensures
    c.skip_tag-2.ensures
