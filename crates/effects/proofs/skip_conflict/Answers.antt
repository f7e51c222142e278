use Rattle.effects.proofs.Ends.{conflict_by}
use Rattle.effects.proofs.skip_conflict.Goals as goal

pub returns : goal.returns
returns c =
    let a = c.args in
    conflict_by a.s.now a.place c.skip_below.ensures c.skip_option_short_text-base.ensures c.skip_field_value-ours.ensures c.skip_field_value-theirs.ensures c.skip_field_value.ensures
