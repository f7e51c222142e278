use Rattle.model.specs.Limits.{max_id}
use Rattle.frame.proofs.Chains.{ids_by}
use Rattle.frame.proofs.Cursor.skip_ids.Goals as goal

pub returns : goal.returns
unfolding max_id
returns c =
    let a = c.args in
    ids_by a.frame.now a.self c.skip_below.ensures c.skip_text.ensures c.skip_option_text.ensures c.skip_option_text-2.ensures
