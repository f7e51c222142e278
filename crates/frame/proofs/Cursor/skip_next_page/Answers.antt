use Rattle.frame.proofs.Inputs.{next_text}
use Rattle.frame.proofs.Cursor.skip_next_page.Goals as goal

pub returns : goal.returns
returns c =
    let a = c.args in
    let b = c.byte-case in
    next_text a.frame.now a.self b.result.next b.result.value b.ensures c.skip_short_text.result c.skip_short_text.ensures
