use Rattle.frame.proofs.Steps.{text_past, text_rest}
use Rattle.frame.proofs.text_at.Goals as goal

pub returns-then-frame-at : goal.returns-then-frame-at
returns-then-frame-at c =
    let a = c.args in
    text_past a.limit a.frame.now a.at c.if-frame-at.true

pub returns : goal.returns
returns c =
    let a = c.args in
    text_rest a.limit a.frame.now a.at _ c.text_part.ensures
