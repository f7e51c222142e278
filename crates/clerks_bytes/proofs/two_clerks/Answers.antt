use mathlib.Core.Bool.{not}
use mathlib.Core.Path.{ap, ◌∙◌}
use lib.ListN.{length, length-replicate}
use Rattle.spans.specs.Bytes.{zeros}
use Rattle.clerks_bytes.proofs.BufferLaws.{refuses, lengths, fills}
use Rattle.clerks_bytes.proofs.two_clerks.Goals as goal

pub returns-then-not-lengths_right : goal.returns-then-not-lengths_right
returns-then-not-lengths_right c = refuses _ _ _ c.args.frame.now c.lengths_right.ensures (ap not c.if-not-lengths_right.true) c.refused.ensures

pub judge-told-requires : goal.judge-told-requires
judge-told-requires c =
    let l = lengths _ _ _ c.lengths_right.ensures (ap not c.if-not-lengths_right.false) in
    (ap length c.zero.ensures ∙ length-replicate _ _ ∙ l.0, ap length c.zero-2.ensures ∙ length-replicate _ _ ∙ l.1, l.2)

pub returns : goal.returns
returns c = fills c.args.frame.now _ _ _ c.lengths_right.ensures (ap not c.if-not-lengths_right.false) _ c.zero.ensures c.zero-2.ensures (c.zero-3.ensures ∙ ap zeros c.judge-told.ensures.1) c.judge-told.ensures.0
