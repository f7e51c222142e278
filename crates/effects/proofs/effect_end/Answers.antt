use mathlib.Core.Path.{ap}
use Rattle.frame.specs.declared.Cursor.{Cursor}
use Rattle.effects.proofs.effect_end.Goals as goal

pub returns : goal.returns
returns c =
    ap (λ (q : Cursor). q.at) c.skip_effect-end.ensures
