use Rattle.std.proofs.Common.{◌∙◌, refl}
use Rattle.std.proofs.lemmas.Bool.{le-leb, lt-leb}
use Rattle.versions.proofs.Laws.{replaces_is}
use Rattle.versions.proofs.takes_place.Goals as goal

pub returns-then-ne : goal.returns-then-ne
returns-then-ne c = λ e h p q E H. c.if-ne.true ∙ replaces_is _ _ _ _ e h E H p q (le-leb _ _ c.if-held-new.true) c.if-ne.ensures

pub returns-else-ne : goal.returns-else-ne
returns-else-ne c = λ e h p q E H. replaces_is _ _ _ _ e h E H p q (le-leb _ _ c.if-held-new.true) c.if-ne.ensures

pub returns-else-held-new : goal.returns-else-held-new
returns-else-held-new c =
    λ e h p q E H. let f = lt-leb c.args.held.mapper c.args.new.mapper c.if-held-new.false in
    f ∙ replaces_is c.args.new.revision c.args.held.revision _ _ e h E H p q f refl
