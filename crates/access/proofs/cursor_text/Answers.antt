use Rattle.access.proofs.Laws.{cursor_none, cursor_some}
use mathlib.Core.Path.{refl, sym, ◌∙◌}
use borrow.Author.Rules.{rules}
use Rattle.access.proofs.cursor_text.Goals as goal

pub returns-then-some-eq0 : goal.returns-then-some-eq0
returns-then-some-eq0 c = (refl, cursor_none c.args.state.now (sym c.byte_at-some.ensures.0 ∙ c.if-some-eq0.true), search rules)

pub returns : goal.returns
returns c = (refl, cursor_some c.args.state.now c.byte_at-length.result (λ e. c.if-some-eq0.false (c.byte_at-some.ensures.0 ∙ e)) c.byte_at-length.ensures.0, search rules)
