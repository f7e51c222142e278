use Rattle.std.proofs.Common.{◌∙◌, ◌-◌, ◌+◌, ◌≡◌, ℕ, ap, sym, arith}
use Rattle.waiting.specs.Texts.{text_end, texts_end}
use Rattle.waiting.proofs.Texts as texts
use Rattle.waiting.proofs.folding.texts_end.Goals as goal

pub loop-preserved : goal.loop-preserved
loop-preserved c =
    let n : c.args.n - c.loop.counter - 1 ≡ c.args.n - (c.loop.counter + 1) = omega arith in
    c.loop.invariant ∙ texts.texts_next (c.args.n - c.loop.counter) c.loop.at c.args.src.now (omega arith) ∙ ap (λ (k : ℕ). texts_end k c.args.src.now (text_end c.args.src.now c.loop.at)) n ∙ ap (texts_end (c.args.n - (c.loop.counter + 1)) c.args.src.now) (sym c.text_end-at.ensures)

pub returns : goal.returns
returns c = sym (c.loop.invariant ∙ texts.texts_done (c.args.n - c.loop.counter) c.loop.at c.args.src.now (omega arith))
