use Rattle.std.proofs.Common.{length}
use Rattle.phrases.proofs.Printed.{plain_span}
use Rattle.phrases.proofs.Steps.{plain_step}
use Rattle.words.proofs.walk.turn.Goals as goal

pub say-said-requires-clause-plain_words : goal.say-said-requires-clause-plain_words
say-said-requires-clause-plain_words c =
    let text = c.step-text.result.now in
    rw c.part-words.ensures (plain_span text 2 (length text) (rw c.step-text.ensures (plain_step c.args.rules.now c.args.walk.route.step c.requires)))
