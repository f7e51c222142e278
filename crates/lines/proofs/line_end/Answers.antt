use Rattle.std.proofs.Common.{◌≡◌, ◌≢◌, ◌+◌, unwrap_or, drop, length, sym, ap, ◌∙◌, rules, tests}
use Rattle.std.proofs.lemmas.Iterator.{IsFirst-from_position, YieldsList-from_slice}
use Rattle.std.proofs.lemmas.List.{take_rest}
use Rattle.lines.proofs.Laws.{Feed, line_stops}
use Rattle.lines.proofs.line_end.Goals as goal

pub returns : goal.returns
returns c =
    let rest = drop c.args.at c.args.chunk.now in
    let is = take_rest c.args.chunk.now c.args.at in
    let found : Feed rest c.position.result = IsFirst-from_position _ _ c.position.result (λ b. b ≡ 10) (λ b. b ≢ 10) c.position.ensures.ran (YieldsList-from_slice rest (c.iter.ensures.rest ∙ is)) (λ x q k. search (rules, tests)) (λ x q k. search (rules, tests)) in
    (search rules, ap (λ n. c.args.at + n) (c.unwrap_or.ensures ∙ ap (λ s. unwrap_or c.position.result (length s)) is ∙ sym (line_stops rest c.position.result found)))
