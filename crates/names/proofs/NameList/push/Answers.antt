use Rattle.std.proofs.Common.{rules, ◌+◌, ◌-◌, ℕ, List, drop, replicate, sym, ap, ◌∙◌, arith, drop-drop, drop-set-lt, length-set}
use Rattle.std.proofs.lemmas.List.{drop-replicate}
use Rattle.names.proofs.NameList.push.Goals as goal

-- The places behind the name that was written held none before.
pub invariant_of-self : goal.invariant_of-self
invariant_of-self g c =
    let i = c.self.inside.count in
    let names = c.self.inside.names in
    let none : List ℕ = replicate 33 0 in (
      search rules,
      search rules,
      length-set names i c.args.name.bytes ∙ c.self.invariant.2,
      drop-set-lt (i + 1) names i c.args.name.bytes (omega arith)
          ∙ sym (drop-drop 1 i names)
          ∙ ap (drop 1) c.self.invariant.3
          ∙ drop-replicate 1 (g.row.N - i) none
          ∙ ap (λ n. replicate n none) (omega arith),
    )
