use Rattle.std.proofs.Common.{◌≡◌, true, sym, ◌∙◌, arith}
use Rattle.std.proofs.lemmas.Bool.{lt-leb}
use Rattle.tables.proofs.Laws as laws
use Rattle.tables.proofs.is_table.Goals as goal
use Rattle.tables.proofs.is_table.Goals.{then-from-limit, else-from-limit, then-keys_ok, else-keys_ok}

pub returns-then-keys_rise : goal.returns-then-keys_rise
returns-then-keys_rise c =
    elim c.if-keys_ok.branch [
      | then-keys_ok w ↦ elim c.if-from-limit.branch [
        | then-from-limit v ↦ (
          λ e. laws.table_yes c.args.stride c.args.width c.args.limit c.args.region.now (laws.holds_of c.args.stride c.args.width c.args.limit c.args.region.now c.requires.0 c.requires.1 c.requires.2 (omega arith)) (omega arith)
              (sym v.keys_ok.ensures ∙ sym v.value-is ∙ w.if-keys_ok.true) (sym w.keys_rise.ensures ∙ sym w.value-is ∙ c.if-keys_rise.true) (sym c.rest_zero.ensures ∙ e),
          λ W. c.rest_zero.ensures ∙ laws.table_rest W,
        )
        | else-from-limit v ↦ absurd (laws.false_true (sym (v.value-is ∙ lt-leb _ _ v.if-from-limit.false) ∙ w.if-keys_ok.true))
      ]
      | else-keys_ok w ↦ absurd (laws.false_true (sym (w.value-is ∙ w.if-keys_ok.false) ∙ c.if-keys_rise.true))
    ]

pub returns-else-keys_rise : goal.returns-else-keys_rise
returns-else-keys_rise c =
    let no = λ (e : c.if-keys_ok.value ≡ true). laws.false_true (sym c.if-keys_rise.false ∙ e) in
    elim c.if-keys_ok.branch [
      | then-keys_ok w ↦ (λ e. absurd (no e), λ W. w.value-is ∙ w.keys_rise.ensures ∙ laws.table_sorted W)
      | else-keys_ok w ↦ elim c.if-from-limit.branch [
        | then-from-limit v ↦ (λ e. absurd (no e), λ W. w.value-is ∙ v.value-is ∙ v.keys_ok.ensures ∙ laws.table_keys W)
        | else-from-limit v ↦ (λ e. absurd (no e), λ W. absurd (let f = laws.table_few W in omega arith))
      ]
    ]
