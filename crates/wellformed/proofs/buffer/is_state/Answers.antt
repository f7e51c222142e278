use Rattle.std.proofs.Common.{◌≡◌, List, ℕ, length, sym, ◌∙◌}
use borrow.Author.Tests.{eqb-true}
use Rattle.tables.proofs.Laws.{false_true}
use Rattle.regions.specs.Inside.{EditsIn, OthersIn}
use Rattle.regions.proofs.Tells.{Tells, told, and_then, and_else}
use Rattle.regions.proofs.Whole.{holds}
use Rattle.wellformed.proofs.States.{keeps_of, others_of, waiting_of, state_of, rules_of}
use Rattle.wellformed.proofs.buffer.is_state.Goals as goal
use Rattle.wellformed.proofs.buffer.is_state.Goals.{then-state-eq-STATE, else-state-eq-STATE, then-others_in, else-others_in}

abbrev Others : List ℕ → Type 0
Others b = (length b ≡ 58543) × OthersIn b

pub across-requires : goal.across-requires
across-requires c =
    let b = c.args.state.now in
    let t1 : Tells c.if-state-eq-STATE.value (Others b) =
    elim c.if-state-eq-STATE.branch [
      | then-state-eq-STATE w ↦ record { yes = λ y. (w.if-state-eq-STATE.true, w.others_in.ensures.0 (sym w.value-is ∙ y)); no = λ p. w.value-is ∙ w.others_in.ensures.1 p.1 }
      | else-state-eq-STATE w ↦ record { yes = λ y. absurd (w.if-state-eq-STATE.false (eqb-true (length b) 58543 (sym w.value-is ∙ y))); no = λ p. absurd (w.if-state-eq-STATE.false p.0) }
    ] in
    let t2 : Tells c.if-others_in.value (Others b × EditsIn b) =
    elim c.if-others_in.branch [ then-others_in w ↦ and_then t1 w.if-others_in.true (told w.waiting_in.ensures) w.value-is | else-others_in w ↦ and_else t1 w.if-others_in.false w.value-is ] in
    let p = t2.yes c.if-waiting_in.true in
    holds b p.0.0 p.0.1 p.1

pub returns-then-waiting_in : goal.returns-then-waiting_in
returns-then-waiting_in c =
    let b = c.args.state.now in
    let t1 : Tells c.if-state-eq-STATE.value (Others b) =
    elim c.if-state-eq-STATE.branch [
      | then-state-eq-STATE w ↦ record { yes = λ y. (w.if-state-eq-STATE.true, w.others_in.ensures.0 (sym w.value-is ∙ y)); no = λ p. w.value-is ∙ w.others_in.ensures.1 p.1 }
      | else-state-eq-STATE w ↦ record { yes = λ y. absurd (w.if-state-eq-STATE.false (eqb-true (length b) 58543 (sym w.value-is ∙ y))); no = λ p. absurd (w.if-state-eq-STATE.false p.0) }
    ] in
    let t2 : Tells c.if-others_in.value (Others b × EditsIn b) =
    elim c.if-others_in.branch [ then-others_in w ↦ and_then t1 w.if-others_in.true (told w.waiting_in.ensures) w.value-is | else-others_in w ↦ and_else t1 w.if-others_in.false w.value-is ] in
    let p = t2.yes c.if-waiting_in.true in
    let H = holds b p.0.0 p.0.1 p.1 in
    (λ e. state_of H ((c.across.ensures H.state H.keeps).0 e), λ I. (c.across.ensures I.state (keeps_of I)).1 (rules_of I))

pub returns-else-waiting_in : goal.returns-else-waiting_in
returns-else-waiting_in c =
    let b = c.args.state.now in
    let t1 : Tells c.if-state-eq-STATE.value (Others b) =
    elim c.if-state-eq-STATE.branch [
      | then-state-eq-STATE w ↦ record { yes = λ y. (w.if-state-eq-STATE.true, w.others_in.ensures.0 (sym w.value-is ∙ y)); no = λ p. w.value-is ∙ w.others_in.ensures.1 p.1 }
      | else-state-eq-STATE w ↦ record { yes = λ y. absurd (w.if-state-eq-STATE.false (eqb-true (length b) 58543 (sym w.value-is ∙ y))); no = λ p. absurd (w.if-state-eq-STATE.false p.0) }
    ] in
    let t2 : Tells c.if-others_in.value (Others b × EditsIn b) =
    elim c.if-others_in.branch [ then-others_in w ↦ and_then t1 w.if-others_in.true (told w.waiting_in.ensures) w.value-is | else-others_in w ↦ and_else t1 w.if-others_in.false w.value-is ] in
    (λ e. absurd (false_true (sym c.if-waiting_in.false ∙ e)), λ I. t2.no (((keeps_of I).long, others_of b I), waiting_of b I))
