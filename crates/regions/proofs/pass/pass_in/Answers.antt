use Rattle.std.proofs.Common.{sym, ◌∙◌, arith}
use Rattle.tables.proofs.Laws as tables
use Rattle.regions.proofs.Passes as passes
use Rattle.regions.proofs.pass.pass_in.Goals as goal

pub returns-in-0 : goal.returns-in-0
returns-in-0 c = (λ e. passes.shut_yes c.args.state.now c.requires (sym c.all_zero.ensures ∙ e), λ P. c.all_zero.ensures ∙ passes.shut_no c.args.state.now c.requires P c.in-0.is)

pub returns-in-1 : goal.returns-in-1
returns-in-1 c = (λ e. passes.open_yes c.args.state.now c.requires c.in-1.is (c.open_in.ensures.0 e), λ P. c.open_in.ensures.1 (passes.open_no c.args.state.now c.requires P))

pub returns-in_default : goal.returns-in_default
returns-in_default c = (λ e. absurd (tables.false_true e), λ P. absurd (passes.no_other c.args.state.now c.requires P (λ e. omega arith) (λ e. omega arith)))
