use mathlib.Core.Path.{refl, ap}
use Rattle.passes.proofs.Answering as answering
use Rattle.frame.specs.Meaning.{meant_outcome}
use Rattle.passes.proofs.pages.list_answered.Goals as goal

pub on_page-requires : goal.on_page-requires
on_page-requires c = record { has_state = c.requires.has_state; ok = answering.page_ok c.args.frame.now c.args.outcome _ c.in-Listed.is c.requires.ok }

pub returns-in-Listed : goal.returns-in-Listed
returns-in-Listed c = answering.answered_page c.args.id _ _ (ap (meant_outcome c.args.frame.now) c.in-Listed.is) c.on_page.ensures

pub returns-in-Read : goal.returns-in-Read
returns-in-Read c = answering.answered_as c.args.id _ _ (ap (meant_outcome c.args.frame.now) c.in-Read.is) (answering.answered_other c.args.id _ refl c.abandon_pass.ensures)

pub returns-in-Written : goal.returns-in-Written
returns-in-Written c = answering.answered_as c.args.id _ _ (ap (meant_outcome c.args.frame.now) c.in-Written.is) (answering.answered_other c.args.id _ refl c.abandon_pass-in-Written.ensures)

pub returns-in-Deleted : goal.returns-in-Deleted
returns-in-Deleted c = answering.answered_other c.args.id _ (ap (λ x. answering.is_other (meant_outcome c.args.frame.now x)) c.in-Deleted.is) c.abandon_pass-in-Deleted.ensures

pub returns-in-Failed : goal.returns-in-Failed
returns-in-Failed c = answering.answered_failed c.args.id _ _ (ap (meant_outcome c.args.frame.now) c.in-Failed.is) c.list_failed.ensures
