use mathlib.Core.Path.{refl, ap}
use Rattle.passes.proofs.Answering as answering
use Rattle.frame.specs.Meaning.{meant_outcome}
use Rattle.passes.proofs.pass_reads.on_pass_read.Goals as goal

pub pass_read_found-requires : goal.pass_read_found-requires
pass_read_found-requires c = record { has_state = c.requires.has_state; named = (c.requires.named.0, answering.event_ok c.args.frame.now c.args.outcome _ c.in-Read.is c.requires.named.1) }

pub pass_read_failed-requires : goal.pass_read_failed-requires
pass_read_failed-requires c = record { has_state = c.requires.has_state; named = c.requires.named.0 }

pub returns-in-Listed : goal.returns-in-Listed
returns-in-Listed c = answering.read_as c.args.id _ _ _ (ap (meant_outcome c.args.frame.now) c.in-Listed.is) (answering.read_strange c.args.id _ _ refl c.abandon_if_open.ensures)

pub returns-in-Read : goal.returns-in-Read
returns-in-Read c = answering.read_event c.args.id _ _ _ (ap (meant_outcome c.args.frame.now) c.in-Read.is) c.pass_read_found.ensures

pub returns-in-Written : goal.returns-in-Written
returns-in-Written c = answering.read_as c.args.id _ _ _ (ap (meant_outcome c.args.frame.now) c.in-Written.is) (answering.read_strange c.args.id _ _ refl c.abandon_if_open-in-Written.ensures)

pub returns-in-Deleted : goal.returns-in-Deleted
returns-in-Deleted c = answering.read_strange c.args.id _ _ (ap (λ x. answering.is_strange (meant_outcome c.args.frame.now x)) c.in-Deleted.is) c.abandon_if_open-in-Deleted.ensures

pub returns-in-Failed : goal.returns-in-Failed
returns-in-Failed c = answering.read_as c.args.id _ _ _ (ap (meant_outcome c.args.frame.now) c.in-Failed.is) c.pass_read_failed.ensures
