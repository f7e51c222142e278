use Rattle.dispatch.proofs.Laws as laws
use Rattle.dispatch.proofs.handle.Goals as goal

pub returns-in-Sync : goal.returns-in-Sync
returns-in-Sync c = laws.of_sync c.args.frame.now c.args.input c.in-Sync.is c.sync.ensures

pub enqueue-requires : goal.enqueue-requires
enqueue-requires c = record { has_state = c.requires.has_state; ok = laws.edit_ok c.args.frame.now c.args.input c.requires.ok _ c.in-Edit.is }

pub returns-in-Edit : goal.returns-in-Edit
returns-in-Edit c = laws.of_edit c.args.frame.now c.args.input _ c.in-Edit.is c.enqueue.ensures

pub outcome_of-requires : goal.outcome_of-requires
outcome_of-requires c = record { has_state = c.requires.has_state; ok = laws.outcome_ok c.args.frame.now c.args.input c.requires.ok _ _ c.in-Outcome.is }

pub returns-in-Outcome : goal.returns-in-Outcome
returns-in-Outcome c = laws.of_outcome c.args.frame.now c.args.input _ _ c.in-Outcome.is c.outcome_of.ensures

pub tick-requires : goal.tick-requires
tick-requires c = record { has_state = c.requires.has_state; ok = laws.same_time_ok c.args.frame.now c.args.input c.requires.ok c.in-Tick.time c.in-Tick.is }

pub returns-in-Tick : goal.returns-in-Tick
returns-in-Tick c = laws.of_tick c.args.frame.now c.args.input c.requires.ok c.in-Tick.time c.in-Tick.is c.tick.ensures

pub returns-in-Resume : goal.returns-in-Resume
returns-in-Resume c = laws.of_resume c.args.frame.now c.args.input c.in-Resume.is c.resume.ensures
