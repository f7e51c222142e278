use Rattle.effects.proofs.Reasons.{outcome_listed, outcome_read, outcome_written, outcome_deleted, outcome_failed}
use Rattle.effects.proofs.describe.Goals as goal

pub returns-in-Listed : goal.returns-in-Listed
returns-in-Listed c = outcome_listed c.args.frame.now c.args.outcome c.in-Listed._page c.in-Listed.is c.text.ensures

pub returns-in-Read : goal.returns-in-Read
returns-in-Read c = outcome_read c.args.frame.now c.args.outcome c.in-Read._event c.in-Read.is c.text-in-Read.ensures

pub returns-in-Written : goal.returns-in-Written
returns-in-Written c = outcome_written c.args.frame.now c.args.outcome c.in-Written._event c.in-Written.is c.text-in-Written.ensures

pub returns-in-Deleted : goal.returns-in-Deleted
returns-in-Deleted c = outcome_deleted c.args.frame.now c.args.outcome c.in-Deleted.is c.text-in-Deleted.ensures

pub returns-in-Failed : goal.returns-in-Failed
returns-in-Failed c = outcome_failed c.args.frame.now c.args.outcome c.in-Failed.failure c.in-Failed.is c.describe_failure.ensures
