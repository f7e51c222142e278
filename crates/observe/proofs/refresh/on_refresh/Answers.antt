use Rattle.observe.proofs.Refreshing as refreshing
use mathlib.Core.Path.{ap}
use Rattle.state.specs.Values.{name_of}
use Rattle.observe.proofs.refresh.on_refresh.Goals as goal

pub returns-in-Listed : goal.returns-in-Listed
returns-in-Listed c = refreshing.refreshed_not c.args.frame.now c.args.id (name_of c.args.name.bytes) c.args.outcome (ap refreshing.says_nothing c.in-Listed.is)

pub refresh_read-requires : goal.refresh_read-requires
refresh_read-requires c = record { has_state = c.requires.has_state; named = (c.requires.named.0, refreshing.read_fits c.args.frame.now _ _ c.requires.named.1 c.in-Read.is) }

pub returns-in-Read : goal.returns-in-Read
returns-in-Read c = refreshing.refreshed_read c.args.frame.now c.args.id _ _ c.in-Read.is c.refresh_read.ensures

pub returns-in-Written : goal.returns-in-Written
returns-in-Written c = refreshing.refreshed_not c.args.frame.now c.args.id (name_of c.args.name.bytes) c.args.outcome (ap refreshing.says_nothing c.in-Written.is)

pub returns-in-Deleted : goal.returns-in-Deleted
returns-in-Deleted c = refreshing.refreshed_not c.args.frame.now c.args.id (name_of c.args.name.bytes) c.args.outcome (ap refreshing.says_nothing c.in-Deleted.is)

pub returns-in-Failed : goal.returns-in-Failed
returns-in-Failed c = refreshing.refreshed_failed c.args.frame.now c.args.id _ _ c.in-Failed.is c.refresh_failed.ensures
