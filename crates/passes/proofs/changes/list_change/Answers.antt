use Rattle.passes.proofs.Listing as laws
use Rattle.passes.proofs.changes.list_change.Goals as goal

pub list_upsert-requires : goal.list_upsert-requires
list_upsert-requires c = record { has_state = c.requires.has_state; ok = laws.upsert_ok c.args.frame.now c.args.change _ _ _ c.in-Upsert.is c.requires.ok }

pub list_remove-requires : goal.list_remove-requires
list_remove-requires c = record { has_state = c.requires.has_state; ok = laws.remove_ok c.args.frame.now c.args.change _ c.in-Remove.is c.requires.ok }

pub returns-in-Upsert : goal.returns-in-Upsert
returns-in-Upsert c = laws.change_is c.args.id c.args.frame.now c.args.change _ c.in-Upsert.is c.list_upsert.ensures

pub returns-in-Remove : goal.returns-in-Remove
returns-in-Remove c = laws.change_is c.args.id c.args.frame.now c.args.change _ c.in-Remove.is c.list_remove.ensures
