use Rattle.passes.proofs.Passing as passing
use Rattle.passes.proofs.pages.after_page.Goals as goal

pub list_more-requires : goal.list_more-requires
list_more-requires c = record { has_state = c.requires.has_state; ok = passing.more_ok c.args.frame.now c.args.next _ _ c.bytes.ensures.result_value c.in-More.is c.requires.ok }

pub list_done-requires : goal.list_done-requires
list_done-requires c = record { has_state = c.requires.has_state; ok = passing.done_ok c.args.frame.now c.args.next _ _ c.bytes-in-Done.ensures.result_value c.in-Done.is c.requires.ok }

pub returns-in-More : goal.returns-in-More
returns-in-More c = passing.after_more c.args.frame.now c.args.next _ _ c.bytes.ensures.result_value c.in-More.is c.list_more.ensures

pub returns-in-Done : goal.returns-in-Done
returns-in-Done c = passing.after_done c.args.frame.now c.args.next _ _ c.bytes-in-Done.ensures.result_value c.in-Done.is (c.list_done.ensures.does _)
