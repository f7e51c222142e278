use Rattle.observe.proofs.Forgetting as forgetting
use Rattle.observe.proofs.forget.held_anywhere.Goals as goal

pub returns-then-has_record : goal.returns-then-has_record
returns-then-has_record c = forgetting.held_record _ c.has_record.ensures c.if-has_record.true

pub returns-then-waiting_count-ne0 : goal.returns-then-waiting_count-ne0
returns-then-waiting_count-ne0 c = forgetting.held_queue _ _ c.waiting_count.ensures c.if-waiting_count-ne0.true

pub returns-then-asks_about : goal.returns-then-asks_about
returns-then-asks_about c = forgetting.held_asked _ c.asks_about.ensures c.if-asks_about.true

pub returns : goal.returns
returns c = forgetting.held_pass _ c.has_record.ensures c.if-has_record.false c.waiting_count.ensures c.if-waiting_count-ne0.false c.asks_about.ensures c.if-asks_about.false c.in_pass.ensures
