use Rattle.std.proofs.Common.{rules}
use Rattle.sender_turns.specs.Sender.{Use}
use Rattle.sender_lines.proofs.Laws.{takes_done, takes_refused}
use Rattle.sender_lines.proofs.take_use.Goals as goal

pub returns-in_err-granted-in-Enter : goal.returns-in_err-granted-in-Enter
returns-in_err-granted-in-Enter c = takes_refused _ _ (Use.Enter c.in-Enter.mill c.in-Enter.number) _ _ _ (rw c.in-Enter.is at c.in-Some.ensures) c.in_err-granted-in-Enter.ensures (search rules)

pub returns-in_ok-granted-in-Enter : goal.returns-in_ok-granted-in-Enter
returns-in_ok-granted-in-Enter c = takes_done _ _ (Use.Enter c.in-Enter.mill c.in-Enter.number) _ _ (rw c.in-Enter.is at c.in-Some.ensures) c.in_ok-granted-in-Enter.ensures

pub returns-in_err-granted-in-Reply : goal.returns-in_err-granted-in-Reply
returns-in_err-granted-in-Reply c = takes_refused _ _ (Use.Reply c.in-Reply.mill c.in-Reply.number) _ _ _ (rw c.in-Reply.is at c.in-Some.ensures) c.in_err-granted-in-Reply.ensures (search rules)

pub returns-in_ok-granted-in-Reply : goal.returns-in_ok-granted-in-Reply
returns-in_ok-granted-in-Reply c = takes_done _ _ (Use.Reply c.in-Reply.mill c.in-Reply.number) _ _ (rw c.in-Reply.is at c.in-Some.ensures) c.in_ok-granted-in-Reply.ensures

pub returns-in_err-granted-in-Resume : goal.returns-in_err-granted-in-Resume
returns-in_err-granted-in-Resume c = takes_refused _ _ (Use.Resume c.in-Resume.mill) _ _ _ (rw c.in-Resume.is at c.in-Some.ensures) c.in_err-granted-in-Resume.ensures (search rules)

pub returns-in_ok-granted-in-Resume : goal.returns-in_ok-granted-in-Resume
returns-in_ok-granted-in-Resume c = takes_done _ _ (Use.Resume c.in-Resume.mill) _ _ (rw c.in-Resume.is at c.in-Some.ensures) c.in_ok-granted-in-Resume.ensures
