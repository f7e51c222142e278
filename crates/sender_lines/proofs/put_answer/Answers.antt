use Rattle.std.proofs.Common.{rules}
use Rattle.sender_lines.proofs.Laws.{head_place, tells_grant, tells_none, tells_refusal}
use Rattle.sender_lines.proofs.put_answer.Goals as goal

pub put_call-requires : goal.put_call-requires
put_call-requires c = let h = head_place _ _ _ c.put_line-at.ensures in search rules

pub returns-in-Ok-Some : goal.returns-in-Ok-Some
returns-in-Ok-Some c = tells_grant _ _ _ c.requires (search rules) c.args.told _ _ _ _ c.in-Ok-Some.is (rw c.in-Ok-Some.is at c.in-Ok-Some.field-0-is) c.put_line-at.ensures c.put_call.ensures

pub returns-in-Ok-None : goal.returns-in-Ok-None
returns-in-Ok-None c = tells_none _ _ _ c.requires (search rules) c.args.told _ c.in-Ok-None.is (rw c.in-Ok-None.is at c.in-Ok-None.field-0-is) c.put_line.ensures

pub returns-in-Err : goal.returns-in-Err
returns-in-Err c = tells_refusal _ _ _ c.requires (search rules) c.args.told _ _ c.in-Err.is c.from.ensures c.put_line-in-Err.ensures
