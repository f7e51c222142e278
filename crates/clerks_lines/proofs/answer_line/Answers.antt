use mathlib.Core.Path.{sym}
use Prim.Native.Nat.{◌≤◌}
use lib.ListN.{length}
use lib.Seq.{length-take-le}
use Rattle.clerks_bytes.proofs.BufferLaws.{line_is, work_is}
use Rattle.clerks_lines.proofs.Laws.{tells, answers}
use borrow.Author.Rules.{rules}
use Rattle.clerks_lines.proofs.answer_line.Goals as goal

pub slice_bounds-two_clerks-end : goal.slice_bounds-two_clerks-end
slice_bounds-two_clerks-end c = let h : c.frame_of-n.result ≤ length c.frame_of-n.new.frame = search rules in sym (length-take-le _ _ h)

pub put_answer-requires : goal.put_answer-requires
put_answer-requires c = let l = line_is in let w = work_is in let t = tells _ _ _ _ _ _ _ _ c.two_clerks-told.ensures (search rules) (search rules) (search rules) in (t.code, t.one, t.two, search rules, search rules, search rules)

pub returns : goal.returns
returns c = let l = line_is in let w = work_is in answers _ _ _ _ _ _ _ _ c.two_clerks-told.ensures (search rules) (search rules) (search rules) c.frame_of-n.ensures.1 c.put_answer.ensures
