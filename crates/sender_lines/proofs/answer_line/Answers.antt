use mathlib.Core.Path.{sym}
use Prim.Native.Nat.{◌≤◌}
use lib.Seq.{length-take-le}
use lib.ListN.{length}
use Rattle.sender_lines.proofs.Laws.{answers}
use borrow.Author.Rules.{rules}
use Rattle.sender_lines.proofs.answer_line.Goals as goal

pub slice_bounds-take_use-end-2 : goal.slice_bounds-take_use-end-2
slice_bounds-take_use-end-2 c = let h : c.frame_of-n.result ≤ length c.frame_of-n.new.frame = search rules in sym (length-take-le _ _ h)

pub returns : goal.returns
returns c = answers c.frame_of-n.ensures.1 c.take_use-told.ensures c.put_answer.ensures
