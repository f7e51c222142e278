use mathlib.Core.Bool.{not}
use mathlib.Core.Path.{◌≡◌, ap}
use Prim.Native.Nat.{◌≤◌}
use lib.Dec.{lit≤}
use lib.ListN.{length}
use borrow.Author.Rules.{rules}
use Rattle.serve.specs.Serves.{text_bytes}
use Rattle.serve.proofs.Laws.{look_room, replies_alone, replies_look, text_bytes_are}
use Rattle.serve.proofs.Desk.reply.Goals as goal

pub returns-then-not-self-clause-is : goal.returns-then-not-self-clause-is
returns-then-not-self-clause-is c = replies_alone c.answer_line-r.ensures _ (ap not c.if-not-self.true)

pub put_look-requires : goal.put_look-requires
put_look-requires c =
    let o : length c.answer_line-r.new.out ≡ 32768 = search rules in
    let l : length c.answer_line-r.new.text ≡ 117478 = search rules in
    let h : text_bytes ≤ length c.answer_line-r.new.text = rw (text_bytes_are, l) (lit≤ tt) in
    look_room c.answer_line-r.ensures o h

pub returns-clause-is : goal.returns-clause-is
returns-clause-is c =
    let o : length c.answer_line-r.new.out ≡ 32768 = search rules in
    let l : length c.answer_line-r.new.text ≡ 117478 = search rules in
    let h : text_bytes ≤ length c.answer_line-r.new.text = rw (text_bytes_are, l) (lit≤ tt) in
    replies_look c.answer_line-r.ensures _ _ _ (ap not c.if-not-self.false) (search rules) o h c.put_look.ensures
