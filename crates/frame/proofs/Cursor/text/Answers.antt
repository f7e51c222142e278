use Prim.Native.Nat.{◌<◌}
use mathlib.Core.Path.{refl}
use lib.ListN.{length}
use Rattle.frame.proofs.Means.{no_text, text_begins, text_is}
use borrow.Author.Rules.{rules}
use Rattle.frame.proofs.Cursor.text.Goals as goal

pub returns-then-not-next : goal.returns-then-not-next
returns-then-not-next c = no_text c.args.limit c.args.frame.now c.args.self c.skip_text-next.result c.skip_text-next.ensures c.if-not-next.true _

pub bounds-frame-at : goal.bounds-frame-at
bounds-frame-at c = text_begins c.args.limit c.args.frame.now c.args.self c.skip_text-next.result c.skip_text-next.ensures c.if-not-next.false

pub overflow_add-begin : goal.overflow_add-begin
overflow_add-begin c =
    let h : c.args.self.at < length c.args.frame.now = text_begins c.args.limit c.args.frame.now c.args.self c.skip_text-next.result c.skip_text-next.ensures c.if-not-next.false in
    search rules

pub returns : goal.returns
returns c = text_is c.args.limit c.args.frame.now c.args.self c.skip_text-next.result c.skip_text-next.ensures c.if-not-next.false _ refl
