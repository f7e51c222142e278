use lib.ListN.{length}
use Rattle.looks.proofs.Laws.{not-true, not-false, no_cursor, some_cursor, cursor_short, second_room, shows_both}
use Rattle.looks.specs.Writes.{Room, texted}
use Rattle.model.specs.Formats.{Bytes}
use Rattle.lent.specs.Lent.{part}
use mathlib.Core.Path.{refl, ap, subst}
use mathlib.Core.List.{[], ◌∷◌}
use native.Mathlib.Omega.{arith}
use borrow.Author.Rules.{rules}
use Rattle.looks.proofs.put_cursor.Goals as goal

pub put_byte-requires : goal.put_byte-requires
put_byte-requires c = let e = ap length (no_cursor _ _ c.cursor-r.result.found (part c.cursor-r.result.text.at c.cursor-r.result.text.length c.args.state.now) c.cursor-r.ensures.0 (not-true c.if-not-r.true)) in omega arith

pub returns-then-not-r : goal.returns-then-not-r
returns-then-not-r c = rw (no_cursor _ _ c.cursor-r.result.found (part c.cursor-r.result.text.at c.cursor-r.result.text.length c.args.state.now) c.cursor-r.ensures.0 (not-true c.if-not-r.true)) c.put_byte.ensures

pub put_byte-some-requires : goal.put_byte-some-requires
put_byte-some-requires c = let e = ap length (some_cursor _ _ c.cursor-r.result.found (part c.cursor-r.result.text.at c.cursor-r.result.text.length c.args.state.now) c.cursor-r.ensures.0 (not-false c.if-not-r.false)) in omega arith

pub put_text-requires : goal.put_text-requires
put_text-requires c = let l = cursor_short _ _ c.cursor-r.result.found (part c.cursor-r.result.text.at c.cursor-r.result.text.length c.args.state.now) c.cursor-r.ensures.0 (not-false c.if-not-r.false) in let m = ap length c.part_of.ensures in (omega arith, second_room (1 ∷ []) (texted (part c.cursor-r.result.text.at c.cursor-r.result.text.length c.args.state.now)) (1 ∷ []) (texted c.part_of.result.now) c.args.text.now c.args.at refl (ap texted c.part_of.ensures) (subst (λ (x : Bytes). Room x c.args.text.now c.args.at) (some_cursor _ _ c.cursor-r.result.found (part c.cursor-r.result.text.at c.cursor-r.result.text.length c.args.state.now) c.cursor-r.ensures.0 (not-false c.if-not-r.false)) c.requires) (search rules) c.put_byte-some.ensures)

pub returns : goal.returns
returns c = rw (some_cursor _ _ c.cursor-r.result.found (part c.cursor-r.result.text.at c.cursor-r.result.text.length c.args.state.now) c.cursor-r.ensures.0 (not-false c.if-not-r.false)) (shows_both (1 ∷ []) (texted (part c.cursor-r.result.text.at c.cursor-r.result.text.length c.args.state.now)) (1 ∷ []) (texted c.part_of.result.now) c.args.text.now c.args.at refl (ap texted c.part_of.ensures) (subst (λ (x : Bytes). Room x c.args.text.now c.args.at) (some_cursor _ _ c.cursor-r.result.found (part c.cursor-r.result.text.at c.cursor-r.result.text.length c.args.state.now) c.cursor-r.ensures.0 (not-false c.if-not-r.false)) c.requires) c.put_byte-some.ensures c.put_text.ensures)
