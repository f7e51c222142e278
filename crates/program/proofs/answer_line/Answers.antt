use Rattle.program.proofs.Steps.{told, told_fits, told_long, answered_line}
use lib.Seq.{length-take-le}
use lib.ListN.{length, take}
use Prim.Native.Nat.{◌≤◌}
use mathlib.Core.Path.{◌≡◌, sym}
use native.Mathlib.Omega.{arith}
use borrow.Author.Rules.{rules}
use Rattle.program.proofs.answer_line.Goals as goal

pub slice_bounds-step-end-2 : goal.slice_bounds-step-end-2
slice_bounds-step-end-2 c = sym (length-take-le _ _ (search rules))

pub slice_bounds-put_answer-end : goal.slice_bounds-put_answer-end
slice_bounds-put_answer-end c =
    let same : length c.step-a.new.out ≡ length c.args.out.now = search rules in
    let o : 32768 ≤ length c.args.out.now = omega arith in
    told_fits c.args.state.now c.args.work.now c.args.out.now (take c.frame_of-n.result c.frame_of-n.new.frame) c.requires.for_state c.requires.for_work o c.step-a.new.state c.step-a.new.work c.step-a.new.out c.step-a.result same c.step-a.ensures

pub slice_bounds-put_answer-end-2 : goal.slice_bounds-put_answer-end-2
slice_bounds-put_answer-end-2 c =
    let same : length c.step-a.new.out ≡ length c.args.out.now = search rules in
    let o : 32768 ≤ length c.args.out.now = omega arith in
    sym (told_long c.args.state.now c.args.work.now c.args.out.now (take c.frame_of-n.result c.frame_of-n.new.frame) c.requires.for_state c.requires.for_work o c.step-a.new.state c.step-a.new.work c.step-a.new.out c.step-a.result same c.step-a.ensures)

pub put_answer-written-requires : goal.put_answer-written-requires
put_answer-written-requires c = let same : length c.step-a.new.out ≡ length c.args.out.now = search rules in
    let o : 32768 ≤ length c.args.out.now = omega arith in
    let l = told_long c.args.state.now c.args.work.now c.args.out.now (take c.frame_of-n.result c.frame_of-n.new.frame) c.requires.for_state c.requires.for_work o c.step-a.new.state c.step-a.new.work c.step-a.new.out c.step-a.result same c.step-a.ensures in
    let f = told_fits c.args.state.now c.args.work.now c.args.out.now (take c.frame_of-n.result c.frame_of-n.new.frame) c.requires.for_state c.requires.for_work o c.step-a.new.state c.step-a.new.work c.step-a.new.out c.step-a.result same c.step-a.ensures in
    record { effects = told c.args.state.now c.args.work.now c.args.out.now (take c.frame_of-n.result c.frame_of-n.new.frame) c.requires.for_state c.requires.for_work o c.step-a.new.state c.step-a.new.work c.step-a.new.out c.step-a.result same c.step-a.ensures; effects_in_bounds = omega arith }

pub returns : goal.returns
returns c =
    let same : length c.step-a.new.out ≡ length c.args.out.now = search rules in
    let o : 32768 ≤ length c.args.out.now = omega arith in
    answered_line c.args.state.now c.args.work.now c.args.out.now (take c.frame_of-n.result c.frame_of-n.new.frame) c.requires.for_state c.requires.for_work o c.step-a.new.state c.step-a.new.work c.step-a.new.out c.step-a.result same c.step-a.ensures c.args.line.now c.frame_of-n.ensures.1 (c.put_answer-written.ensures (told c.args.state.now c.args.work.now c.args.out.now (take c.frame_of-n.result c.frame_of-n.new.frame) c.requires.for_state c.requires.for_work o c.step-a.new.state c.step-a.new.work c.step-a.new.out c.step-a.result same c.step-a.ensures))
