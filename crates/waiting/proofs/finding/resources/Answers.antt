use native.Mathlib.Omega.{arith}
use Prim.Native.Nat.{ℕ}
use mathlib.Core.Path.{ap, ◌∙◌}
use lib.ListN.{take, drop}
use Rattle.waiting.proofs.Laws as laws
use Rattle.waiting.proofs.Keys as keys
use Rattle.waiting.proofs.finding.resources.Goals as goal

pub loop-i-init : goal.loop-i-init
loop-i-init c = λ s h. rw c.new-names.ensures (keys.listed_none s.edits)

pub slot_at-requires : goal.slot_at-requires
slot_at-requires c =
    let l = c.loop-i-test.true in
    let n = laws.all_count c.args.work.now c.entries-total.result c.requires c.entries-total.ensures in
    (keys.turn c.loop-i.i c.loop-i.names c.requires.keeps (omega arith) (c.loop-i.invariant c.requires.state c.requires.keeps)).below

pub name_at-name-requires : goal.name_at-name-requires
name_at-name-requires c =
    let l = c.loop-i-test.true in
    let n = laws.all_count c.args.work.now c.entries-total.result c.requires c.entries-total.ensures in
    let r = (keys.turn c.loop-i.i c.loop-i.names c.requires.keeps (omega arith) (c.loop-i.invariant c.requires.state c.requires.keeps)).below in
    omega (arith, c.slot_at.ensures, c.requires.keeps.long)

pub push-requires : goal.push-requires
push-requires c =
    let l = c.loop-i-test.true in
    let n = laws.all_count c.args.work.now c.entries-total.result c.requires c.entries-total.ensures in
    (omega arith, (keys.turn c.loop-i.i c.loop-i.names c.requires.keeps (omega arith) (c.loop-i.invariant c.requires.state c.requires.keeps)).few)

pub waiting_count-i-requires-clause-named : goal.waiting_count-i-requires-clause-named
waiting_count-i-requires-clause-named c =
    let l = c.loop-i-test.true in
    let n = laws.all_count c.args.work.now c.entries-total.result c.requires c.entries-total.ensures in
    let q = c.name_at-name.ensures ∙ ap (λ (p : ℕ). take 33 (drop p c.args.work.now)) c.slot_at.ensures in
    keys.turn_named c.loop-i.i c.loop-i.names _ q (keys.turn c.loop-i.i c.loop-i.names c.requires.keeps (omega arith) (c.loop-i.invariant c.requires.state c.requires.keeps))

pub overflow_add-i : goal.overflow_add-i
overflow_add-i c =
    let l = c.loop-i-test.true in
    let n = laws.all_count c.args.work.now c.entries-total.result c.requires c.entries-total.ensures in
    let q = c.name_at-name.ensures ∙ ap (λ (p : ℕ). take 33 (drop p c.args.work.now)) c.slot_at.ensures in
    let R = keys.turn c.loop-i.i c.loop-i.names c.requires.keeps (omega arith) (c.loop-i.invariant c.requires.state c.requires.keeps) in
    let k = keys.turn_count c.loop-i.i c.loop-i.names _ q c.waiting_count-i.result c.requires.keeps R c.waiting_count-i.ensures in
    omega (arith, R.more)

pub loop-i-smaller : goal.loop-i-smaller
loop-i-smaller c =
    let l = c.loop-i-test.true in
    let n = laws.all_count c.args.work.now c.entries-total.result c.requires c.entries-total.ensures in
    let q = c.name_at-name.ensures ∙ ap (λ (p : ℕ). take 33 (drop p c.args.work.now)) c.slot_at.ensures in
    let R = keys.turn c.loop-i.i c.loop-i.names c.requires.keeps (omega arith) (c.loop-i.invariant c.requires.state c.requires.keeps) in
    let k = keys.turn_count c.loop-i.i c.loop-i.names _ q c.waiting_count-i.result c.requires.keeps R c.waiting_count-i.ensures in
    omega (arith, R.below, R.some)

pub loop-i-preserved : goal.loop-i-preserved
loop-i-preserved c = λ s h.
    let l = c.loop-i-test.true in
    let n = laws.all_count c.args.work.now c.entries-total.result c.requires c.entries-total.ensures in
    let q = c.name_at-name.ensures ∙ ap (λ (p : ℕ). take 33 (drop p c.args.work.now)) c.slot_at.ensures in
    rw c.push.ensures (keys.turn_next c.loop-i.i c.loop-i.names _ q c.waiting_count-i.result h (omega arith) (c.loop-i.invariant s h) c.waiting_count-i.ensures)

pub returns : goal.returns
returns c =
    let l = c.loop-i-test.false in
    let n = laws.all_count c.args.work.now c.entries-total.result c.requires c.entries-total.ensures in
    record { is = λ s h. keys.listed_all c.loop-i.i c.loop-i.names h (omega arith) (c.loop-i.invariant s h) }
