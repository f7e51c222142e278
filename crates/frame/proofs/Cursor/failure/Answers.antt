use lib.Dec.{lit<}
use Rattle.model.specs.Limits.{max_reason}
use Prim.Native.Nat.{ℕ, ◌<◌}
use Rattle.frame.proofs.Inputs.{failure_rejected, failure_cursor_expired, failure_precondition_failed, failure_not_found, failure_already_exists, failure_transient}
use Rattle.frame.proofs.Skips.{found_below}
use native.Mathlib.Omega.{arith}
use mathlib.Core.Path.{◌≡◌}
use Rattle.frame.proofs.Cursor.failure.Goals as goal

last : (v : ℕ) → v < 6 → (v ≡ 0 → ⊥) → (v ≡ 1 → ⊥) → (v ≡ 2 → ⊥) → (v ≡ 3 → ⊥) → (v ≡ 4 → ⊥) → v ≡ 5
last v k a b c d e = omega arith

pub returns-then-k-eq0 : goal.returns-then-k-eq0
returns-then-k-eq0 c =
    let a = c.args in
    let b = c.byte-case in
    failure_cursor_expired a.frame.now a.self b.result.next b.result.value b.ensures c.if-k-eq0.true

pub returns-then-k-eq1 : goal.returns-then-k-eq1
returns-then-k-eq1 c =
    let a = c.args in
    let b = c.byte-case in
    failure_precondition_failed a.frame.now a.self b.result.next b.result.value b.ensures c.if-k-eq1.true

pub returns-then-k-eq2 : goal.returns-then-k-eq2
returns-then-k-eq2 c =
    let a = c.args in
    let b = c.byte-case in
    failure_not_found a.frame.now a.self b.result.next b.result.value b.ensures c.if-k-eq2.true

pub returns-then-k-eq3 : goal.returns-then-k-eq3
returns-then-k-eq3 c =
    let a = c.args in
    let b = c.byte-case in
    failure_already_exists a.frame.now a.self b.result.next b.result.value b.ensures c.if-k-eq3.true

pub returns-then-k-eq4 : goal.returns-then-k-eq4
returns-then-k-eq4 c =
    let a = c.args in
    let b = c.byte-case in
    failure_transient a.frame.now a.self b.result.next b.result.value b.ensures c.if-k-eq4.true

pub returns : goal.returns
unfolding max_reason
returns c =
    let k = found_below 6 c.args.frame.now c.args.self c.byte-case.result.next c.byte-case.result.value c.byte-case.ensures (lit< tt) in
    failure_rejected c.args.frame.now c.args.self c.byte-case.result.next c.byte-case.result.value c.byte-case.ensures (last c.byte-case.result.value k c.if-k-eq0.false c.if-k-eq1.false c.if-k-eq2.false c.if-k-eq3.false c.if-k-eq4.false) c.text-why.result.next _ c.text-why.ensures
