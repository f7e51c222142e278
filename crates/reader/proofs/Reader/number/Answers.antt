use Rattle.std.proofs.Common.{◌≡◌, ◌<◌, ◌-◌, ℕ, get_or, arith, sym, ◌∙◌, ap, List}
use Rattle.std.proofs.lemmas.List.{get_or-take}
use Rattle.format.specs.Format.{number}
use Rattle.reader.proofs.Numbers.{digits_short, digits_step, digits_end, room_64, more_bytes}
use Rattle.reader.proofs.Reader.number.Goals as goal

pub returns-in_err-bytes : goal.returns-in_err-bytes
unfolding number
returns-in_err-bytes c = rw (c.from_residual.ensures, digits_short c.args.w 0 c.args.self.rest.now (omega (arith, c.in_err-bytes.ensures.cases)))

pub loop-b-init : goal.loop-b-init
loop-b-init c = let z : c.args.w - 0 ≡ c.args.w = omega arith in record { known = omega arith; rest = rw z }

pub overflow_mul-value : goal.overflow_mul-value
overflow_mul-value c =
    let i : c.loop-b.b-index < 8 = omega (arith, c.in_ok-bytes.ensures.cases) in
    omega (arith, room_64 c.loop-b.value c.loop-b.b-index 0 c.loop-b.invariant.known i (omega arith))

pub overflow_add-value : goal.overflow_add-value
overflow_add-value c =
    let i : c.loop-b.b-index < 8 = omega (arith, c.in_ok-bytes.ensures.cases) in
    let b : c.from.result < 256 = omega arith in
    omega (arith, room_64 c.loop-b.value c.loop-b.b-index c.from.result c.loop-b.invariant.known i b)

pub loop-b-preserved : goal.loop-b-preserved
loop-b-preserved c =
    let h = c.in_ok-bytes.ensures.cases in
    let b : c.from.result < 256 = omega arith in
    let i : c.loop-b.b-index < c.args.w = omega (arith, h) in
    let e : c.from.result ≡ get_or c.args.self.rest.now c.loop-b.b-index 0 = c.from.ensures ∙ ap (λ (l : List ℕ). get_or l c.loop-b.b-index 0) h.1 ∙ get_or-take c.args.w c.args.self.rest.now c.loop-b.b-index 0 i in
    record {
      known = more_bytes c.loop-b.value c.loop-b.b-index c.from.result c.loop-b.invariant.known b;
      rest = c.loop-b.invariant.rest ∙ digits_step c.args.w c.loop-b.b-index c.loop-b.value c.from.result c.args.self.rest.now i h.0 e b;
    }

pub returns : goal.returns
unfolding number
returns c =
    let h = c.in_ok-bytes.ensures.cases in
    let i : c.loop-b.b-index ≡ c.args.w = omega (arith, h) in
    rw h.2 (sym (c.loop-b.invariant.rest ∙ digits_end c.args.w c.loop-b.b-index c.loop-b.value c.args.self.rest.now i))
