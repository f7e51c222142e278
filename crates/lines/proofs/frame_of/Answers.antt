use Rattle.std.proofs.Common.{◌≡◌, length, take, sym, ap, ◌∙◌, rules, arith}
use Rattle.std.proofs.lemmas.Bool.Decides.{nat_tests}
use Rattle.lines.specs.Lines.{held}
use Rattle.lines.proofs.Laws.{frame_long, frame_odd, frame_even, frame_none, bytes_of, frame_bad, frame_ends}
use Rattle.lines.proofs.frame_of.Goals as goal

pub returns-then-line-gt-MAX_DIGITS : goal.returns-then-line-gt-MAX_DIGITS
returns-then-line-gt-MAX_DIGITS c = (search rules, frame_long _ c.if-line-gt-MAX_DIGITS.true)

pub returns-in_default : goal.returns-in_default
returns-in_default c = (
  search rules,
  frame_none c.args.line.now c.if-line-gt-MAX_DIGITS.false
      (frame_bad _ _ c.loop-n.n c.loop-n.invariant.1 c.loop-n-test.true c.in_default.ensures ∙ ap (λ x. held (bytes_of x)) c.as_chunks.ensures.front),
)

pub returns-then-not-is_empty : goal.returns-then-not-is_empty
returns-then-not-is_empty c = (search rules, frame_odd _ (grind (arith, nat_tests)))

pub returns : goal.returns
returns c =
    let e : c.loop-n.n ≡ length c.as_chunks.result.0.now = omega arith in (
      search rules,
      ap (λ n. take n c.loop-n.frame) (sym e)
          ∙ frame_ends _ _ c.loop-n.n c.loop-n.invariant.1 c.loop-n-test.false
          ∙ ap (λ x. held (bytes_of x)) c.as_chunks.ensures.front
          ∙ sym (frame_even c.args.line.now c.if-line-gt-MAX_DIGITS.false (grind (arith, nat_tests))),
    )
