use Rattle.input.proofs.OnlyLaws.{read_none, read_last, read_then}
use native.Mathlib.Omega.{arith}
use borrow.Author.Rules.{rules}
use borrow.Author.Tests.{not-false}
use Rattle.input.proofs.chunks.only_line.Goals as goal

pub returns-then-not-first : goal.returns-then-not-first
returns-then-not-first c = read_none _ _ 0 (omega arith)

pub returns-then-first : goal.returns-then-first
returns-then-first c = read_last _ c.read_line-first.ensures (search rules) (not-false _ c.if-not-first.false) c.if-first.true

pub returns-then-second : goal.returns-then-second
returns-then-second c = read_none _ _ 0 (omega arith)

pub returns : goal.returns
returns c = read_then _ c.read_line-first.ensures (search rules) (not-false _ c.if-not-first.false) _ c.if-first.false c.read_line-second.ensures (search rules) c.if-second.false
