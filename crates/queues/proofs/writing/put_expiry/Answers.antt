use borrow.Author.Rules.{rules}
use mathlib.Core.Path.{ap, ◌∙◌}
use mir.Syntax.{w64}
use mir.Val.{of_z}
use mir.Facts.{to_z-of_z}
use Rattle.queues.proofs.Writers as writers
use Rattle.queues.proofs.writing.put_expiry.Goals as goal

pub returns-in-Never : goal.returns-in-Never
returns-in-Never c = writers.expiry_never c.requires.0 c.requires.1 c.in-Never.is c.start.ensures c.byte-end.ensures

pub returns-in-At : goal.returns-in-At
returns-in-At c = writers.expiry_at c.in-At.at c.requires.0 c.requires.1 c.in-At.is (c.bits_of.ensures ∙ ap (of_z w64) (to_z-of_z {w = w64} {z = c.in-At.at} (search rules))) c.start-in-At.ensures c.byte.ensures c.number-end.ensures
