use Rattle.attendees.proofs.Laws as laws
use mathlib.Core.Path.{sym}
use borrow.Author.Rules.{rules}
use lib.Seq.{length-take-le}
use Rattle.attendees.proofs.entry_parts.head.Goals as goal

pub returns-then-entry-lt2 : goal.returns-then-entry-lt2
returns-then-entry-lt2 c = laws.head_short c.args.entry.now (search rules)

pub slice_bounds-result-end-2 : goal.slice_bounds-result-end-2
slice_bounds-result-end-2 c = sym (length-take-le _ _ (search rules))
