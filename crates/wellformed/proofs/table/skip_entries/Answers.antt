use Rattle.std.proofs.Common.{rules, ◌∙◌}
use Rattle.format.specs.Format.{list}
use Rattle.reader.specs.Left.{after}
use Rattle.wellformed.specs.Entries.{entry_f, entries_f}
use Rattle.wellformed.proofs.FieldLaws.{in_width_is}
use Rattle.wellformed.proofs.table.skip_entries.Goals as goal

pub returns : goal.returns
unfolding entries_f
returns c = c.padded.ensures (after (list 6 entry_f)) (λ x r p. search rules) ∙ in_width_is 35641 (list 6 entry_f) _
