use Rattle.std.proofs.Common.{◌≡◌, ◌-◌}
use Rattle.format.specs.Format.{list}
use Rattle.model.specs.Formats.{short_text}
use Rattle.reader.specs.Left.{rest, after}
use Rattle.reader.proofs.Laws.{after_many}
use Rattle.wellformed.proofs.slot.skip_edit_ids.Given as goal

abbrev pub invariant-loop-i : goal.invariant-loop-i
invariant-loop-i l = after (list 8 short_text) l.at.rest.now ≡ after_many short_text (l.count - l._i) (rest l.next)
