use Rattle.writes.proofs.Behind as behind
use mathlib.Core.Path.{sym, ◌∙◌}
use Rattle.writes.proofs.remap.Goals as goal

pub returns-then-same_name : goal.returns-then-same_name
returns-then-same_name c = behind.remap_same _ _ c.same_name.ensures c.if-same_name.true

pub move_behind-requires : goal.move_behind-requires
move_behind-requires c = record { has_state = behind.alias_state c.add_alias-within.ensures c.requires.has_state; named = (c.requires.named.0, c.requires.named.1, sym c.same_name.ensures ∙ c.if-same_name.false) }

pub returns : goal.returns
returns c = behind.remaps _ _ c.same_name.ensures c.if-same_name.false c.add_alias-within.ensures c.tried-q.ensures c.tell_remapped-r.ensures c.move_behind.ensures
