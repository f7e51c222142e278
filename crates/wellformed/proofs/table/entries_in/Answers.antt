use Rattle.std.proofs.Common.{sym, ◌∙◌}
use Rattle.tables.proofs.Laws.{false_true}
use Rattle.wellformed.proofs.EntryLaws.{walked, slots_yes, slots_no, slots_hold, slots_in, edits_in, edits_order}
use Rattle.wellformed.proofs.table.entries_in.Goals as goal

pub keys_ordered-requires : goal.keys_ordered-requires
keys_ordered-requires c =
    let b = c.args.region.now in
    slots_hold b c.requires (slots_yes b c.requires (sym (walked b c.skip_entries.result c.skip_entries.ensures c.is_some.ensures) ∙ c.if-is_some.true))

pub returns-then-is_some : goal.returns-then-is_some
returns-then-is_some c =
    let b = c.args.region.now in
    let S = slots_yes b c.requires (sym (walked b c.skip_entries.result c.skip_entries.ensures c.is_some.ensures) ∙ c.if-is_some.true) in
    (λ y. edits_in b S _ c.keys_ordered.ensures y, λ E. c.keys_ordered.ensures ∙ edits_order b E)

pub returns-else-is_some : goal.returns-else-is_some
returns-else-is_some c =
    let b = c.args.region.now in
    (λ y. absurd (false_true (sym c.if-is_some.false ∙ y)), λ E. walked b c.skip_entries.result c.skip_entries.ensures c.is_some.ensures ∙ slots_no b (slots_in b E))
