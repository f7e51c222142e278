use Rattle.std.proofs.Common.{ℕ, ◌-◌, ◌+◌, ◌∙◌, ap, refl, arith, rules}
use Rattle.state.specs.Values.{name_of}
use Rattle.waiting.specs.Texts.{texts_end}
use Rattle.waiting.proofs.Splices as splices
use Rattle.waiting.proofs.Laws as laws
use Rattle.waiting.proofs.Folds as folds
use Rattle.waiting.proofs.folding.fold.Goals as goal

pub returns-then-n-eq0 : goal.returns-then-n-eq0
returns-then-n-eq0 c = λ o e B. folds.folds_none (name_of c.args.name.bytes) c.args.work.now c.waiting_count-n.result c.requires.named.0.ok c.waiting_count-n.ensures (search rules) o e

pub overflow_add-i : goal.overflow_add-i
overflow_add-i c =
    let S = (laws.has_slot (name_of c.args.name.bytes) c.args.work.now (c.waiting_count-n.result - 1) c.waiting_count-n.result c.entries_before.result c.waiting_count-n.ensures c.entries_before.ensures (omega arith)) in
    omega (arith, laws.index_below _ _ _ _ c.requires.has_state S)

pub slot_at-p-requires : goal.slot_at-p-requires
slot_at-p-requires c =
    let S = (laws.has_slot (name_of c.args.name.bytes) c.args.work.now (c.waiting_count-n.result - 1) c.waiting_count-n.result c.entries_before.result c.waiting_count-n.ensures c.entries_before.ensures (omega arith)) in
    laws.index_below _ _ _ _ c.requires.has_state S

pub bounds-work-p : goal.bounds-work-p
bounds-work-p c =
    let S = (laws.has_slot (name_of c.args.name.bytes) c.args.work.now (c.waiting_count-n.result - 1) c.waiting_count-n.result c.entries_before.result c.waiting_count-n.ensures c.entries_before.ensures (omega arith)) in
    omega (arith, laws.index_below _ _ _ _ c.requires.has_state S, c.requires.has_state.keeps.long)

pub returns-then-count-ge-ABSORBED_LIMIT : goal.returns-then-count-ge-ABSORBED_LIMIT
returns-then-count-ge-ABSORBED_LIMIT c =
    let S = (laws.has_slot (name_of c.args.name.bytes) c.args.work.now (c.waiting_count-n.result - 1) c.waiting_count-n.result c.entries_before.result c.waiting_count-n.ensures c.entries_before.ensures (omega arith)) in
    let F = (laws.found (name_of c.args.name.bytes) c.args.work.now (c.entries_before.result + (c.waiting_count-n.result - 1)) (c.waiting_count-n.result - 1) c.slot_at-p.result c.requires.named.0.ok S c.slot_at-p.ensures) in
    λ o e B. folds.folds_full (name_of c.args.name.bytes) c.args.work.now c.waiting_count-n.result c.slot_at-p.result _ c.waiting_count-n.ensures F refl (search rules) o e

pub overflow_sub-end : goal.overflow_sub-end
overflow_sub-end c =
    let S = (laws.has_slot (name_of c.args.name.bytes) c.args.work.now (c.waiting_count-n.result - 1) c.waiting_count-n.result c.entries_before.result c.waiting_count-n.ensures c.entries_before.ensures (omega arith)) in
    let F = (laws.found (name_of c.args.name.bytes) c.args.work.now (c.entries_before.result + (c.waiting_count-n.result - 1)) (c.waiting_count-n.result - 1) c.slot_at-p.result c.requires.named.0.ok S c.slot_at-p.ensures) in
    let d = folds.end_is (name_of c.args.name.bytes) c.args.work.now c.waiting_count-n.result c.slot_at-p.result _ c.texts_end-end.result c.requires.has_state c.waiting_count-n.ensures F refl (search rules) (c.texts_end-end.ensures ∙ ap (λ (k : ℕ). texts_end k c.args.work.now (c.slot_at-p.result + 5676)) c.from.ensures) in
    omega arith

pub absorb_into-requires : goal.absorb_into-requires
absorb_into-requires c =
    let S = (laws.has_slot (name_of c.args.name.bytes) c.args.work.now (c.waiting_count-n.result - 1) c.waiting_count-n.result c.entries_before.result c.waiting_count-n.ensures c.entries_before.ensures (omega arith)) in
    let F = (laws.found (name_of c.args.name.bytes) c.args.work.now (c.entries_before.result + (c.waiting_count-n.result - 1)) (c.waiting_count-n.result - 1) c.slot_at-p.result c.requires.named.0.ok S c.slot_at-p.ensures) in
    let d = folds.end_is (name_of c.args.name.bytes) c.args.work.now c.waiting_count-n.result c.slot_at-p.result _ c.texts_end-end.result c.requires.has_state c.waiting_count-n.ensures F refl (search rules) (c.texts_end-end.ensures ∙ ap (λ (k : ℕ). texts_end k c.args.work.now (c.slot_at-p.result + 5676)) c.from.ensures) in
    record { has_slots = splices.has_slots c.requires.has_state; i_bound = (laws.index_count _ _ _ _ c.requires.has_state S, omega arith, c.requires.named.1, c.requires.named.2) }

pub returns : goal.returns
returns c =
    let S = (laws.has_slot (name_of c.args.name.bytes) c.args.work.now (c.waiting_count-n.result - 1) c.waiting_count-n.result c.entries_before.result c.waiting_count-n.ensures c.entries_before.ensures (omega arith)) in
    let F = (laws.found (name_of c.args.name.bytes) c.args.work.now (c.entries_before.result + (c.waiting_count-n.result - 1)) (c.waiting_count-n.result - 1) c.slot_at-p.result c.requires.named.0.ok S c.slot_at-p.ensures) in
    folds.folds (name_of c.args.name.bytes) c.args.work.now c.absorb_into.new.work c.args.operation.now c.args.expiry.now c.args.id.now c.waiting_count-n.result (c.entries_before.result + (c.waiting_count-n.result - 1)) c.slot_at-p.result _ c.texts_end-end.result c.requires.named.0.ok c.waiting_count-n.ensures S F refl (search rules) (c.texts_end-end.ensures ∙ ap (λ (k : ℕ). texts_end k c.args.work.now (c.slot_at-p.result + 5676)) c.from.ensures) c.absorb_into.ensures
