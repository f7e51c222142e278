use Rattle.frame.proofs.Steps.{part_none, part_starts, part_ends, part_text}
use Rattle.frame.proofs.text_part.Goals as goal

pub returns-then-not-c : goal.returns-then-not-c
returns-then-not-c c =
    let a = c.args in
    let r = c.text_in-c in
    part_none a.limit a.rest.now r.result r.ensures c.if-not-c.true

pub slice_bounds-result-count : goal.slice_bounds-result-count
slice_bounds-result-count c =
    let a = c.args in
    let r = c.text_in-c in
    part_starts a.limit a.rest.now r.result r.ensures c.if-not-c.false

pub slice_bounds-result-start : goal.slice_bounds-result-start
slice_bounds-result-start c =
    let a = c.args in
    let r = c.text_in-c in
    part_starts a.limit a.rest.now r.result r.ensures c.if-not-c.false

pub slice_bounds-result-end-2 : goal.slice_bounds-result-end-2
slice_bounds-result-end-2 c =
    let a = c.args in
    let r = c.text_in-c in
    part_ends a.limit a.rest.now r.result r.ensures c.if-not-c.false

pub returns : goal.returns
returns c =
    let a = c.args in
    let r = c.text_in-c in
    part_text a.limit a.rest.now r.result r.ensures c.if-not-c.false
