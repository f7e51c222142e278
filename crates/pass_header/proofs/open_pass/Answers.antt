use Prim.Native.Nat.{◌<◌}
use native.Mathlib.Omega.{arith}
use lib.ListN.{length, set}
use Rattle.tables.proofs.Laws as tables
use Rattle.pass_header.proofs.Laws as laws
use Rattle.pass_header.proofs.open_pass.Goals as goal

pub bounds-work-9186 : goal.bounds-work-9186
bounds-work-9186 c =
    let l = c.requires.keeps.long in
    let z = laws.zeroed 9185 10817 c.args.work.now _ c.fill.new.self (tables.part_length c.args.work.now 9185 10817 (omega arith)) (c.fill.ensures.after (λ y e. e)) in
    let h : 9186 < length (set c.copy_within.new.self 9185 1) = laws.full_inside c.args.work.now _ c.copy_within.new.self 1 l z c.copy_within.ensures.len in
    h

pub returns : goal.returns
returns c =
    let l = c.requires.keeps.long in
    laws.pass_opened c.args.work.now _ c.copy_within.new.self c.from.result c.from.ensures
    (laws.zeroed 9185 10817 c.args.work.now _ c.fill.new.self (tables.part_length c.args.work.now 9185 10817 (omega arith)) (c.fill.ensures.after (λ y e. e))) c.copy_within.ensures.after
