use Rattle.std.proofs.Common.{arith}
use Rattle.versions.proofs.Laws as laws
use Rattle.versions.proofs.version_at.Goals as goal

pub after_option-to-requires : goal.after_option-to-requires
after_option-to-requires c =
    let h = laws.revision_room c.requires.event c.args.buf.now _ (c.revision_place-from.ensures c.requires.event c.requires.stands) in
    omega arith

pub padded_part-revision-requires : goal.padded_part-revision-requires
padded_part-revision-requires c =
    let h = laws.version_room c.requires.event c.args.buf.now _ _ c.requires.stands.ok (c.revision_place-from.ensures c.requires.event c.requires.stands) c.after_option-to.ensures in
    (h.0, omega arith, h.2)

pub read_four-mapper-requires : goal.read_four-mapper-requires
read_four-mapper-requires c =
    let h = laws.version_room c.requires.event c.args.buf.now _ _ c.requires.stands.ok (c.revision_place-from.ensures c.requires.event c.requires.stands) c.after_option-to.ensures in
    omega arith

pub returns-clause-version_of : goal.returns-clause-version_of
returns-clause-version_of c = λ e s. laws.version_is e c.args.buf.now c.padded_part-revision.result _ _ _ s.ok (c.revision_place-from.ensures e s) c.after_option-to.ensures c.padded_part-revision.ensures c.read_four-mapper.ensures
