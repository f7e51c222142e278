use Rattle.versions.proofs.Laws as laws
use Rattle.versions.proofs.has_revision.Goals as goal

pub returns : goal.returns
returns c = λ h ok d. laws.has_is h c.args.held.revision c.args.revision.now _ c.args.held.mapper _ ok d c.requires (laws.revision_put c.args.revision.now c.copy_from_slice.new.self c.requires c.copy_from_slice.ensures.after) c.eq.ensures
