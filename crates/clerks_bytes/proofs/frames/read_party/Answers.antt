use Rattle.clerks_bytes.proofs.FrameLaws.{party_is}
use Rattle.clerks_bytes.proofs.frames.read_party.Goals as goal

pub returns : goal.returns
returns c = party_is c.args.number c.args.frame.now c.args.c c.role-who.ensures.place c.skip_fields-next.ensures
