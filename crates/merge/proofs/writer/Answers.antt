use Rattle.merge.proofs.Laws as laws
use Rattle.merge.proofs.writer.Goals as goal

pub returns : goal.returns
returns c = laws.writer_is c.args.role.now _ c.short_text_at.ensures
