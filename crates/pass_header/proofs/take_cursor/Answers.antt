use Rattle.pass_header.proofs.Laws as laws
use Rattle.pass_header.proofs.take_cursor.Goals as goal

pub returns : goal.returns
returns c = laws.cursor_taken c.args.work.now c.copy_within.new.self c.copy_within.ensures.after
