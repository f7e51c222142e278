use Rattle.sender_bytes.specs.Read.{granted_by}
use Rattle.sender_bytes.proofs.UseLaws.{resume_none}
use Rattle.zagyvelon.proofs.bay_sender_resume.Goals as goal

pub returns-in-Ok : goal.returns-in-Ok
unfolding granted_by
returns-in-Ok c = rw c.in-Ok.is at (resume_none _ _ _ _ c.resume.ensures)

pub returns-in-Err : goal.returns-in-Err
unfolding granted_by
returns-in-Err c = rw (c.in-Err.is, ← c.from.ensures) at (resume_none _ _ _ _ c.resume.ensures)
