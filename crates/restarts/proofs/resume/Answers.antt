use Rattle.restarts.proofs.Laws as laws
use Rattle.restarts.proofs.resume.Goals as goal

pub resume_pass-r-requires : goal.resume_pass-r-requires
resume_pass-r-requires c = c.doubt_lost-q.ensures.state c.requires

pub restart_edits-requires : goal.restart_edits-requires
restart_edits-requires c = c.resume_pass-r.ensures.state (c.doubt_lost-q.ensures.state c.requires)

pub returns : goal.returns
returns c = laws.resumed c.doubt_lost-q.ensures c.resume_pass-r.ensures c.restart_edits.ensures
