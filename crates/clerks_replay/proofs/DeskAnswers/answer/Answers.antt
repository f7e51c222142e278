use Rattle.clerks_bytes.proofs.BufferLaws.{line_is}
use borrow.Author.Rules.{rules}
use Rattle.clerks_replay.proofs.DeskAnswers.answer.Goals as goal

pub answer_line-n-requires : goal.answer_line-n-requires
answer_line-n-requires c = let l = line_is in search rules
