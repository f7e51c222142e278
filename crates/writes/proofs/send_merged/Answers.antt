use Rattle.writes.proofs.Planning as planning
use Rattle.writes.proofs.send_merged.Goals as goal

pub returns-then-changed : goal.returns-then-changed
returns-then-changed c = λ b o t by M E T. planning.merge_writes _ t _ (c.changed.ensures b o t by M T) c.if-changed.true (c.request_update.ensures _ _ (c.revision_of.ensures t T) E)

pub returns : goal.returns
returns c = λ b o t by M E T. planning.merge_ends _ t _ (c.changed.ensures b o t by M T) c.if-changed.false c.finish.ensures
