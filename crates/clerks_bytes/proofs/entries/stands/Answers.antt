use mathlib.Core.Path.{refl}
use Rattle.clerks_bytes.proofs.EntryLaws.{stands_by}
use Rattle.clerks_bytes.proofs.entries.stands.Goals as goal

pub returns : goal.returns
returns c = stands_by c.args.list.now c.args.address.now c.find_entry-found.ensures refl
