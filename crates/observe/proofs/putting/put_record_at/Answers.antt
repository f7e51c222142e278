use Rattle.observe.proofs.Observing as observing
use Rattle.versions.proofs.Laws as versions
use Rattle.observe.proofs.putting.put_record_at.Goals as goal

pub returns-then-replaces : goal.returns-then-replaces
returns-then-replaces c = λ e k q. observing.stored _ e (c.replaces.ensures e k (c.version_at-version.ensures.version_of e (versions.stands_padded e _ _ k q))) c.if-replaces.true (c.put_record_at-within.ensures e k q) c.tried.ensures

pub returns : goal.returns
returns c = λ e k q. observing.stays _ e c.args.p (c.replaces.ensures e k (c.version_at-version.ensures.version_of e (versions.stands_padded e _ _ k q))) c.if-replaces.false
