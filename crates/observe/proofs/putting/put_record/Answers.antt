use Rattle.observe.proofs.Observing as observing
use Rattle.observe.proofs.putting.put_record.Goals as goal

pub version_at-version-requires : goal.version_at-version-requires
version_at-version-requires c = observing.has_alone _ c.requires.named.1

pub returns-then-replaces : goal.returns-then-replaces
returns-then-replaces c = λ e k q. observing.stored _ e (c.replaces.ensures e k (c.version_at-version.ensures.version_of e (observing.stands_alone e _ k q))) c.if-replaces.true (c.put_record-within.ensures e k q) c.tried.ensures

pub returns : goal.returns
returns c = λ e k q. observing.stays _ e c.args.p (c.replaces.ensures e k (c.version_at-version.ensures.version_of e (observing.stands_alone e _ k q))) c.if-replaces.false
