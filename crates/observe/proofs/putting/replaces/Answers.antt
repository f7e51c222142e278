use Rattle.observe.proofs.Observing as observing
use native.Mathlib.Omega.{arith}
use Rattle.observe.proofs.putting.replaces.Goals as goal

pub overflow_add-at : goal.overflow_add-at
overflow_add-at c = omega (arith, observing.held_room _ c.args.work.now _ _ c.requires.has_state c.find_record.ensures c.in-Some.is)

pub version_at-held-requires : goal.version_at-held-requires
version_at-held-requires c = observing.held_stands _ c.args.work.now _ _ c.requires.has_state c.find_record.ensures c.in-Some.is

pub returns-in-Some : goal.returns-in-Some
returns-in-Some c = λ e k d. observing.gives_found _ e c.args.work.now _ _ _ _ _ c.find_record.ensures c.in-Some.is c.version_at-held.ensures.version_of (λ h j f. c.takes_place.ensures e h k j d f)

pub returns-in-None : goal.returns-in-None
returns-in-None c = λ e k d. observing.gives_missing _ e c.args.work.now _ c.find_record.ensures c.in-None.is
