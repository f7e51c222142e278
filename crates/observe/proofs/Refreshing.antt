-- `on_refresh`. Assumes nothing.
use Rattle.std.specs.Prelude.{Option, None}
use Prim.Native.Nat.{ℕ}
use mathlib.Core.Path.{◌≡◌, refl, sym, ap, subst}
use mathlib.Core.List.{List}
use mathlib.Core.Bool.{Bool, true, false, ◌||◌, false≢true}
use lib.Dec.{ltb}
use Rattle.format.specs.Format.{option, via, enum, ◌∣◌}
use Rattle.model.specs.Event.{ProviderEvent}
use Rattle.model.specs.Seam.{ResourceId, RequestId}
use Rattle.model.specs.State.{SyncState}
use Rattle.model.specs.Maps.{when◌then◌else◌, by_name, get, is_some_and}
use Rattle.model.specs.Formats.{event_f, outcome_f}
use Rattle.model.specs.Machine.{Machine}
use Rattle.model.specs.Sync.{doubtful, doubt, observe, ReadAnswer, answer_failed, answer, refresh_answered, on_refresh}
use Rattle.frame.specs.Meaning.{option_event_at, meant_failure, meant_outcome}
use Rattle.frame.specs.declared.Failure.{Failure}
use Rattle.frame.specs.declared.Failure.TheVariants.{CursorExpired, PreconditionFailed, NotFound, AlreadyExists, Transient, Rejected}
use Rattle.frame.specs.declared.Outcome.{Outcome}
use Rattle.frame.specs.declared.Outcome.TheVariants.{Listed, Read, Written, Deleted, Failed}
use Rattle.state.specs.Contract.{Reads}
use Rattle.machine.specs.declared.Progress.{Progress}
use Rattle.machine.specs.Contract.{Does, Changes}
use Rattle.machine.proofs.Runs as runs

-- ---- what was found

abbrev pub doubts : RequestId → ResourceId → SyncState → Bool
doubts id r s = ltb id s.learned_all || is_some_and (λ since. ltb id since) (get by_name r s.learned)

found_is : (id : RequestId) (r : ResourceId) (event : Option ProviderEvent) (m : Machine) → (when doubts id r m.state then doubt r m else observe r event m) ≡ refresh_answered id r (ReadAnswer.Found event) m
unfolding refresh_answered doubtful
found_is id r event m = refl

pub found_doubted : (id : RequestId) (r : ResourceId) (event : Option ProviderEvent) {w o w' o' : List ℕ} {p q : Progress} {v : Bool} → Reads (doubts id r) w v → v ≡ true → Does (doubt r) w o p q w' o'
    → Does (refresh_answered id r (ReadAnswer.Found event)) w o p q w' o'
found_doubted id r event R z D = runs.is (refresh_answered id r (ReadAnswer.Found event)) (found_is id r event) (runs.taken (observe r event) R z D)

pub found_sure : (id : RequestId) (r : ResourceId) (event : Option ProviderEvent) {w w' : List ℕ} (o : List ℕ) {p q : Progress} {v : Bool} → Reads (doubts id r) w v → v ≡ false → Changes (observe r event) w p q w'
    → Does (refresh_answered id r (ReadAnswer.Found event)) w o p q w' o
found_sure id r event o R z C = runs.is (refresh_answered id r (ReadAnswer.Found event)) (found_is id r event) (runs.left (doubt r) R z (C.does o))

-- ---- the other answers

other : (id : RequestId) (r : ResourceId) (a : ReadAnswer) {w o : List ℕ} {p : Progress} → a ≡ ReadAnswer.Other → Does (refresh_answered id r a) w o p p w o
unfolding refresh_answered
other id r a e = runs.is (refresh_answered id r a) (λ m. sym (ap (λ (x : ReadAnswer). refresh_answered id r x m) e)) runs.nothing

answered : (id : RequestId) (r : ResourceId) {a b : ReadAnswer} {w o w' o' : List ℕ} {p q : Progress} → a ≡ b → Does (refresh_answered id r b) w o p q w' o' → Does (refresh_answered id r a) w o p q w' o'
answered id r {w = w} {o} {w'} {o'} {p} {q} e D = subst (λ (x : ReadAnswer). Does (refresh_answered id r x) w o p q w' o') (sym e) D

abbrev pub ends : Failure → Bool
ends CursorExpired = true
ends PreconditionFailed = true
ends NotFound = false
ends AlreadyExists = true
ends Transient = false
ends (Rejected why) = true

ends_is : (s : List ℕ) (f : Failure) → ends f ≡ true → answer_failed (meant_failure s f) ≡ ReadAnswer.Other
unfolding answer_failed
ends_is s CursorExpired z = refl
ends_is s PreconditionFailed z = refl
ends_is s NotFound z = absurd (false≢true z)
ends_is s AlreadyExists z = refl
ends_is s Transient z = absurd (false≢true z)
ends_is s (Rejected why) z = refl

pub failed_ends : (s : List ℕ) (id : RequestId) (r : ResourceId) (f : Failure) {w o : List ℕ} {p : Progress} → ends f ≡ true → Does (refresh_answered id r (answer_failed (meant_failure s f))) w o p p w o
failed_ends s id r f z = other id r (answer_failed (meant_failure s f)) (ends_is s f z)

pub failed_gone : (s : List ℕ) (id : RequestId) (r : ResourceId) {f : Failure} {w o w' o' : List ℕ} {p q : Progress} → f ≡ NotFound → Does (refresh_answered id r (ReadAnswer.Found None)) w o p q w' o'
    → Does (refresh_answered id r (answer_failed (meant_failure s f))) w o p q w' o'
unfolding answer_failed
failed_gone s id r e D = answered id r (ap (λ (x : Failure). answer_failed (meant_failure s x)) e) D

pub failed_again : (s : List ℕ) (id : RequestId) (r : ResourceId) {f : Failure} {w o w' o' : List ℕ} {p q : Progress} → f ≡ Transient → Does (doubt r) w o p q w' o'
    → Does (refresh_answered id r (answer_failed (meant_failure s f))) w o p q w' o'
unfolding answer_failed refresh_answered
failed_again s id r e D = answered id r (ap (λ (x : Failure). answer_failed (meant_failure s x)) e) (runs.is (refresh_answered id r ReadAnswer.Again) (λ m. refl) D)

-- ---- the outcome

abbrev pub says_nothing : Outcome → Bool
says_nothing (Listed page) = true
says_nothing (Read event) = false
says_nothing (Written event) = true
says_nothing Deleted = true
says_nothing (Failed failure) = false

nothing_is : (s : List ℕ) (o : Outcome) → says_nothing o ≡ true → answer (meant_outcome s o) ≡ ReadAnswer.Other
unfolding answer
nothing_is s (Listed page) z = refl
nothing_is s (Read event) z = absurd (false≢true z)
nothing_is s (Written event) z = refl
nothing_is s Deleted z = refl
nothing_is s (Failed failure) z = absurd (false≢true z)

pub refreshed_not : (s : List ℕ) (id : RequestId) (r : ResourceId) (x : Outcome) {w o : List ℕ} {p : Progress} → says_nothing x ≡ true → Does (on_refresh id r (meant_outcome s x)) w o p p w o
unfolding on_refresh
refreshed_not s id r x z = other id r (answer (meant_outcome s x)) (nothing_is s x z)

pub read_fits : (s : List ℕ) (x : Outcome) (at : ℕ) → outcome_f.Ok (meant_outcome s x) → x ≡ Read at → (option event_f).Ok (option_event_at s at)
unfolding outcome_f via enum ◌∣◌
read_fits s x at k e = subst (λ (y : Outcome). outcome_f.Ok (meant_outcome s y)) e k

pub refreshed_read : (s : List ℕ) (id : RequestId) (r : ResourceId) (at : ℕ) {x : Outcome} {w o w' o' : List ℕ} {p q : Progress} → x ≡ Read at → Does (refresh_answered id r (ReadAnswer.Found (option_event_at s at))) w o p q w' o'
    → Does (on_refresh id r (meant_outcome s x)) w o p q w' o'
unfolding on_refresh answer
refreshed_read s id r at e D = answered id r (ap (λ (y : Outcome). answer (meant_outcome s y)) e) D

pub refreshed_failed : (s : List ℕ) (id : RequestId) (r : ResourceId) (f : Failure) {x : Outcome} {w o w' o' : List ℕ} {p q : Progress} → x ≡ Failed f → Does (refresh_answered id r (answer_failed (meant_failure s f))) w o p q w' o'
    → Does (on_refresh id r (meant_outcome s x)) w o p q w' o'
unfolding on_refresh answer
refreshed_failed s id r f e D = answered id r (ap (λ (y : Outcome). answer (meant_outcome s y)) e) D
