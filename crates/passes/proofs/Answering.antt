-- The answers to a listing and to a pass's read: each law's premises are what the callees ensure. Assumes nothing.
use Rattle.std.specs.Prelude.{Option, Some, None}
use Rattle.format.proofs.Options.{Some-injective, None-ne-Some}
use Prim.Native.Nat.{ℕ}
use mathlib.Core.Path.{◌≡◌, refl, sym, ap, ◌∙◌, subst}
use mathlib.Core.List.{List}
use mathlib.Core.Bool.{Bool, true, false, false≢true}
use Rattle.format.specs.Format.{option, via, enum, ◌∣◌, ◌⊗◌}
use Rattle.model.specs.Event.{ProviderEvent}
use Rattle.model.specs.Seam.{RequestId, ResourceId, Next, Page, Failure, Outcome}
use Rattle.model.specs.State.{Pass, SyncState}
use Rattle.model.specs.Maps.{when◌then◌else◌, by_name, get, delete, is_some, is_some_and}
use Rattle.model.specs.Formats.{event_f, next_f, page_f, outcome_f}
use Rattle.model.specs.Machine.{Machine, Run, ok, ◌>>=◌, for_each, match◌none:◌some:◌, in_pass, unwatch, with_observed}
use Rattle.model.specs.Sync.{answer, answer_failed, is_unread, doubtful, doubt, observe, read_unread, list_change, after_page, on_page, restart_pass, abandon_pass, list_failed, list_answered, on_list, listed_unread, pass_read_found, pass_read_answered, on_pass_read}
use Rattle.frame.specs.Read.{kept, read_at, Means}
use Rattle.frame.specs.Meaning.{option_event_at, page_at, meant_outcome}
use Rattle.frame.specs.declared.Cursor.{Cursor}
use Rattle.frame.specs.declared.Outcome as outcomes
use Rattle.frame.specs.declared.Outcome.TheVariants as outcome
use Rattle.state.specs.Layout.{pass_of}
use Rattle.state.specs.Setters.{pass_changed}
use Rattle.state.specs.Contract.{Reads, Edits}
use Rattle.staged.specs.Staging.{staged_of}
use Rattle.staged.proofs.Bridge.{listed_unread_is}
use Rattle.machine.specs.declared.Progress.{Progress}
use Rattle.machine.specs.Contract.{Does, Changes}
use Rattle.machine.proofs.Runs as runs
use Rattle.passes.specs.Reading.{request_from, failed_in_pass, answered_in_pass}
use Rattle.passes.proofs.Changing as changing
use Rattle.observe.proofs.Refreshing.{doubts}

-- ---- a page

pub end_is : (s : List ℕ) (place next : Cursor) (v nx : Next) → Means next v next_f s place → read_at next_f s place ≡ Some nx → v ≡ nx
end_is s place next v nx M e = go next.ok (M.is ∙ e)
  where
    go : (b : Bool) → kept b v ≡ Some nx → v ≡ nx
    go true q = Some-injective v nx q
    go false q = absurd (None-ne-Some nx q)

pub end_ok : (page : Page) (v : Next) → v ≡ page.next → page_f.Ok page → next_f.Ok v
unfolding page_f via ◌⊗◌
end_ok page v e k = subst (λ (x : Next). next_f.Ok x) (sym e) k.1

pub paged : {w o w₁ w₂ o₂ w₃ o₃ : List ℕ} {p q s t : Progress} (id : RequestId) (page : Page) (v : Next) → Changes (for_each (list_change id) page.changes) w p q w₁ → v ≡ page.next
    → Does (after_page v) w₁ o q s w₂ o₂ → Does read_unread w₂ o₂ s t w₃ o₃ → Does (on_page id page) w o p t w₃ o₃
unfolding on_page
paged {o = o} {w₁ = w₁} {w₂} {o₂} {q = q} {s} id page v C e A R =
    runs.is (on_page id page) (λ m. refl) (runs.next (C.does o) (runs.next (subst (λ (x : Next). Does (after_page x) w₁ o q s w₂ o₂) e A) R))

-- ---- where a pass is open

in_pass_is : (body : Pass → Machine → Run) (m : Machine) → (when is_some m.state.pass then body (pass_of m.state.pass) m else ok m) ≡ in_pass body m
unfolding in_pass match◌none:◌some:◌ is_some when◌then◌else◌ pass_of
in_pass_is body m = go m.state.pass
  where
    go : (o : Option Pass) → (when is_some o then body (pass_of o) m else ok m) ≡ (match o none: ok m some: (λ pass. body pass m))
    go None = refl
    go (Some p) = refl

module _ {w o w' o' : List ℕ} {p q : Progress} {v : Bool} (R : Reads (λ s. is_some s.pass) w v) where
  pub answered : (id : RequestId) (x : Outcome) → v ≡ true → Does (answered_in_pass id x) w o p q w' o' → Does (on_list id x) w o p q w' o'
  unfolding on_list answered_in_pass
  answered id x e D = runs.is (on_list id x) (in_pass_is (list_answered id x)) (runs.taken ok R e D)

  pub given_up : (x : Outcome) → v ≡ true → Does (abandon_pass x) w o p q w' o' → Does (in_pass (λ pass. abandon_pass x)) w o p q w' o'
  given_up x e D = runs.is (in_pass (λ pass. abandon_pass x)) (in_pass_is (λ pass. abandon_pass x)) (runs.taken ok R e D)

module _ {w o : List ℕ} {p : Progress} {v : Bool} (R : Reads (λ s. is_some s.pass) w v) where
  pub not_answered : (id : RequestId) (x : Outcome) → v ≡ false → Does (on_list id x) w o p p w o
  unfolding on_list answered_in_pass
  not_answered id x e = runs.is (on_list id x) (in_pass_is (list_answered id x)) (runs.left (answered_in_pass id x) R e runs.nothing)

  pub not_given_up : (x : Outcome) → v ≡ false → Does (in_pass (λ pass. abandon_pass x)) w o p p w o
  not_given_up x e = runs.is (in_pass (λ pass. abandon_pass x)) (in_pass_is (λ pass. abandon_pass x)) (runs.left (abandon_pass x) R e runs.nothing)

-- ---- the answer to a listing

abbrev pub gives_up : Failure → Bool
gives_up Failure.CursorExpired = false
gives_up Failure.PreconditionFailed = true
gives_up Failure.NotFound = true
gives_up Failure.AlreadyExists = true
gives_up Failure.Transient = false
gives_up (Failure.Rejected reason) = true

fails : (f : Failure) (pass : Pass) (m : Machine) → gives_up f ≡ true → abandon_pass (Outcome.Failed f) m ≡ list_failed f pass m
unfolding list_failed
fails Failure.CursorExpired pass m e = absurd (false≢true e)
fails Failure.PreconditionFailed pass m e = refl
fails Failure.NotFound pass m e = refl
fails Failure.AlreadyExists pass m e = refl
fails Failure.Transient pass m e = absurd (false≢true e)
fails (Failure.Rejected reason) pass m e = refl

abbrev pub is_other : Outcome → Bool
is_other (Outcome.Listed page) = false
is_other (Outcome.Read event) = true
is_other (Outcome.Written event) = true
is_other Outcome.Deleted = true
is_other (Outcome.Failed failure) = false

others : (id : RequestId) (x : Outcome) (pass : Pass) (m : Machine) → is_other x ≡ true → abandon_pass x m ≡ list_answered id x pass m
unfolding list_answered
others id (Outcome.Listed page) pass m e = absurd (false≢true e)
others id (Outcome.Read event) pass m e = refl
others id (Outcome.Written event) pass m e = refl
others id Outcome.Deleted pass m e = refl
others id (Outcome.Failed failure) pass m e = absurd (false≢true e)

module _ {w o w' o' : List ℕ} {p q : Progress} where
  pub failed_other : (f : Failure) → gives_up f ≡ true → Does (abandon_pass (Outcome.Failed f)) w o p q w' o' → Does (failed_in_pass f) w o p q w' o'
  unfolding failed_in_pass
  failed_other f e D = runs.is (failed_in_pass f) (λ m. fails f (pass_of m.state.pass) m e) D

  pub failed_expired : (f : Failure) → f ≡ Failure.CursorExpired → Does restart_pass w o p q w' o' → Does (failed_in_pass f) w o p q w' o'
  unfolding failed_in_pass list_failed
  failed_expired f e D = subst (λ (x : Failure). Does (failed_in_pass x) w o p q w' o') (sym e) (runs.is (failed_in_pass Failure.CursorExpired) (λ m. refl) D)

  pub failed_again : (f : Failure) → f ≡ Failure.Transient → Does request_from w o p q w' o' → Does (failed_in_pass f) w o p q w' o'
  unfolding failed_in_pass list_failed request_from
  failed_again f e D = subst (λ (x : Failure). Does (failed_in_pass x) w o p q w' o') (sym e) (runs.is (failed_in_pass Failure.Transient) (λ m. refl) D)

  pub failed_as : (f g : Failure) → f ≡ g → Does (failed_in_pass g) w o p q w' o' → Does (failed_in_pass f) w o p q w' o'
  failed_as f g e D = subst (λ (x : Failure). Does (failed_in_pass x) w o p q w' o') (sym e) D

  pub answered_as : (id : RequestId) (x y : Outcome) → x ≡ y → Does (answered_in_pass id y) w o p q w' o' → Does (answered_in_pass id x) w o p q w' o'
  answered_as id x y e D = subst (λ (z : Outcome). Does (answered_in_pass id z) w o p q w' o') (sym e) D

  pub answered_other : (id : RequestId) (x : Outcome) → is_other x ≡ true → Does (abandon_pass x) w o p q w' o' → Does (answered_in_pass id x) w o p q w' o'
  unfolding answered_in_pass
  answered_other id x e D = runs.is (answered_in_pass id x) (λ m. others id x (pass_of m.state.pass) m e) D

  pub answered_page : (id : RequestId) (x : Outcome) (page : Page) → x ≡ Outcome.Listed page → Does (on_page id page) w o p q w' o' → Does (answered_in_pass id x) w o p q w' o'
  unfolding answered_in_pass list_answered
  answered_page id x page e D = subst (λ (y : Outcome). Does (answered_in_pass id y) w o p q w' o') (sym e) (runs.is (answered_in_pass id (Outcome.Listed page)) (λ m. refl) D)

  pub answered_failed : (id : RequestId) (x : Outcome) (f : Failure) → x ≡ Outcome.Failed f → Does (failed_in_pass f) w o p q w' o' → Does (answered_in_pass id x) w o p q w' o'
  unfolding answered_in_pass list_answered failed_in_pass
  answered_failed id x f e D = subst (λ (y : Outcome). Does (answered_in_pass id y) w o p q w' o') (sym e) (runs.is (answered_in_pass id (Outcome.Failed f)) (λ m. refl) D)

-- the parts of a valid outcome are valid
pub page_ok : (s : List ℕ) (x : outcomes.Outcome) (page : ℕ) → x ≡ outcome.Listed page → outcome_f.Ok (meant_outcome s x) → page_f.Ok (page_at s page)
unfolding outcome_f via enum ◌∣◌
page_ok s x page e k = subst (λ (y : outcomes.Outcome). outcome_f.Ok (meant_outcome s y)) e k

pub event_ok : (s : List ℕ) (x : outcomes.Outcome) (event : ℕ) → x ≡ outcome.Read event → outcome_f.Ok (meant_outcome s x) → (option event_f).Ok (option_event_at s event)
unfolding outcome_f via enum ◌∣◌
event_ok s x event e k = subst (λ (y : outcomes.Outcome). outcome_f.Ok (meant_outcome s y)) e k

-- ---- the answer to a pass's read

abbrev Unread : ResourceId → SyncState → Bool
Unread r s = is_some_and is_unread (get by_name r (staged_of s))

abbrev read_with : ResourceId → Option ProviderEvent → Bool → Machine → Run
read_with r event listed m = observe r event m >>= (λ m. ok (when listed then unwatch r m else m))

abbrev read_sure : ResourceId → Option ProviderEvent → Machine → Run
read_sure r event m = read_with r event (listed_unread r m) m

pub read_doubted : {w o w' o' : List ℕ} {p q : Progress} {v : Bool} (id : RequestId) (r : ResourceId) (event : Option ProviderEvent) → Reads (doubts id r) w v → v ≡ true → Does (doubt r) w o p q w' o'
    → Does (pass_read_found id r event) w o p q w' o'
unfolding pass_read_found doubtful
read_doubted id r event D e X = runs.is (pass_read_found id r event) (λ m. refl) (runs.taken (read_sure r event) D e X)

module _ {w o : List ℕ} {p q : Progress} {v u : Bool} (id : RequestId) (r : ResourceId) (event : Option ProviderEvent) (D : Reads (doubts id r) w v) (e : v ≡ false) (L : Reads (Unread r) w u) where
  read_by : {w₂ : List ℕ} → Does (read_with r event u) w o p q w₂ o → Does (pass_read_found id r event) w o p q w₂ o
  unfolding pass_read_found doubtful
  read_by X =
      runs.is (pass_read_found id r event) (λ m. refl)
      (runs.left (doubt r) D e (runs.is (read_sure r event) (λ m. ap (λ (b : Bool). read_with r event b m) (listed_unread_is r m)) (runs.reading (read_with r event) L X)))

  pub read_listed : {w₁ w₂ : List ℕ} → Changes (observe r event) w p q w₁ → u ≡ true → Edits (pass_changed (λ p. with_observed (delete r p.observed) p)) w₁ w₂ → Does (pass_read_found id r event) w o p q w₂ o
  unfolding when◌then◌else◌ unwatch
  read_listed {w₂ = w₂} O k E =
      read_by (subst (λ (b : Bool). Does (read_with r event b) w o p q w₂ o) (sym k)
      (runs.next (O.does o) (runs.is (λ m. ok (unwatch r m)) (λ m. ap ok (changing.change_pass_is (λ pass. with_observed (delete r pass.observed) pass) m)) (runs.last_edit E))))

  pub read_unlisted : {w₁ : List ℕ} → Changes (observe r event) w p q w₁ → u ≡ false → Does (pass_read_found id r event) w o p q w₁ o
  unfolding when◌then◌else◌
  read_unlisted {w₁} O k = read_by (subst (λ (b : Bool). Does (read_with r event b) w o p q w₁ o) (sym k) (runs.next (O.does o) runs.nothing))

abbrev pub is_strange : Outcome → Bool
is_strange (Outcome.Listed page) = true
is_strange (Outcome.Read event) = false
is_strange (Outcome.Written event) = true
is_strange Outcome.Deleted = true
is_strange (Outcome.Failed Failure.CursorExpired) = true
is_strange (Outcome.Failed Failure.PreconditionFailed) = true
is_strange (Outcome.Failed Failure.NotFound) = false
is_strange (Outcome.Failed Failure.AlreadyExists) = true
is_strange (Outcome.Failed Failure.Transient) = false
is_strange (Outcome.Failed (Failure.Rejected reason)) = true

strange : (id : RequestId) (r : ResourceId) (x : Outcome) (m : Machine) → is_strange x ≡ true → in_pass (λ pass. abandon_pass x) m ≡ on_pass_read id r x m
unfolding on_pass_read pass_read_answered answer answer_failed
strange id r (Outcome.Listed page) m e = refl
strange id r (Outcome.Read event) m e = absurd (false≢true e)
strange id r (Outcome.Written event) m e = refl
strange id r Outcome.Deleted m e = refl
strange id r (Outcome.Failed Failure.CursorExpired) m e = refl
strange id r (Outcome.Failed Failure.PreconditionFailed) m e = refl
strange id r (Outcome.Failed Failure.NotFound) m e = absurd (false≢true e)
strange id r (Outcome.Failed Failure.AlreadyExists) m e = refl
strange id r (Outcome.Failed Failure.Transient) m e = absurd (false≢true e)
strange id r (Outcome.Failed (Failure.Rejected reason)) m e = refl

module _ {w o w' o' : List ℕ} {p q : Progress} (id : RequestId) (r : ResourceId) (x : Outcome) where
  pub read_strange : is_strange x ≡ true → Does (in_pass (λ pass. abandon_pass x)) w o p q w' o' → Does (on_pass_read id r x) w o p q w' o'
  read_strange e D = runs.is (on_pass_read id r x) (λ m. strange id r x m e) D

  pub read_event : (event : Option ProviderEvent) → x ≡ Outcome.Read event → Does (pass_read_found id r event) w o p q w' o' → Does (on_pass_read id r x) w o p q w' o'
  unfolding on_pass_read pass_read_answered answer
  read_event event e D = subst (λ (y : Outcome). Does (on_pass_read id r y) w o p q w' o') (sym e) (runs.is (on_pass_read id r (Outcome.Read event)) (λ m. refl) D)

  pub read_gone : x ≡ Outcome.Failed Failure.NotFound → Does (pass_read_found id r None) w o p q w' o' → Does (on_pass_read id r x) w o p q w' o'
  unfolding on_pass_read pass_read_answered answer answer_failed
  read_gone e D = subst (λ (y : Outcome). Does (on_pass_read id r y) w o p q w' o') (sym e) (runs.is (on_pass_read id r (Outcome.Failed Failure.NotFound)) (λ m. refl) D)

  pub read_again : x ≡ Outcome.Failed Failure.Transient → Does read_unread w o p q w' o' → Does (on_pass_read id r x) w o p q w' o'
  unfolding on_pass_read pass_read_answered answer answer_failed
  read_again e D = subst (λ (y : Outcome). Does (on_pass_read id r y) w o p q w' o') (sym e) (runs.is (on_pass_read id r (Outcome.Failed Failure.Transient)) (λ m. refl) D)

  pub read_as : (y : Outcome) → x ≡ y → Does (on_pass_read id r y) w o p q w' o' → Does (on_pass_read id r x) w o p q w' o'
  read_as y e D = subst (λ (z : Outcome). Does (on_pass_read id r z) w o p q w' o') (sym e) D
