-- What is asked of a buffer, by whether it holds a well-formed state: the states' bytes as the code has them are the definitions'. Assumes nothing.
use Rattle.std.specs.Prelude.{Option, Some, None}
use Prim.Native.Nat.{ℕ}
use mathlib.Core.Path.{◌≡◌, refl}
use mathlib.Core.List.{List}
use lib.ListN.{length}
use borrow.Author.Tests.{eq-eqb, ne_eqb}
use Rattle.model.specs.State.{SyncState, new}
use Rattle.model.specs.Limits.{document01}
use Rattle.model.specs.Maps.{when◌then◌else◌}
use Rattle.model.specs.Machine.{match◌none:◌some:◌}
use Rattle.model.specs.Entry.{read_state}
use Rattle.model.proofs.StaysWellFormed.{fresh_well_formed}
use Rattle.state.specs.Layout.{layout}
use Rattle.state.specs.Contract.{state_length}
use Rattle.layout.proofs.Bytes.{layout_is}
use Rattle.wellformed.specs.IsState.{IsState}
use Rattle.wellformed.proofs.Fitted.{fits_of}
use Rattle.wellformed.proofs.States.{read_of, is_read}
use Rattle.access.specs.Answers.{asked, freshened}

module _ {A : Type 0} (f : SyncState → A) (missing : A) (b : List ℕ) where
  pub asked_short : (length b ≡ state_length → ⊥) → asked f missing b ≡ (1, missing)
  unfolding asked when◌then◌else◌
  asked_short g = rw (ne_eqb (length b) state_length g)

  pub asked_other : length b ≡ state_length → (IsState b → ⊥) → asked f missing b ≡ (2, missing)
  unfolding asked when◌then◌else◌ match◌none:◌some:◌
  asked_other l g = rw (eq-eqb (length b) state_length l) (go (read_state document01 b) refl)
    where
      go : (o : Option SyncState) → read_state document01 b ≡ o → ◌≡◌ {A = ℕ × A} (match o none: (2, missing) some: (λ s. (0, f s))) (2, missing)
      go None e = refl
      go (Some s) e = absurd (g (is_read e))

  pub asked_state : length b ≡ state_length → (I : IsState b) → asked f missing b ≡ (0, f I.state)
  unfolding asked when◌then◌else◌ match◌none:◌some:◌
  asked_state l I = rw (eq-eqb (length b) state_length l, read_of I)

pub freshened_short : (b : List ℕ) → (length b ≡ state_length → ⊥) → freshened b ≡ (1, b)
unfolding freshened when◌then◌else◌
freshened_short b g = rw (ne_eqb (length b) state_length g)

pub freshened_made : (b : List ℕ) → length b ≡ state_length → freshened b ≡ (0, layout document01 new)
unfolding freshened when◌then◌else◌
freshened_made b l = rw (eq-eqb (length b) state_length l, layout_is document01 new (fits_of document01 new (fresh_well_formed document01)))
