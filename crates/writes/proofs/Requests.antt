-- Requests to write. Assumes nothing.
use Rattle.std.specs.Prelude.{Option}
use Prim.Native.Nat.{ℕ}
use mathlib.Core.Path.{◌≡◌, ap}
use mathlib.Core.List.{List}
use Rattle.format.specs.Format.{option}
use Rattle.model.specs.Event.{Text, ProviderRevision, ProviderEvent}
use Rattle.model.specs.Seam.{Request}
use Rattle.model.specs.Calls.{Effect}
use Rattle.model.specs.State.{Purpose}
use Rattle.model.specs.Formats.{short_text, event_f}
use Rattle.model.specs.Machine.{request}
use Rattle.effects.specs.Told.{ToldOf, ToldOfBoth}
use Rattle.pens.specs.declared.Pen.{Pen}
use Rattle.state.specs.Contract.{Reads}
use Rattle.machine.specs.declared.Progress.{Progress}
use Rattle.machine.specs.Contract.{Does, Changes}
use Rattle.machine.specs.Steps.{pen_of, sent_by, reserve}
use Rattle.machine.proofs.Steps.{requested, sends, told}

module _ {w w₁ o o₁ : List ℕ} {p q r : Progress} {x y : Pen} {id : ℕ} {t : Text} (n : Text) (N : Reads (λ s. s.next_request) w id) (C : Changes (reserve (Purpose.EditWrite n)) w p q w₁) (e : t ≡ n) (a : x ≡ pen_of q) where
  pub updates : {revision event : List ℕ} → ToldOfBoth (option short_text) revision event_f event (λ m e. Effect.Request id (Request.Update t m e)) o o₁ x y → r ≡ sent_by q y
      → (v : Option ProviderRevision) (g : ProviderEvent) → revision ≡ (option short_text).enc v → event ≡ event_f.enc g → Does (request (Purpose.EditWrite n) (Request.Update n v g)) w o p r w₁ o₁
  updates T b v g i j = requested (Purpose.EditWrite n) (Request.Update n v g) N C (sends _ (ap (λ (u : Text). Effect.Request id (Request.Update u v g)) e) (told a (T.told v g i j) b))

  pub deletes : {revision : List ℕ} → ToldOf (option short_text) revision (λ m. Effect.Request id (Request.Delete t m)) o o₁ x y → r ≡ sent_by q y
      → (v : Option ProviderRevision) → revision ≡ (option short_text).enc v → Does (request (Purpose.EditWrite n) (Request.Delete n v)) w o p r w₁ o₁
  deletes T b v i = requested (Purpose.EditWrite n) (Request.Delete n v) N C (sends _ (ap (λ (u : Text). Effect.Request id (Request.Delete u v)) e) (told a (T.told v i) b))
