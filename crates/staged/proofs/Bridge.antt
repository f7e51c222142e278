-- The functions on the pass in the model's words. Assumes nothing.
use Rattle.std.specs.Prelude.{Option, Some, None}
use mathlib.Core.Path.{◌≡◌, refl}
use Rattle.model.specs.Event.{Text}
use Rattle.model.specs.State.{Pass}
use Rattle.model.specs.Maps.{by_name, get, is_some, is_some_and}
use Rattle.model.specs.Machine.{Machine}
use Rattle.model.specs.Sync.{is_unread, pass_done, pass_full, listed_unread}
use Rattle.state.specs.Layout.{pass_of, no_pass}
use Rattle.staged.specs.Staging.{staged_of}

-- what `is_done` reads
pub pass_done_is : (m : Machine) → is_some (pass_of m.state.pass).done ≡ pass_done m
unfolding pass_done is_some is_some_and pass_of no_pass
pass_done_is m = go m.state.pass
  where
    go : (o : Option Pass) → is_some (pass_of o).done ≡ is_some_and (λ pass. is_some pass.done) o
    go None = refl
    go (Some p) = refl

-- what `is_full` reads
pub pass_full_is : (m : Machine) → (pass_of m.state.pass).full ≡ pass_full m
unfolding pass_full is_some_and pass_of no_pass
pass_full_is m = go m.state.pass
  where
    go : (o : Option Pass) → (pass_of o).full ≡ is_some_and (λ pass. pass.full) o
    go None = refl
    go (Some p) = refl

-- what `listed_unread` reads
pub listed_unread_is : (r : Text) (m : Machine) → is_some_and is_unread (get by_name r (staged_of m.state)) ≡ listed_unread r m
unfolding listed_unread is_some_and pass_of no_pass get
listed_unread_is r m = go m.state.pass
  where
    go : (o : Option Pass) → is_some_and is_unread (get by_name r (pass_of o).staged) ≡ is_some_and (λ pass. is_some_and is_unread (get by_name r pass.staged)) o
    go None = refl
    go (Some p) = refl
