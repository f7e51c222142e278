-- Sequencing: what a function does, from what the functions that it calls do. Each law is for one line of a `do` block of the
-- definitions. Assumes nothing.
use Prim.Native.Nat.{ℕ}
use mathlib.Core.Path.{◌≡◌, refl, sym, ◌∙◌, subst}
use mathlib.Core.List.{List}
use mathlib.Core.Bool.{Bool, true, false}
use Rattle.model.specs.State.{SyncState}
use Rattle.model.specs.Maps.{when◌then◌else◌}
use Rattle.model.specs.Machine.{Machine, Run, refused, ok, ◌>>=◌, with_state}
use Rattle.state.specs.Contract.{HasState, Reads, Edits}
use Rattle.machine.specs.declared.Progress.{Progress}
use Rattle.machine.specs.Contract.{Holds, Ran, Does}

pub bind_ok : (r : Run) → (r >>= ok) ≡ r
unfolding ◌>>=◌
bind_ok (refused n) = refl
bind_ok (ok m) = refl

ran_then : (r : Run) (g : Machine → Run) (q s : Progress) (w o w' o' : List ℕ) → Ran r q w o → Does g w o q s w' o' → Ran (r >>= g) s w' o'
unfolding Ran ◌>>=◌
ran_then (refused n) g q s w o w' o' h d = (d.stays (λ z. h.1 (sym h.0 ∙ z)) ∙ h.0, h.1)
ran_then (ok m) g q s w o w' o' h d = d.run h.0 m h.1

-- m ← f m, and then g
pub next : {f g : Machine → Run} {w o w₁ o₁ w₂ o₂ : List ℕ} {p q s : Progress} → Does f w o p q w₁ o₁ → Does g w₁ o₁ q s w₂ o₂ → Does (λ m. f m >>= g) w o p s w₂ o₂
next {f} {g} {w₁ = w₁} {o₁} {w₂} {o₂} {q = q} {s} d e = record {
  run = λ z m h. ran_then (f m) g q s w₁ o₁ w₂ o₂ (d.run z m h) e;
  stays = λ n. let k = d.stays n in e.stays (λ z. n (sym k ∙ z)) ∙ k;
  state = λ h. e.state (d.state h);
}

pub edited : {f : SyncState → SyncState} {w w' : List ℕ} → Edits f w w' → HasState w → HasState w'
edited {f} e h = record { state = f h.state; keeps = e.makes h.state h.keeps }

-- let m = f m, and then g
pub edit : {f : SyncState → SyncState} {g : Machine → Run} {w w₁ o w₂ o₂ : List ℕ} {p q : Progress} → Edits f w w₁ → Does g w₁ o p q w₂ o₂
    → Does (λ m. g (with_state (f m.state) m)) w o p q w₂ o₂
edit {f} e d = record {
  run = λ z m h. d.run z (with_state (f m.state) m) (record { limits = h.limits; keeps = e.makes m.state h.keeps; sent = h.sent });
  stays = d.stays;
  state = λ h. d.state (edited e h);
}

-- nothing more
pub nothing : {w o : List ℕ} {p : Progress} → Does ok w o p p w o
unfolding Ran
nothing = record { run = λ z m h. (z, h); stays = λ n. refl; state = λ h. h }

-- let m = f m, and nothing more
pub last_edit : {f : SyncState → SyncState} {w w₁ o : List ℕ} {p : Progress} → Edits f w w₁ → Does (λ m. ok (with_state (f m.state) m)) w o p p w₁ o
last_edit e = edit {g = ok} e nothing

-- a value that was read of the state
pub reading : {A : Type 0} {f : SyncState → A} (g : A → Machine → Run) {v : A} {w o w' o' : List ℕ} {p q : Progress} → Reads f w v → Does (g v) w o p q w' o'
    → Does (λ m. g (f m.state) m) w o p q w' o'
reading {f = f} g {v} {w} {o} {w'} {o'} {p} {q} r d = record {
  run = λ z m h. subst (λ x. Ran (g x m) q w' o') (r.is m.state h.keeps) (d.run z m h);
  stays = d.stays;
  state = d.state;
}

-- a test of the state that came out true, and one that came out false
pub taken : {b : SyncState → Bool} {f : Machine → Run} (g : Machine → Run) {v : Bool} {w o w' o' : List ℕ} {p q : Progress} → Reads b w v → v ≡ true → Does f w o p q w' o'
    → Does (λ m. when b m.state then f m else g m) w o p q w' o'
unfolding when◌then◌else◌
taken {f = f} g {w' = w'} {o'} {q = q} r e d = record {
  run = λ z m h. subst (λ x. Ran (when x then f m else g m) q w' o') (sym e ∙ r.is m.state h.keeps) (d.run z m h);
  stays = d.stays;
  state = d.state;
}

pub left : {b : SyncState → Bool} (f : Machine → Run) {g : Machine → Run} {v : Bool} {w o w' o' : List ℕ} {p q : Progress} → Reads b w v → v ≡ false → Does g w o p q w' o'
    → Does (λ m. when b m.state then f m else g m) w o p q w' o'
unfolding when◌then◌else◌
left f {g} {w' = w'} {o'} {q = q} r e d = record {
  run = λ z m h. subst (λ x. Ran (when x then f m else g m) q w' o') (sym e ∙ r.is m.state h.keeps) (d.run z m h);
  stays = d.stays;
  state = d.state;
}

-- the same thing, said otherwise
pub is : {f : Machine → Run} (g : Machine → Run) {w o w' o' : List ℕ} {p q : Progress} → ((m : Machine) → f m ≡ g m) → Does f w o p q w' o' → Does g w o p q w' o'
is g {w' = w'} {o'} {q = q} e d = record {
  run = λ z m h. subst (λ (x : Run). Ran x q w' o') (e m) (d.run z m h);
  stays = d.stays;
  state = d.state;
}

-- only for machines whose state and limits the buffers can hold
pub is_held : {f : Machine → Run} (g : Machine → Run) {w o w' o' : List ℕ} {p q : Progress} → ((m : Machine) → Holds m w o p.at → f m ≡ g m) → Does f w o p q w' o' → Does g w o p q w' o'
is_held g {w' = w'} {o'} {q = q} e d = record {
  run = λ z m h. subst (λ (x : Run). Ran x q w' o') (e m h) (d.run z m h);
  stays = d.stays;
  state = d.state;
}
