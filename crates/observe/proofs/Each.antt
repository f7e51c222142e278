-- A loop over a list that was taken at the start. Assumes nothing.
use Prim.Native.Nat.{ℕ, suc, ◌+◌, ◌≤◌, ◌<◌}
use native.Mathlib.Omega.{arith}
use mathlib.Core.Path.{◌≡◌, refl, sym, ap, ◌∙◌, subst}
use mathlib.Core.List.{List, [], ◌∷◌, ◌++◌}
use lib.ListN.{length, take, get_or}
use lib.Seq.{take-suc, take_all}
use Rattle.model.specs.Machine.{Machine, Run, refused, ok, ◌>>=◌, for_each}
use Rattle.model.specs.Event.{Text}
use Rattle.model.specs.Seam.{ResourceId}
use Rattle.model.specs.State.{SyncState}
use Rattle.model.specs.Maps.{map}
use Rattle.model.proofs.Fitting.{length-map}
use Rattle.state.specs.Layout.{name_slot}
use Rattle.state.specs.Values.{name_of}
use Rattle.state.proofs.Names.{names_back, name_there}
use Rattle.state.specs.Contract.{Keeps, HasState, Reads}
use Rattle.machine.specs.declared.Progress.{Progress}
use Rattle.machine.specs.Contract.{Does}
use Rattle.machine.proofs.Runs as runs

pub bind_assoc : (r : Run) (f g : Machine → Run) → (r >>= f >>= g) ≡ (r >>= (λ m. f m >>= g))
unfolding ◌>>=◌
bind_assoc (refused n) f g = refl
bind_assoc (ok m) f g = refl

pub bind_same : (r : Run) (f g : Machine → Run) → ((m : Machine) → f m ≡ g m) → (r >>= f) ≡ (r >>= g)
unfolding ◌>>=◌
bind_same (refused n) f g h = refl
bind_same (ok m) f g h = h m

module _ {A : Type 0} (f : A → Machine → Run) where
  for_snoc : (l : List A) (x : A) (m : Machine) → for_each f (l ++ (x ∷ [])) m ≡ (for_each f l m >>= f x)
  unfolding for_each ◌>>=◌
  for_snoc [] x m = runs.bind_ok (f x m)
  for_snoc (y ∷ l) x m = bind_same (f y m) (for_each f (l ++ (x ∷ []))) (λ n. for_each f l n >>= f x) (for_snoc l x) ∙ sym (bind_assoc (f y m) (for_each f l) (f x))

  pub each_start : (l : List A) {w o : List ℕ} {p : Progress} → Does (for_each f (take 0 l)) w o p p w o
  unfolding for_each
  each_start l = runs.is (for_each f (take 0 l)) (λ m. refl) runs.nothing

  pub each_turn : (l : List A) (d : A) (i : ℕ) {w o w₁ o₁ w₂ o₂ : List ℕ} {p q s : Progress} → i < length l → Does (for_each f (take i l)) w o p q w₁ o₁ → Does (f (get_or l i d)) w₁ o₁ q s w₂ o₂
      → Does (for_each f (take (i + 1) l)) w o p s w₂ o₂
  each_turn l d i h D E =
      let n : i + 1 ≡ suc i = omega arith in
      runs.is (for_each f (take (i + 1) l)) (λ m. sym (ap (λ (k : ℕ). for_each f (take k l) m) n ∙ ap (λ (x : List A). for_each f x m) (take-suc l i d h) ∙ for_snoc (take i l) (get_or l i d) m))
      (runs.next D E)

  pub each_end : (l : List A) (i : ℕ) {w o w₁ o₁ : List ℕ} {p q : Progress} → i ≡ length l → Does (for_each f (take i l)) w o p q w₁ o₁ → Does (for_each f l) w o p q w₁ o₁
  each_end l i e D =
      let t : take i l ≡ l = ap (λ (k : ℕ). take k l) e ∙ take_all (length l) l (omega arith) in
      runs.is (for_each f l) (λ m. ap (λ (x : List A). for_each f x m) t) D

-- what is done depends on a value of the state
pub for_state : {A : Type 0} (f : A → Machine → Run) (g : SyncState → A) {w o w' o' : List ℕ} {p q : Progress} → HasState w → ((s : SyncState) → Keeps s w → Does (f (g s)) w o p q w' o')
    → Does (λ m. f (g m.state) m) w o p q w' o'
for_state f g K d = record {
  run = λ z m h. (d m.state h.keeps).run z m h;
  stays = (d K.state K.keeps).stays;
  state = (d K.state K.keeps).state;
}

-- a function called for each name of a list by value
module _ (f : ResourceId → Machine → Run) (names : List (List ℕ)) where
  pub names_turn : (i : ℕ) (b : List ℕ) {w o w₁ o₁ w₂ o₂ : List ℕ} {p q s : Progress} → i < length names → b ≡ get_or names i [] → Does (for_each f (take i (map name_of names))) w o p q w₁ o₁
      → Does (f (name_of b)) w₁ o₁ q s w₂ o₂ → Does (for_each f (take (i + 1) (map name_of names))) w o p s w₂ o₂
  names_turn i b {w₁ = w₁} {o₁} {w₂} {o₂} {q = q} {s} h e D E =
      let n : name_of b ≡ get_or (map name_of names) i [] = ap name_of e ∙ sym (name_there names i h) in
      each_turn f (map name_of names) [] i (subst (λ (k : ℕ). i < k) (sym (length-map name_of names)) h) D (subst (λ (r : Text). Does (f r) w₁ o₁ q s w₂ o₂) n E)

  pub names_end : (i : ℕ) {w o w₁ o₁ : List ℕ} {p q : Progress} → length names ≤ i → Does (for_each f (take i (map name_of names))) w o p q w₁ o₁ → Does (for_each f (map name_of names)) w o p q w₁ o₁
  names_end i h D =
      let t : take i (map name_of names) ≡ map name_of names = take_all i (map name_of names) (subst (λ (k : ℕ). k ≤ i) (sym (length-map name_of names)) h) in
      runs.is (for_each f (map name_of names)) (λ m. ap (λ (x : List Text). for_each f x m) t) D

  -- the names are those of a list that was read off the state
  pub names_are : (l : List Text) {w o w' o' : List ℕ} {p q : Progress} → names ≡ map name_slot l → Does (for_each f (map name_of names)) w o p q w' o' → Does (for_each f l) w o p q w' o'
  names_are l e D = runs.is (for_each f l) (λ m. ap (λ (x : List Text). for_each f x m) (ap (map name_of) e ∙ names_back l)) D

  -- and the list was read before anything was done
  pub names_read : (g : SyncState → List Text) {w o w' o' : List ℕ} {p q : Progress} → HasState w → Reads (λ s. map name_slot (g s)) w names → Does (for_each f (map name_of names)) w o p q w' o' → Does (λ m. for_each f (g m.state) m) w o p q w' o'
  names_read g H R D = for_state (for_each f) g H (λ s h. names_are (g s) (R.is s h) D)
