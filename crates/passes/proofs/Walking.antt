-- A loop over a table of the state, whose body leaves that table alone. Assumes nothing.
use Prim.Native.Nat.{ℕ, suc, ◌+◌, ◌≤◌, ◌<◌}
use native.Mathlib.Omega.{arith}
use mathlib.Core.Path.{◌≡◌, sym, ap, ◌∙◌}
use mathlib.Core.List.{List}
use lib.ListN.{length, drop, get_or, drop_of_length-le}
use lib.Seq.{drop-cons}
use Rattle.model.specs.State.{SyncState}
use Rattle.model.specs.Machine.{Machine, Run, ok, ◌>>=◌, for_each}
use Rattle.state.specs.Contract.{HasState, Reads}
use Rattle.machine.specs.declared.Progress.{Progress}
use Rattle.machine.specs.Contract.{Changes}
use Rattle.machine.proofs.Runs as runs
use Rattle.observe.proofs.Each.{bind_assoc, bind_same}
use Rattle.observe.proofs.Observing as observing
use Rattle.passes.proofs.Changing as changing

-- what a run gives, marked: the same where nothing is changed by it
pub marked : (r : Run) (mark : Machine → Machine) (g : Machine → Run) → r ≡ (r >>= (λ n. ok (mark n))) → (r >>= g) ≡ (r >>= (λ n. g (mark n)))
unfolding ◌>>=◌
marked r mark g e = ap (λ (x : Run). x >>= g) e ∙ bind_assoc r (λ n. ok (mark n)) g

module _ {A : Type 0} (l : SyncState → List A) (d : A) (body : A → Machine → Run) where
  -- the body, done to x, leaves the table as it is
  pub record Leaves (x : A) (m : Machine) : Type 0 where
    pub mark : Machine → Machine
    pub same : body x m ≡ (body x m >>= (λ n. ok (mark n)))
    pub list : (n : Machine) → l (mark n).state ≡ l m.state

  -- what is left from entry i on
  abbrev pub rest : ℕ → Machine → Run
  rest i m = for_each body (drop i (l m.state)) m

  turn_is : (i : ℕ) (m : Machine) → i < length (l m.state) → Leaves (get_or (l m.state) i d) m → (body (get_or (l m.state) i d) m >>= rest (i + 1)) ≡ rest i m
  unfolding for_each
  turn_is i m h L =
      let x : A = get_or (l m.state) i d in
      let r : List A = drop (suc i) (l m.state) in
      let k : i + 1 ≡ suc i = omega arith in
      marked (body x m) L.mark (rest (i + 1)) L.same
      ∙ bind_same (body x m) (λ n. rest (i + 1) (L.mark n)) (λ n. for_each body r (L.mark n)) (λ n. ap (λ (j : ℕ). rest j (L.mark n)) k ∙ ap (λ (xs : List A). for_each body (drop (suc i) xs) (L.mark n)) (L.list n))
      ∙ sym (marked (body x m) L.mark (for_each body r) L.same)
      ∙ ap (λ (xs : List A). for_each body xs m) (sym (drop-cons (l m.state) i d h))

  -- once what is left is done, all is
  pub record Walking (w₀ : List ℕ) (p₀ : Progress) (w : List ℕ) (p : Progress) (i : ℕ) : Type 0 where
    pub all : (q : Progress) (w' : List ℕ) → Changes (rest i) w p q w' → Changes (rest 0) w₀ p₀ q w'
    pub state : HasState w

  pub walk_start : (w : List ℕ) (p : Progress) → HasState w → Walking w p w p 0
  walk_start w p K = record { all = λ q w' C. C; state = K }

  pub walk_turn : {w₀ w w' : List ℕ} {p₀ p q : Progress} {i count : ℕ} → Walking w₀ p₀ w p i → Reads (λ s. length (l s)) w count → i < count
      → ((m : Machine) → i < length (l m.state) → Leaves (get_or (l m.state) i d) m) → Changes (λ m. body (get_or (l m.state) i d) m) w p q w' → Walking w₀ p₀ w' q (i + 1)
  walk_turn {i = i} W R h leaves C = record {
    all = λ r w'' D. W.all r w'' (record {
      does = λ o. runs.is_held (rest i) (λ m H. let e = R.is m.state H.keeps in turn_is i m (omega arith) (leaves m (omega arith))) ((changing.and_then C D).does o);
    });
    state = observing.still C W.state;
  }

  pub walk_end : {w₀ w : List ℕ} {p₀ p : Progress} {i count : ℕ} → Walking w₀ p₀ w p i → Reads (λ s. length (l s)) w count → count ≤ i → Changes (λ m. for_each body (l m.state) m) w₀ p₀ p w
  unfolding for_each
  walk_end {w = w} {p = p} {i = i} W R h = W.all p w (record {
    does = λ o. runs.is_held (rest i) (λ m H. let e = R.is m.state H.keeps in sym (ap (λ (xs : List A). for_each body xs m) (drop_of_length-le (l m.state) {i = i} (omega arith)))) runs.nothing;
  })
