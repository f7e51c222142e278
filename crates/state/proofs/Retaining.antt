-- The entries of a table, tested one after the other: those that pass stay. Assumes nothing.
use Prim.Native.Nat.{ℕ, suc, ◌+◌, ◌-◌, ◌≤◌, ◌<◌}
use native.Mathlib.Omega.{arith}
use mathlib.Core.Path.{◌≡◌, refl, sym, ap, ◌∙◌, subst}
use mathlib.Core.List.{List, [], ◌∷◌, ◌++◌, append_assoc}
use mathlib.Core.Bool.{Bool, true, false}
use mathlib.Core.Logic.{◌⊎◌, ⊎_elim}
use lib.ListN.{length, length-append}
use Rattle.model.specs.Seam.{ResourceId}
use Rattle.model.specs.State.{Map, SyncState}
use Rattle.model.specs.Maps.{when◌then◌else◌, filter}
use Rattle.model.proofs.Fitting.{filter_first}
use Rattle.state.specs.Contract.{Keeps, HasState, Reads, Edits}

module _ {A : Type 0} (of : SyncState → Map ResourceId A) (to : Map ResourceId A → SyncState → SyncState) (test : SyncState → ResourceId × A → Bool) where
  -- the entries so far, and those that are left
  pub record Retained (s : SyncState) (w : List ℕ) (i left : ℕ) : Type 0 where
    pub kept : Map ResourceId A
    pub rest : Map ResourceId A
    pub here : Keeps (to (kept ++ rest) s) w
    pub want : filter (test s) (of s) ≡ kept ++ filter (test s) rest
    pub at : length kept ≡ i
    pub todo : length rest ≡ left

  pub record Retaining (w₀ w : List ℕ) (i left : ℕ) : Type 0 where
    pub part : (s : SyncState) → Keeps s w₀ → Retained s w i left

  -- what a test of entry i does: r is where the next one stands
  abbrev pub Turn : SyncState → List ℕ → ℕ → ℕ → Map ResourceId A → ResourceId × A → Map ResourceId A → Type 0
  Turn s w i r kept e rest =
      ((test s e ≡ true) × (r ≡ i + 1) × Keeps (to (kept ++ (e ∷ rest)) s) w) ⊎ ((test s e ≡ false) × (r ≡ i) × Keeps (to (kept ++ rest) s) w)

  turn : (s : SyncState) (w w' : List ℕ) (i left r : ℕ) (kept rest : Map ResourceId A) → Keeps (to (kept ++ rest) s) w → filter (test s) (of s) ≡ kept ++ filter (test s) rest → length kept ≡ i → length rest ≡ left → 0 < left
      → ((kept rest : Map ResourceId A) (e : ResourceId × A) → Keeps (to (kept ++ (e ∷ rest)) s) w → length kept ≡ i → Turn s w' i r kept e rest)
      → Retained s w' r (left - 1)
  unfolding when◌then◌else◌
  turn s w w' i left r kept [] h q a b l t = absurd (let z : 0 ≡ left = b in omega arith)
  turn s w w' i left r kept (e ∷ rest) h q a b l t =
      let z : suc (length rest) ≡ left = b in
      ⊎_elim
      (λ u.
      let n : length (kept ++ (e ∷ [])) ≡ length kept + 1 = length-append kept (e ∷ []) in
      let o : r ≡ i + 1 = u.1 in
      record {
        kept = kept ++ (e ∷ []);
        rest = rest;
        here = subst (λ (m : Map ResourceId A). Keeps (to m s) w') (sym (append_assoc kept (e ∷ []) rest)) u.2;
        want = q ∙ ap (λ (m : Map ResourceId A). kept ++ m) (filter_first (test s) e rest true u.0) ∙ sym (append_assoc kept (e ∷ []) (filter (test s) rest));
        at = omega arith;
        todo = omega arith;
      })
      (λ u.
      record {
        kept = kept;
        rest = rest;
        here = u.2;
        want = q ∙ ap (λ (m : Map ResourceId A). kept ++ m) (filter_first (test s) e rest false u.0);
        at = a ∙ sym u.1;
        todo = omega arith;
      })
      (t kept rest e h a)

  ended : (s : SyncState) (w : List ℕ) (kept rest : Map ResourceId A) → Keeps (to (kept ++ rest) s) w → filter (test s) (of s) ≡ kept ++ filter (test s) rest → length rest ≡ 0 → Keeps (to (filter (test s) (of s)) s) w
  unfolding filter
  ended s w kept [] h q z = subst (λ (m : Map ResourceId A). Keeps (to m s) w) (sym q) h
  ended s w kept (e ∷ rest) h q z = absurd (let y : suc (length rest) ≡ 0 = z in omega arith)

module _ {A : Type 0} {of : SyncState → Map ResourceId A} {to : Map ResourceId A → SyncState → SyncState} {test : SyncState → ResourceId × A → Bool} where
  pub retain_start : (w : List ℕ) (n : ℕ) → ((s : SyncState) → Keeps s w → Keeps (to (of s) s) w) → Reads (λ s. length (of s)) w n → Retaining of to test w w 0 n
  retain_start w n k R = record { part = λ s h. record { kept = []; rest = of s; here = k s h; want = refl; at = refl; todo = sym (R.is s h) } }

  pub retain_has : (w₀ w : List ℕ) (i left : ℕ) → HasState w₀ → Retaining of to test w₀ w i left → HasState w
  retain_has w₀ w i left K R = let P = R.part K.state K.keeps in record { state = to (P.kept ++ P.rest) K.state; keeps = P.here }

  pub retain_below : (w₀ w : List ℕ) (i left n : ℕ) → ((s : SyncState) (m : Map ResourceId A) → of (to m s) ≡ m) → HasState w₀ → Retaining of to test w₀ w i left → 0 < left → Reads (λ s. length (of s)) w n → i < n
  retain_below w₀ w i left n g K R l C =
      let P = R.part K.state K.keeps in
      let c : n ≡ length (P.kept ++ P.rest) = C.is (to (P.kept ++ P.rest) K.state) P.here ∙ ap length (g K.state (P.kept ++ P.rest)) in
      let m : length (P.kept ++ P.rest) ≡ length P.kept + length P.rest = length-append P.kept P.rest in
      let a = P.at in
      let b = P.todo in
      omega arith

  pub retain_turn : (w₀ w w' : List ℕ) (i left r : ℕ) → Retaining of to test w₀ w i left → 0 < left
      → ((s : SyncState) (kept rest : Map ResourceId A) (e : ResourceId × A) → Keeps (to (kept ++ (e ∷ rest)) s) w → length kept ≡ i → Turn of to test s w' i r kept e rest)
      → Retaining of to test w₀ w' r (left - 1)
  retain_turn w₀ w w' i left r R l t = record {
    part = λ s h. let P = R.part s h in turn of to test s w w' i left r P.kept P.rest P.here P.want P.at P.todo l (t s);
  }

  pub retain_end : (w₀ w : List ℕ) (i left : ℕ) → left ≤ 0 → Retaining of to test w₀ w i left → Edits (λ s. to (filter (test s) (of s)) s) w₀ w
  retain_end w₀ w i left l R = record {
    makes = λ s h. let P = R.part s h in let b : length P.rest ≡ left = P.todo in ended of to test s w P.kept P.rest P.here P.want (omega arith);
  }
