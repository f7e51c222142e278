-- The walk over a table's slots. Assumes nothing.
use Rattle.std.proofs.Common.{ℕ, ◌≡◌, ◌+◌, ◌*◌, ◌-◌, ◌≤◌, ◌<◌, List, [], ◌∷◌, ◌++◌, length, take, drop, refl, sym, ◌∙◌, ap, ap₂, subst, inl, inr, arith, length-append, length-drop, get_or, take-append-drop, map, Bool, true, false, Option, Some, None}
use Rattle.std.specs.Iterator.{AlwaysYields, Yields, ChecksAll, CallableAtEachTurn}
use Rattle.std.specs.Iterator.Order.{OrderTurn, CallableOnNeighbours, ChecksNeighbours}
use Rattle.std.specs.Fn.{CalledAtTwo, TakesAtTwo}
use Rattle.spans.specs.Bytes.{both}
use Rattle.std.specs.Slice.Iter.{chunks_exact_steps, chunks_exact_size, chunks_exact_rest}
use Rattle.std.specs.List.{list_all, FoldsTo}
use Rattle.std.specs.Option.{MatchOption}
use Rattle.std.specs.declared.slice.ChunksExact.{ChunksExact}
use Rattle.std.proofs.Math.Seq.{take_at, drop_at}
use Rattle.std.proofs.lemmas.Iterator.{YieldsList}
use Rattle.std.proofs.lemmas.Iterator.Consumers.{YieldsList-so_far, YieldsList-end}
use Rattle.std.proofs.iter.runs.Made.{took}
use Rattle.std.proofs.iter.runs.Sources.{lists}
use denote.Param.Members.{Mut, Called}
use denote.Ref.{Bor}
use mathlib.Core.Bool.{◌&&◌}
use Rattle.tables.specs.Table.{Table, Sized, flat, slots_of, Holds}
use Rattle.tables.proofs.Laws as tables
use Rattle.strides.specs.Walk.{Gives, Runs, neighbours_from, neighbours}

walked : (stride : ℕ) (t : Table) → 0 < stride → Sized stride t → (s : ChunksExact ℕ) → chunks_exact_size s ≡ stride → chunks_exact_rest s ≡ flat t → AlwaysYields chunks_exact_steps (λ slot. slot.now) s t
walked stride [] p z s n r = λ x j h. omega (arith, ap length (sym r ∙ h.1.0), length-append x.now (chunks_exact_rest j))
walked stride (u ∷ t) p z s n r = (
  (λ j h. omega (arith, ap length r, length-append u (flat t))),
  (λ x j h.
      let e : x.now ++ chunks_exact_rest j ≡ u ++ flat t = sym h.1.0 ∙ r in
      let k : length x.now ≡ stride = omega arith in (
        sym (take_at x.now (chunks_exact_rest j) stride k) ∙ ap (take stride) e ∙ take_at u (flat t) stride z.0,
        walked stride t p z.1 j (omega arith) (sym (drop_at x.now (chunks_exact_rest j) stride k) ∙ ap (drop stride) e ∙ drop_at u (flat t) stride z.0),
      )),
)

pub gives : (stride n : ℕ) (r : List ℕ) (s : ChunksExact ℕ) → Holds stride r → n ≡ get_or r 0 0 → chunks_exact_size s ≡ stride → chunks_exact_rest s ≡ take (1 + n * stride - 1) (drop 1 r) → Gives s (slots_of stride r)
unfolding slots_of
gives stride n r s h c w e =
    let k : ℕ = get_or r 0 0 in
    let m : n * stride ≡ k * stride = ap (λ (x : ℕ). x * stride) c in
    let p : 1 + n * stride - 1 ≡ k * stride = omega arith in
    let l : k * stride ≤ length (drop 1 r) = omega (arith, length-drop 1 r) in
    record { always = walked stride (slots_of stride r) h.0 (tables.sized_chunks stride k (drop 1 r) l) s w (e ∙ ap (λ (x : ℕ). take x (drop 1 r)) p ∙ sym (tables.flat_chunks stride k (drop 1 r) l)) }

listed : {s : ChunksExact ℕ} {t : Table} → Gives s t → YieldsList chunks_exact_steps (λ slot. slot.now) s t
listed g = record { runs = g.always }

pub runs : (s : ChunksExact ℕ) (t : Table) → Gives s t → Runs s t
runs s t g p _ e =
    let y : Yields chunks_exact_steps s p.items (took p).0 = subst (λ (f : ChunksExact ℕ). Yields chunks_exact_steps f p.items (took p).0) e (took p).1 in
    let m : map (λ (x : Bor (List ℕ)). x.now) p.items ≡ take (length p.items) t = YieldsList-so_far (listed g) p.items (took p).0 y in
    lists p (λ slot. slot.now) t (drop (length p.items) t)
    (λ w. omega (arith, length-drop (length p.items) t, (YieldsList-end (listed g) p.items (took p).0 y _ _ refl ((took p).2 w).1).1))
    (sym (ap (λ (l : Table). l ++ drop (length p.items) t) m ∙ take-append-drop (length p.items) t))

-- each slot has the walk's stride
size_kept : (xs : List (Bor (List ℕ))) (s t : ChunksExact ℕ) → Yields chunks_exact_steps s xs t → chunks_exact_size t ≡ chunks_exact_size s
size_kept [] s t y = ap chunks_exact_size (sym y)
size_kept (x ∷ xs) s t y = size_kept xs y.0 t y.2 ∙ y.1.0

-- what may be asked of slots of that stride may be asked at each turn
pub callable : {P : Type 0} (R : P → Bor (List ℕ) → P → Type 0) (Q : P → Bor (List ℕ) → Type 0) (s : ChunksExact ℕ) (p : P) (n : ℕ) → chunks_exact_size s ≡ n
    → ((q : P) (x : Bor (List ℕ)) → length x.now ≡ n → Q q x) → CallableAtEachTurn chunks_exact_steps R Q s p
callable R Q s p n e h = record { at = λ xs t q x u y f z. h q x (z.1.1 ∙ size_kept xs s t y ∙ e) }

-- `all` with a closure that computes the test p of each slot
module _ {F : Type 0} {g : Mut F (Bor (List ℕ) × Unit {0}) Bool} {f : F} (p : List ℕ → Bool) (n : ℕ)
    (computes : (x : Bor (List ℕ)) → length x.now ≡ n → (b : Bool) (q : F) → Called g f (x, tt) b q → (q ≡ f) × (b ≡ p x.now)) where
  stopped : (t : Table) (s u : ChunksExact ℕ) (r : Bool) (o : Option (Bor (List ℕ))) → chunks_exact_size s ≡ n → AlwaysYields chunks_exact_steps (λ slot. slot.now) s t → chunks_exact_steps s o u
      → MatchOption o (r ≡ true) (λ x. (r ≡ false) × ((h : F) × Called g f (x, tt) false h)) → r ≡ list_all p t
  stopped [] s u r None e a z m = m
  stopped [] s u r (Some x) e a z m = absurd (a x u z)
  stopped (v ∷ t) s u r None e a z m = absurd (a.0 u z)
  stopped (v ∷ t) s u r (Some x) e a z m =
      let c = (computes x (z.1.1 ∙ e) false m.1.0 m.1.1).1 in
      m.0 ∙ ap (λ (b : Bool). b && list_all p t) (c ∙ ap p (a.1 x u z).0)

  went : (xs : List (Bor (List ℕ))) (t : Table) (s w u : ChunksExact ℕ) (r : Bool) (o : Option (Bor (List ℕ))) (f' : F) → chunks_exact_size s ≡ n → AlwaysYields chunks_exact_steps (λ slot. slot.now) s t
      → Yields chunks_exact_steps s xs w → chunks_exact_steps w o u → FoldsTo (λ q x q'. Called g q (x, tt) true q') f xs f' → MatchOption o (r ≡ true) (λ x. (r ≡ false) × ((h : F) × Called g f' (x, tt) false h)) → r ≡ list_all p t
  went [] t s w u r o f' e a y z d m =
      stopped t s u r o e a (subst (λ (k : ChunksExact ℕ). chunks_exact_steps k o u) (sym y) z)
      (subst (λ (k : F). MatchOption o (r ≡ true) (λ x. (r ≡ false) × ((h : F) × Called g k (x, tt) false h))) (sym d) m)
  went (x ∷ xs) [] s w u r o f' e a y z d m = absurd (a x y.0 y.1)
  went (x ∷ xs) (v ∷ t) s w u r o f' e a y z d m =
      let b = a.1 x y.0 y.1 in
      let c = computes x (y.1.1.1 ∙ e) true d.0 d.1 in
      went xs t y.0 w u r o f' (y.1.0 ∙ e) b.1 y.2 z (subst (λ (k : F). FoldsTo (λ q x q'. Called g q (x, tt) true q') k xs f') c.0 d.2) m
      ∙ ap (λ (k : Bool). k && list_all p t) (c.1 ∙ ap p b.0)

  pub all_is : {s u : ChunksExact ℕ} {t : Table} {r : Bool} → chunks_exact_size s ≡ n → Gives s t → ChecksAll chunks_exact_steps g s f r u → r ≡ list_all p t
  all_is {s} {u} {t} {r} e a c = went c.0 t s c.3.0 u r c.1 c.2 e a.always c.3.1 c.3.2 c.4 c.5

-- `is_sorted_by` with a closure that computes the test h of two slots
module _ {F : Type 0} (g : Mut F (Bor (Bor (List ℕ)) × (Bor (Bor (List ℕ)) × Unit {0})) Bool) (n : ℕ) where
  last_long : (xs : List (Bor (List ℕ))) (s t : ChunksExact ℕ) (p q : F × Bor (List ℕ)) → chunks_exact_size s ≡ n → length p.1.now ≡ n → Yields chunks_exact_steps s xs t → FoldsTo {P = F × Bor (List ℕ)} (OrderTurn g) p xs q → length q.1.now ≡ n
  last_long [] s t p q e l y d = ap (λ (k : F × Bor (List ℕ)). length k.1.now) (sym d) ∙ l
  last_long (x ∷ xs) s t p q e l y d = last_long xs y.0 t d.0 q (y.1.0 ∙ e) (ap (λ (k : Bor (List ℕ)). length k.now) d.1.1 ∙ y.1.1.1 ∙ e) y.2 d.2

  pub callable_on_two : (s : ChunksExact ℕ) (f : F) → chunks_exact_size s ≡ n → ((p : F) (x y : Bor (List ℕ)) → length x.now ≡ n → length y.now ≡ n → TakesAtTwo g p x y) → CallableOnNeighbours g chunks_exact_steps s f
  callable_on_two s f e h = λ x t z. record {
    at = λ xs w q y u r d k. h q.0 q.1 y (last_long xs t w (f, x) q (z.0 ∙ e) (z.1.1 ∙ e) r d) (k.1.1 ∙ size_kept xs t w r ∙ z.0 ∙ e);
  }

  module _ (f : F) (h : List ℕ → List ℕ → Bool) (computes : (x y : Bor (List ℕ)) → length x.now ≡ n → length y.now ≡ n → (b : Bool) (q : F) → CalledAtTwo g f x y b q → (q ≡ f) × (b ≡ h x.now y.now)) where
    from_one : (xs : List (Bor (List ℕ))) (t : Table) (s w u : ChunksExact ℕ) (v : Bor (List ℕ)) (q : F × Bor (List ℕ)) (r : Bool) (o : Option (Bor (List ℕ))) → chunks_exact_size s ≡ n → length v.now ≡ n
        → AlwaysYields chunks_exact_steps (λ slot. slot.now) s t → Yields chunks_exact_steps s xs w → chunks_exact_steps w o u → FoldsTo {P = F × Bor (List ℕ)} (OrderTurn g) (f, v) xs q
        → MatchOption o (r ≡ true) (λ y. (r ≡ false) × ((k : F) × CalledAtTwo g q.0 q.1 y false k)) → r ≡ neighbours_from h v.now t
    unfolding neighbours_from
    from_one [] [] s w u v q r None e l a y z d m = m
    from_one [] [] s w u v q r (Some x) e l a y z d m = absurd (a x u (subst (λ (k : ChunksExact ℕ). chunks_exact_steps k (Some x) u) (sym y) z))
    from_one [] (p ∷ t) s w u v q r None e l a y z d m = absurd (a.0 u (subst (λ (k : ChunksExact ℕ). chunks_exact_steps k None u) (sym y) z))
    from_one [] (p ∷ t) s w u v q r (Some x) e l a y z d m =
        let z2 = subst (λ (k : ChunksExact ℕ). chunks_exact_steps k (Some x) u) (sym y) z in
        let k = subst (λ (k : F × Bor (List ℕ)). CalledAtTwo g k.0 k.1 x false m.1.0) (sym d) m.1.1 in
        let c = (computes v x l (z2.1.1 ∙ e) false m.1.0 k).1 in
        m.0 ∙ ap (λ (b : Bool). both b (neighbours_from h p t)) (c ∙ ap (h v.now) (a.1 x u z2).0)
    from_one (x ∷ xs) [] s w u v q r o e l a y z d m = absurd (a x y.0 y.1)
    from_one (x ∷ xs) (p ∷ t) s w u v q r o e l a y z d m =
        let b = a.1 x y.0 y.1 in
        let k : length x.now ≡ n = y.1.1.1 ∙ e in
        let c = computes v x l k true d.0.0 d.1.0 in
        from_one xs t y.0 w u x q r o (y.1.0 ∙ e) k b.1 y.2 z (subst (λ (j : F × Bor (List ℕ)). FoldsTo {P = F × Bor (List ℕ)} (OrderTurn g) j xs q) (ap₂ (λ (i : F) (j : Bor (List ℕ)). (i, j)) c.0 d.1.1) d.2) m
        ∙ ap (λ (j : List ℕ). neighbours_from h j t) b.0 ∙ ap (λ (j : Bool). both j (neighbours_from h p t)) (c.1 ∙ ap (h v.now) b.0)

    pub sorted_is : {s : ChunksExact ℕ} {t : Table} {r : Bool} → chunks_exact_size s ≡ n → Gives s t → ChecksNeighbours g chunks_exact_steps s f r → r ≡ neighbours h t
    unfolding neighbours
    sorted_is {t = []} e a (inl c) = c.1
    sorted_is {t = p ∷ t} e a (inl c) = let d = c.0 in absurd (a.always.0 d.0 (subst (λ k. chunks_exact_steps k None d.0) (sym d.1.1) d.1.2))
    sorted_is {t = []} e a (inr c) = absurd (a.always c.0 c.5.1.0 c.5.1.1)
    sorted_is {t = p ∷ t} e a (inr c) =
        let y = c.5.1 in
        let b = a.always.1 c.0 y.0 y.1 in
        from_one c.1 t y.0 c.5.0 c.3 c.0 c.4 _ c.2 (y.1.0 ∙ e) (y.1.1.1 ∙ e) b.1 y.2 c.5.2 c.6 c.7 ∙ ap (λ (j : List ℕ). neighbours_from h j t) b.0
