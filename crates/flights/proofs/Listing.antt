-- The list of the names of the Refreshes: one entry more, and the whole. Assumes nothing.
use Rattle.std.specs.Prelude.{Option, Some, None}
use Prim.Native.Nat.{ℕ, suc, ◌+◌, ◌*◌, ◌≤◌, ◌<◌}
use native.Mathlib.Omega.{arith}
use mathlib.Core.Path.{◌≡◌, refl, sym, ap, ap₂, ◌∙◌, subst}
use mathlib.Core.List.{List, [], ◌∷◌, ◌++◌, append-nil}
use lib.ListN.{length, take, drop, get_or, length-append}
use lib.Seq.{take-suc, take_all}
use Rattle.names.specs.declared.Name.{Name}
use Rattle.model.specs.Event.{Text}
use Rattle.model.specs.Seam.{RequestId}
use Rattle.model.specs.State.{Map, Purpose, SyncState}
use Rattle.model.specs.Limits.{document01}
use Rattle.model.specs.Maps.{filter_map, map, values}
use Rattle.model.specs.Sync.{refreshed}
use Rattle.model.proofs.Fitting.{map-append}
use Rattle.state.specs.Layout.{name_slot}
use Rattle.state.specs.Contract.{state_length, Keeps, HasState, Reads}
use Rattle.state.specs.Values.{name_of, Named, NamedIn, purpose_in}
use Rattle.state.specs.declared.Purpose.{Purpose as Asked}
use Rattle.state.specs.declared.Purpose.TheVariants as asked
use Rattle.state.proofs.Columns as columns
use Rattle.state.proofs.Ops as ops
use Rattle.flights.specs.Asked.{purpose_from, lost_of, lost}
use Rattle.flights.proofs.Laws as laws
use Rattle.flights.proofs.Laws.{entry}

-- ---- lists

values_append : (a b : Map RequestId Purpose) → values (a ++ b) ≡ values a ++ values b
unfolding values
values_append a b = map-append (λ e. e.1) a b

refreshed_append : (a b : List Purpose) → filter_map refreshed (a ++ b) ≡ filter_map refreshed a ++ filter_map refreshed b
unfolding filter_map
refreshed_append [] b = refl
refreshed_append (p ∷ a) b = go (refreshed p) (refreshed_append a b)
  where
    go : (o : Option Text) → filter_map refreshed (a ++ b) ≡ filter_map refreshed a ++ filter_map refreshed b
        → elim o [ None ↦ filter_map refreshed (a ++ b) | Some y ↦ y ∷ filter_map refreshed (a ++ b) ] ≡ (elim o [ None ↦ filter_map refreshed a | Some y ↦ y ∷ filter_map refreshed a ]) ++ filter_map refreshed b
    go None h = h
    go (Some y) h = ap (λ (x : List Text). y ∷ x) h

one : (p : Purpose) (o : Option Text) → refreshed p ≡ o → filter_map refreshed (p ∷ []) ≡ elim o [ None ↦ [] | Some y ↦ y ∷ [] ]
unfolding filter_map
one p o e = ap (λ (x : Option Text). elim x [ None ↦ [] | Some y ↦ y ∷ [] ]) e

-- the names among one entry more
more : (i : ℕ) (s : SyncState) → i < length s.in_flight → lost_of (i + 1) s ≡ lost_of i s ++ filter_map refreshed ((entry i s).1 ∷ [])
unfolding values map
more i s l =
    let n : i + 1 ≡ suc i = omega arith in
    ap (λ (k : ℕ). filter_map refreshed (values (take k s.in_flight))) n
    ∙ ap (λ (x : Map RequestId Purpose). filter_map refreshed (values x)) (take-suc s.in_flight i (0, Purpose.List) l)
    ∙ ap (filter_map refreshed) (values_append (take i s.in_flight) (entry i s ∷ []))
    ∙ refreshed_append (values (take i s.in_flight)) ((entry i s).1 ∷ [])

-- ---- one entry more

-- the names so far: at most one for each entry
pub record Noted (i : ℕ) (w : List ℕ) (names : List (List ℕ)) : Type 0 where
  pub low : length names ≤ i
  pub is : Reads (λ s. map name_slot (lost_of i s)) w names

pub noted_start : (w : List ℕ) → Noted 0 w []
unfolding values map filter_map
noted_start w = record { low = omega arith; is = record { is = λ s h. refl } }

-- the purpose of entry i
here : (w : List ℕ) (i : ℕ) (a : Asked) (s : SyncState) → Keeps s w → i < get_or w 55643 0 → a ≡ purpose_from (get_or w (55643 + 1 + i * 43 + 9) 0) (take 33 (drop (55643 + 1 + i * 43 + 9 + 1) w))
    → (purpose_in a ≡ (entry i s).1) × NamedIn a × (i < length s.in_flight)
here w i a s h l d =
    let u = laws.nth w i s h l in
    let n = laws.asked w (55643 + 1 + i * 43) a (entry i s) u.1 u.0 d in
    (n.0, n.1, u.2)

module _ (w : List ℕ) (i : ℕ) (names : List (List ℕ)) (a : Asked) (l : i < get_or w 55643 0) (N : Noted i w names)
    (d : a ≡ purpose_from (get_or w (55643 + 1 + i * 43 + 9) 0) (take 33 (drop (55643 + 1 + i * 43 + 9 + 1) w))) where
  pub noted_one : (b : Name) → a ≡ asked.Refresh b → Noted (i + 1) w (names ++ (b.bytes ∷ []))
  unfolding map refreshed
  noted_one b e = record {
    low = omega (arith, N.low, length-append names (b.bytes ∷ []));
    is = record {
      is = λ s h.
          let u = here w i a s h l d in
          let N' : Named b.bytes = subst NamedIn e u.1 in
          let p : Purpose.Refresh (name_of b.bytes) ≡ (entry i s).1 = sym (ap purpose_in e) ∙ u.0 in
          let m : lost_of (i + 1) s ≡ lost_of i s ++ (name_of b.bytes ∷ []) =
          more i s u.2 ∙ ap (λ (x : List Text). lost_of i s ++ x) (one (entry i s).1 (Some (name_of b.bytes)) (ap refreshed (sym p))) in
          ap₂ (λ (x y : List (List ℕ)). x ++ y) (N.is.is s h) (ap (λ (x : List ℕ). x ∷ []) N'.is) ∙ sym (map-append name_slot (lost_of i s) (name_of b.bytes ∷ [])) ∙ ap (map name_slot) (sym m);
    };
  }

  pub noted_none : ((b : Name) → a ≡ asked.Refresh b → ⊥) → Noted (i + 1) w names
  unfolding refreshed
  noted_none f = record {
    low = omega (arith, N.low);
    is = record {
      is = λ s h.
          let u = here w i a s h l d in
          let m : lost_of (i + 1) s ≡ lost_of i s =
          more i s u.2 ∙ ap (λ (x : List Text). lost_of i s ++ x) (one (entry i s).1 None (ap refreshed (sym u.0) ∙ no_refresh a f)) ∙ append-nil (lost_of i s) in
          N.is.is s h ∙ ap (map name_slot) (sym m);
    };
  }
    where
      no_refresh : (a : Asked) → ((b : Name) → a ≡ asked.Refresh b → ⊥) → refreshed (purpose_in a) ≡ None
      no_refresh asked.List f = refl
      no_refresh (asked.PassRead b) f = refl
      no_refresh (asked.EditRead b) f = refl
      no_refresh (asked.EditWrite b) f = refl
      no_refresh (asked.Refresh b) f = absurd (f b refl)

  -- what a turn leaves, by what the entry is for
  pub noted_turn : (after : List (List ℕ)) → ((b : Name) → a ≡ asked.Refresh b → after ≡ names ++ (b.bytes ∷ [])) → (((b : Name) → a ≡ asked.Refresh b → ⊥) → after ≡ names) → Noted (i + 1) w after
  noted_turn after added kept = go a refl
    where
      other : ((b : Name) → a ≡ asked.Refresh b → ⊥) → Noted (i + 1) w after
      other f = rw (kept f) (noted_none f)

      go : (x : Asked) → a ≡ x → Noted (i + 1) w after
      go asked.List e = other (λ b f. cc)
      go (asked.PassRead _) e = other (λ b f. cc)
      go (asked.EditRead _) e = other (λ b f. cc)
      go (asked.EditWrite _) e = other (λ b f. cc)
      go (asked.Refresh b) e = rw (added b e) (noted_one b e)

pub count : (w : List ℕ) (n : ℕ) → HasState w → Reads (λ s. length s.in_flight) w n → (n ≡ get_or w 55643 0) × (n ≤ 24) × (length w ≡ state_length)
unfolding document01
count w n K R =
    let c = columns.counted ops.flight_column K.state w K.keeps in
    let k = K.keeps.fits.in_flight.small in
    let m : n ≡ length K.state.in_flight = R.is K.state K.keeps in
    (omega arith, omega arith, K.keeps.long)

pub noted_end : (w : List ℕ) (n i : ℕ) (names : List (List ℕ)) → Reads (λ s. length s.in_flight) w n → n ≤ i → Noted i w names → Reads (λ s. map name_slot (lost s)) w names
noted_end w n i names R l N = record {
  is = λ s h.
      let m : n ≡ length s.in_flight = R.is s h in
      let t : take i s.in_flight ≡ s.in_flight = take_all i s.in_flight (omega arith) in
      N.is.is s h ∙ ap (λ (x : Map RequestId Purpose). map name_slot (filter_map refreshed (values x))) t;
}
