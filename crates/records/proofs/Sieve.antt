-- The records that a full pass has seen: one record tested, and all. Assumes nothing.
use Prim.Native.Nat.{ℕ, ◌+◌, ◌-◌, ◌<◌}
use native.Mathlib.Omega.{arith}
use mathlib.Core.Path.{◌≡◌, refl, sym, ap, ap₂, ◌∙◌, subst}
use mathlib.Core.List.{List, [], ◌∷◌, ◌++◌}
use mathlib.Core.Bool.{Bool, true, false}
use mathlib.Core.Logic.{inl, inr}
use lib.ListN.{length, get_or}
use lib.Dec.{T}
use Rattle.model.specs.Event.{Text, ProviderEvent}
use Rattle.model.specs.Seam.{ResourceId}
use Rattle.model.specs.State.{Map, SyncState}
use Rattle.model.specs.Maps.{by_name, remove, map, keys, has}
use Rattle.model.specs.WellFormed.{rising}
use Rattle.model.proofs.Tables as orders
use Rattle.state.specs.Layout.{name_slot, pass_of}
use Rattle.state.specs.Setters.{with_records}
use Rattle.state.specs.Contract.{Keeps, HasState, Reads, Edits}
use Rattle.state.specs.Values.{name_of}
use Rattle.state.proofs.Padded.{text_name_only}
use Rattle.state.proofs.Columns as columns
use Rattle.state.proofs.Retaining as retaining
use Rattle.records.specs.Events.{record_name}
use Rattle.records.specs.Retaining.{seen_in, Tested}
use Rattle.records.proofs.Laws.{record_column}
use Rattle.tables.specs.Table.{text}

abbrev Rows : Type 0
Rows = Map ResourceId ProviderEvent

abbrev Entry : Type 0
Entry = ResourceId × ProviderEvent

-- ---- record i tested

key_between : (kept : Rows) (e : Entry) (rest : Rows) → get_or (keys (kept ++ (e ∷ rest))) (length kept) [] ≡ e.0
unfolding keys map
key_between [] e rest = refl
key_between (x ∷ kept) e rest = key_between kept e rest

name_here : (b w : List ℕ) (i : ℕ) (s : SyncState) → Keeps s w → Reads (λ s. name_slot (record_name i s)) w b → (kept rest : Rows) (e : Entry) → s.records ≡ kept ++ (e ∷ rest) → length kept ≡ i → name_of b ≡ e.0
name_here b w i s h R kept rest e q l =
    ap text (R.is s h) ∙ text_name_only (record_name i s) ∙ ap₂ (λ (m : Rows) (j : ℕ). get_or (keys m) j []) q (sym l) ∙ key_between kept e rest

pub kept_one : (b w : List ℕ) (i : ℕ) (a : Bool) → Reads (λ s. name_slot (record_name i s)) w b → Reads (λ s. has (name_of b) (pass_of s.pass).seen) w a → a ≡ true → Tested i w (i + 1) w
kept_one b w i a R A z = record {
  is = λ s h kept rest e q l.
      inl (ap (λ (n : Text). has n (pass_of s.pass).seen) (sym (name_here b w i s h R kept rest e q l)) ∙ sym (A.is s h) ∙ z, refl, h);
}

pub out_one : (b w w' : List ℕ) (i : ℕ) (a : Bool) → Reads (λ s. name_slot (record_name i s)) w b → Reads (λ s. has (name_of b) (pass_of s.pass).seen) w a → a ≡ false
    → Edits (λ s. with_records (remove by_name (name_of b) s.records) s) w w' → Tested i w i w'
out_one b w w' i a R A z E = record {
  is = λ s h kept rest e q l.
      let n : name_of b ≡ e.0 = name_here b w i s h R kept rest e q l in
      let t : T (rising by_name (keys (kept ++ (e ∷ rest)))) = subst (λ (m : Rows). T (rising by_name (keys m))) q h.fits.records.rises in
      let c : remove by_name (name_of b) s.records ≡ kept ++ rest = ap₂ (remove by_name) n q ∙ orders.remove_between by_name orders.name_order kept e rest t in
      inr (ap (λ (n : Text). has n (pass_of s.pass).seen) (sym n) ∙ sym (A.is s h) ∙ z, refl, subst (λ (m : Rows). Keeps (with_records m s) w') c (E.makes s h));
}

-- ---- all of them

abbrev pub Retaining : List ℕ → List ℕ → ℕ → ℕ → Type 0
Retaining = retaining.Retaining (λ s. s.records) with_records seen_in

count : (w : List ℕ) → Reads (λ s. length s.records) w (get_or w 0 0)
count w = record { is = λ s h. columns.counted record_column s w h }

-- after k turns of n
pub retain_start : (w : List ℕ) (n : ℕ) → Reads (λ s. length s.records) w n → Retaining w w 0 (n - 0)
retain_start w n R =
    let z : n ≡ n - 0 = omega arith in
    subst (λ (x : ℕ). Retaining w w 0 x) z (retaining.retain_start w n (λ s h. h) R)

pub retain_below : (w₀ w : List ℕ) (i n k : ℕ) → HasState w₀ → Retaining w₀ w i (n - k) → k < n → i < get_or w 0 0
retain_below w₀ w i n k K R l = retaining.retain_below w₀ w i (n - k) (get_or w 0 0) (λ s m. refl) K R (omega arith) (count w)

pub retain_turn : (w₀ w w' : List ℕ) (i n k r : ℕ) → Retaining w₀ w i (n - k) → k < n → Tested i w r w' → Retaining w₀ w' r (n - (k + 1))
retain_turn w₀ w w' i n k r R l T =
    let z : n - k - 1 ≡ n - (k + 1) = omega arith in
    subst (λ (x : ℕ). Retaining w₀ w' r x) z
    (retaining.retain_turn w₀ w w' i (n - k) r R (omega arith) (λ s kept rest e h a. T.is (with_records (kept ++ (e ∷ rest)) s) h kept rest e refl a))
