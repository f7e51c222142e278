-- An entry is found under a key where its address, folded, stands the key's number of times before it. Assumes nothing.
use Rattle.std.specs.Prelude.{Some, None}
use Rattle.format.proofs.Options.{None-ne-Some}
use Prim.Native.Nat.{ℕ, ◌+◌, ◌-◌, ◌≤◌}
use native.Mathlib.Omega.{arith}
use mathlib.Core.Path.{◌≡◌, refl, sym, ap, ◌∙◌}
use mathlib.Core.List.{List, [], ◌∷◌, ◌++◌}
use mathlib.Core.Bool.{Bool, true, false, cond, ◌&&◌}
use lib.Dec.{eqb}
use lib.ListN.{length}
use borrow.Author.Tests.{eq-eqb, ne_eqb, eqb-true, eqb-false}
use Rattle.model.specs.Event.{Text, Attendee}
use Rattle.model.specs.Maps.{when◌then◌else◌, same_text, filter}
use Rattle.model.specs.Merge.{to_ascii_lowercase, Key, same_key, Keyed, key_of, keyed_after, keyed, find}
use Rattle.model.proofs.Tables.{same_true}
use Rattle.attendees.specs.Entries.{one_if}
use Rattle.merge.proofs.EntryParts.{nth_in}

-- how many entries have a folded address
abbrev pub tally : Keyed → Text → ℕ
tally out w = length (filter (λ e. same_text e.0.address w) out)

pub tally_snoc : (w : Text) (out : Keyed) (e : Key × Attendee) → tally (out ++ e ∷ []) w ≡ tally out w + one_if (same_text e.0.address w)
unfolding filter when◌then◌else◌
tally_snoc w [] e = go (same_text e.0.address w)
  where
    go : (c : Bool) → length (when c then e ∷ [] else []) ≡ 0 + one_if c
    go true = refl
    go false = refl
tally_snoc w (x ∷ out) e = go (same_text x.0.address w) (tally_snoc w out e)
  where
    go : (c : Bool) → tally (out ++ e ∷ []) w ≡ tally out w + one_if (same_text e.0.address w)
        → length (when c then x ∷ filter (λ e. same_text e.0.address w) (out ++ e ∷ []) else filter (λ e. same_text e.0.address w) (out ++ e ∷ []))
        ≡ length (when c then x ∷ filter (λ e. same_text e.0.address w) out else filter (λ e. same_text e.0.address w) out) + one_if (same_text e.0.address w)
    go true ih = omega (arith, ih)
    go false ih = ih

module _ (k : Key) where
  find_snoc : (out : Keyed) (e : Key × Attendee) → find out k ≡ None → find (out ++ e ∷ []) k ≡ (when same_key e.0 k then Some e.1 else None)
  unfolding find when◌then◌else◌
  find_snoc [] e h = refl
  find_snoc (x ∷ out) e h = go (same_key x.0 k) h (find_snoc out e)
    where
      go : (c : Bool) → (when c then Some x.1 else find out k) ≡ None → (find out k ≡ None → find (out ++ e ∷ []) k ≡ (when same_key e.0 k then Some e.1 else None))
          → (when c then Some x.1 else find (out ++ e ∷ []) k) ≡ (when same_key e.0 k then Some e.1 else None)
      go true h ih = absurd (None-ne-Some x.1 (sym h))
      go false h ih = ih h

  find_kept : (out : Keyed) (e : Key × Attendee) (a : Attendee) → find out k ≡ Some a → find (out ++ e ∷ []) k ≡ Some a
  unfolding find when◌then◌else◌
  find_kept [] e a h = absurd (None-ne-Some a h)
  find_kept (x ∷ out) e a h = go (same_key x.0 k) h (find_kept out e a)
    where
      go : (c : Bool) → (when c then Some x.1 else find out k) ≡ Some a → (find out k ≡ Some a → find (out ++ e ∷ []) k ≡ Some a) → (when c then Some x.1 else find (out ++ e ∷ []) k) ≡ Some a
      go true h ih = h
      go false h ih = ih h

  find_keeps : (l : List Attendee) (out : Keyed) (a : Attendee) → find out k ≡ Some a → find (keyed_after out l) k ≡ Some a
  unfolding keyed_after
  find_keeps [] out a h = h
  find_keeps (b ∷ l) out a h = find_keeps l (out ++ (key_of out b, b) ∷ []) a (find_kept out (key_of out b, b) a h)

  tally_own : (out : Keyed) (e : Key × Attendee) → tally (out ++ e ∷ []) k.address ≡ tally out k.address + one_if (same_text e.0.address k.address)
  tally_own out e = tally_snoc k.address out e

  find_after : (l : List Attendee) (out : Keyed) → find out k ≡ None → tally out k.address ≤ k.occurrence
      → find (keyed_after out l) k ≡ nth_in k.address (k.occurrence - tally out k.address) l
  unfolding keyed_after key_of same_key when◌then◌else◌
  find_after [] out h t = h
  find_after (a ∷ l) out h t =
      go (same_text (to_ascii_lowercase a.address) k.address) (eqb (k.occurrence - tally out k.address) 0) refl refl
      (find_after l (out ++ (key_of out a, a) ∷ []))
      (find_snoc out (key_of out a, a) h) (tally_own out (key_of out a, a))
    where
      n : ℕ
      n = k.occurrence - tally out k.address

      go : (c d : Bool) → same_text (to_ascii_lowercase a.address) k.address ≡ c → eqb (k.occurrence - tally out k.address) 0 ≡ d
          → (find (out ++ (key_of out a, a) ∷ []) k ≡ None → tally (out ++ (key_of out a, a) ∷ []) k.address ≤ k.occurrence
          → find (keyed_after (out ++ (key_of out a, a) ∷ []) l) k ≡ nth_in k.address (k.occurrence - tally (out ++ (key_of out a, a) ∷ []) k.address) l)
          → find (out ++ (key_of out a, a) ∷ []) k ≡ (when same_key (key_of out a) k then Some a else None)
          → tally (out ++ (key_of out a, a) ∷ []) k.address ≡ tally out k.address + one_if (same_text (to_ascii_lowercase a.address) k.address)
          → find (keyed_after (out ++ (key_of out a, a) ∷ []) l) k ≡ cond (c && d) (Some a) (nth_in k.address (k.occurrence - tally out k.address - one_if c) l)
      go false d e f ih s u =
          let z : find (out ++ (key_of out a, a) ∷ []) k ≡ None = s ∙ rw e in
          let w : tally (out ++ (key_of out a, a) ∷ []) k.address ≡ tally out k.address + 0 = u ∙ rw e in
          ih z (omega arith) ∙ ap (λ (n : ℕ). nth_in k.address n l) (omega arith)
      go true true e f ih s u =
          let m : k.occurrence - tally out k.address ≡ 0 = eqb-true (k.occurrence - tally out k.address) 0 f in
          let j : tally out (to_ascii_lowercase a.address) ≡ k.occurrence = ap (λ (w : Text). tally out w) (same_true (to_ascii_lowercase a.address) k.address e) ∙ omega arith in
          find_keeps l (out ++ (key_of out a, a) ∷ []) a (s ∙ rw (e, eq-eqb (tally out (to_ascii_lowercase a.address)) k.occurrence j))
      go true false e f ih s u =
          let m = eqb-false (k.occurrence - tally out k.address) 0 f in
          let q : tally out (to_ascii_lowercase a.address) ≡ tally out k.address = ap (λ (w : Text). tally out w) (same_true (to_ascii_lowercase a.address) k.address e) in
          let j = ne_eqb (tally out (to_ascii_lowercase a.address)) k.occurrence (λ i. m (omega arith)) in
          let z : find (out ++ (key_of out a, a) ∷ []) k ≡ None = s ∙ rw (e, j) in
          let w : tally (out ++ (key_of out a, a) ∷ []) k.address ≡ tally out k.address + 1 = u ∙ rw e in
          ih z (omega arith) ∙ ap (λ (n : ℕ). nth_in k.address n l) (omega arith)

  pub find_nth : (l : List Attendee) → find (keyed l) k ≡ nth_in k.address k.occurrence l
  unfolding keyed find filter
  find_nth l = find_after l [] refl (omega arith) ∙ ap (λ (n : ℕ). nth_in k.address n l) (omega arith)
