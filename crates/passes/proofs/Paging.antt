-- The changes of a page, one after the other. Assumes nothing.
use Rattle.std.specs.Prelude.{Some}
use Prim.Native.Nat.{ℕ, zero, suc, ◌-◌, ◌≤◌, ◌<◌}
use native.Mathlib.Omega.{arith}
use mathlib.Core.Path.{◌≡◌, refl, sym, ap, subst}
use mathlib.Core.List.{List, [], ◌∷◌}
use mathlib.Core.Bool.{true}
use lib.ListN.{length, take, drop}
use Rattle.format.specs.Format.{All, below}
use Rattle.model.specs.Seam.{RequestId, Change}
use Rattle.model.specs.Limits.{max_changes}
use Rattle.model.specs.Formats.{change_f, next_f, page_f}
use Rattle.model.specs.Machine.{for_each}
use Rattle.model.specs.Sync.{list_change}
use Rattle.model.proofs.ValidParts.{page_changes}
use Rattle.frame.specs.Read.{read_at, Found, Means}
use Rattle.frame.specs.Meaning.{page_at, meant_change}
use Rattle.frame.specs.declared.Change as places
use Rattle.frame.specs.declared.Cursor.{Cursor}
use Rattle.frame.proofs.Skips.{skip_n}
use Rattle.values.proofs.Pages.{Walk, walk_start, walk_step, walk_long, walk_in}
use Rattle.spans.proofs.Laws.{tail_mid}
use Rattle.state.specs.Contract.{HasState}
use Rattle.machine.specs.declared.Progress.{Progress}
use Rattle.machine.specs.Contract.{Changes}
use Rattle.passes.proofs.Changing as changing
use Rattle.observe.proofs.Observing as observing

-- `left` changes are still to come at a place: once they are done, all of the page's are
pub record Paging (s : List ℕ) (page : ℕ) (id : RequestId) (w₀ : List ℕ) (p₀ : Progress) (w : List ℕ) (p : Progress) (place : Cursor) (left : ℕ) : Type 0 where
  pub rest : List Change
  pub walk : Walk s place left rest (page_at s page).next
  pub each : All change_f.Ok rest
  pub all : (q : Progress) (w' : List ℕ) → Changes (for_each (list_change id) rest) w p q w' → Changes (for_each (list_change id) (page_at s page).changes) w₀ p₀ q w'
  pub state : HasState w

pub paging_start : (s : List ℕ) (page n : ℕ) (id : RequestId) (w : List ℕ) (p : Progress) (tag : Cursor) → HasState w → page_f.Ok (page_at s page) → Found tag n 0 (below (suc 8)) s (record { at = page; ok = true }) → Paging s page id w p w p tag n
unfolding max_changes
paging_start s page n id w p tag K k G = record {
  rest = (page_at s page).changes;
  walk = walk_start s page k tag n G;
  each = page_changes (page_at s page) k;
  all = λ q w' C. C;
  state = K;
}

-- the place of a change to come is in the frame
pub paging_in : {s : List ℕ} {page : ℕ} {id : RequestId} {w₀ : List ℕ} {p₀ : Progress} {w : List ℕ} {p : Progress} {place : Cursor} {left : ℕ} → Paging s page id w₀ p₀ w p place left → 0 < left → place.at ≤ length s
paging_in {s} {page} {place = place} {left = left} P l = go left l P.walk
  where
    go : (n : ℕ) → 0 < n → Walk s place n P.rest (page_at s page).next → place.at ≤ length s
    go zero l W = absurd (omega arith)
    go (suc n) l W = walk_in W

-- the change is read and listed in the same rest of the frame
module _ (s : List ℕ) (at : ℕ) (c : places.Change) where
  rest_is : meant_change (take (length s - at) (drop at s)) c ≡ meant_change (drop at s) c
  rest_is = ap (λ (x : List ℕ). meant_change x c) (tail_mid s at)

  pub rest_ok : change_f.Ok (meant_change (drop at s) c) → change_f.Ok (meant_change (take (length s - at) (drop at s)) c)
  rest_ok k = subst (λ (v : Change). change_f.Ok v) (sym rest_is) k

  pub rest_listed : {w w' : List ℕ} {p q : Progress} (id : RequestId) → Changes (list_change id (meant_change (take (length s - at) (drop at s)) c)) w p q w' → Changes (list_change id (meant_change (drop at s) c)) w p q w'
  rest_listed {w} {w'} {p} {q} id C = subst (λ (v : Change). Changes (list_change id v) w p q w') rest_is C

module _ {s : List ℕ} {page : ℕ} {id : RequestId} {w₀ : List ℕ} {p₀ : Progress} {w : List ℕ} {p : Progress} {place next : Cursor} {left : ℕ} (v : Change) (P : Paging s page id w₀ p₀ w p place left) where
  pub change_ok : 0 < left → Means next v change_f s place → change_f.Ok v
  change_ok l M = go left P.rest l P.walk P.each
    where
      go : (n : ℕ) (xs : List Change) → 0 < n → Walk s place n xs (page_at s page).next → All change_f.Ok xs → change_f.Ok v
      go zero xs l W a = absurd (omega arith)
      go (suc n) [] l W a = absurd (let h = walk_long W in omega arith)
      go (suc n) (x ∷ xs) l W a = subst (λ (y : Change). change_f.Ok y) (walk_step W M).0 a.0

  pub paging_turn : {q : Progress} {w' : List ℕ} → 0 < left → Means next v change_f s place → Changes (list_change id v) w p q w' → Paging s page id w₀ p₀ w' q next (left - 1)
  unfolding for_each
  paging_turn {q} {w'} l M C = go left (left - 1) refl P.rest l P.walk P.each P.all
    where
      go : (n k : ℕ) → k ≡ n - 1 → (xs : List Change) → 0 < n → Walk s place n xs (page_at s page).next → All change_f.Ok xs
          → ((q : Progress) (w' : List ℕ) → Changes (for_each (list_change id) xs) w p q w' → Changes (for_each (list_change id) (page_at s page).changes) w₀ p₀ q w')
          → Paging s page id w₀ p₀ w' q next k
      go zero k e xs l W a f = absurd (omega arith)
      go (suc n) k e [] l W a f = absurd (let h = walk_long W in omega arith)
      go (suc n) k e (x ∷ xs) l W a f = record {
        rest = xs;
        walk = (let d : n ≡ k = omega arith in subst (λ (j : ℕ). Walk s next j xs (page_at s page).next) d (walk_step W M).1);
        each = a.1;
        all = λ r w'' D. f r w'' (changing.and_then (subst (λ (y : Change). Changes (list_change id y) w p q w') (sym (walk_step W M).0) C) D);
        state = observing.still C P.state;
      }

pub paging_end : {s : List ℕ} {page : ℕ} {id : RequestId} {w₀ : List ℕ} {p₀ : Progress} {w : List ℕ} {p : Progress} {place : Cursor} {left : ℕ} → Paging s page id w₀ p₀ w p place left → left ≤ 0
    → Changes (for_each (list_change id) (page_at s page).changes) w₀ p₀ p w × (read_at next_f s place ≡ Some (page_at s page).next)
unfolding for_each skip_n
paging_end {s} {page} {id} {w₀} {p₀} {w} {p} {place} {left} P l = go left P.rest l P.walk P.all
  where
    go : (n : ℕ) (xs : List Change) → n ≤ 0 → Walk s place n xs (page_at s page).next
        → ((q : Progress) (w' : List ℕ) → Changes (for_each (list_change id) xs) w p q w' → Changes (for_each (list_change id) (page_at s page).changes) w₀ p₀ q w')
        → Changes (for_each (list_change id) (page_at s page).changes) w₀ p₀ p w × (read_at next_f s place ≡ Some (page_at s page).next)
    go zero [] l W f = (f p w changing.no_change, W.end)
    go zero (x ∷ xs) l W f = absurd (let h = walk_long W in omega arith)
    go (suc n) xs l W f = absurd (omega arith)
