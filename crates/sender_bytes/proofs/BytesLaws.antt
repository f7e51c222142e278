-- A sender's bytes are lawful, have one length, and allow exactly the settled senders whose numbers fit. Assumes nothing.
use Rattle.std.specs.Prelude.{Some}
use Prim.Native.Nat.{ℕ, zero, suc, ◌+◌, ◌*◌, ◌^◌, ◌≤◌, ◌<◌}
use native.Mathlib.Omega.{arith}
use mathlib.Core.Path.{◌≡◌, refl, sym, ap, ◌∙◌}
use mathlib.Core.List.{List, [], ◌∷◌, ◌++◌}
use mathlib.Core.Bool.{Bool, true, false}
use lib.ListN.{length, get_or, length-append}
use lib.Dec.{T, leb, eqb, eqb→eq}
use borrow.Author.Tests.{le-leb, leb-true, leb-false, eq-eqb}
use Rattle.format.specs.Format.{Format, Lawful, All, concat_map, repeated, ◌⊗◌, via, below, number, list, such, padded}
use Rattle.format.proofs.FormatLaws.{pair_law, via_law, below_law, list_law, such_law, padded_law, true_T}
use Rattle.format.proofs.SizeLaws.{Exactly, exactly_within, pair_exactly, via_exactly, such_exactly, below_exactly, number_exactly, padded_exactly, list_within}
use Rattle.model.specs.Maps.{when◌then◌else◌, is_empty}
use Rattle.model.specs.WellFormed.{all}
use Rattle.model.specs.Formats.{u64}
use Rattle.model.specs.Layout.{table}
use Rattle.model.proofs.FormatsLaws.{u64_law}
use Rattle.model.proofs.StaysWellFormed.{all_weaken}
use Rattle.sender_turns.specs.Sender.{Call, Sender, mills, calls, lane_size, lane, after}
use Rattle.sender_turns.specs.Claims.{Settled, Numbered, last_mill}
use Rattle.sender_bytes.specs.Bytes.{number_bytes, call_bytes, lane_bytes, sender_length, each, lane_f, call_f, sender_to, sender_from, is_settled, sender_f}

-- ---- lawful

module _ {A : Type 0} {f : Format A} (F : Lawful f) where
  -- what a list with this count reads after the count byte
  list_reads : (n : ℕ) (s : List ℕ) → (list n f).dec (n ∷ s) ≡ repeated f.dec n s
  unfolding list
  list_reads n s = rw (le-leb n n (omega arith))

  each_writes : (xs : List A) → All f.Ok xs → (t : List ℕ) → repeated f.dec (length xs) (concat_map f.enc xs ++ t) ≡ Some (xs, t)
  unfolding list
  each_writes xs ok t = sym (list_reads (length xs) (concat_map f.enc xs ++ t)) ∙ (list_law F (length xs)).writes xs (omega arith, ok) t

  each_reads : (n : ℕ) (s : List ℕ) (r : List A × List ℕ) → repeated f.dec n s ≡ Some r → (s ≡ concat_map f.enc r.0 ++ r.1) × ((length r.0 ≡ n) × All f.Ok r.0)
  unfolding list
  each_reads n s r e =
      let u = (list_law F n).reads (n ∷ s) r (list_reads n s ∙ e) in
      let v : n ∷ s ≡ length r.0 ∷ (concat_map f.enc r.0 ++ r.1) = u.0 in
      (cc, ((cc), u.1.1))

  pub each_law : (n : ℕ) → Lawful (each n f)
  unfolding each
  each_law n = record { writes = λ xs ok t. rw (← ok.0) (each_writes xs ok.1 t); reads = each_reads n }

  rows_law : (limit width : ℕ) → Lawful (table limit width f)
  unfolding table
  rows_law limit width = padded_law (list_law F limit) (1 + limit * width)

lane_f_law : Lawful lane_f
unfolding lane_f
lane_f_law = rows_law u64_law lane_size number_bytes

call_f_law : Lawful call_f
unfolding call_f
call_f_law = pair_law (below_law mills) u64_law

pub sender_f_law : Lawful sender_f
unfolding sender_f
sender_f_law =
    such_law (via_law (pair_law (each_law lane_f_law mills) (pair_law (rows_law call_f_law calls call_bytes) (below_law mills)))
    sender_to sender_from (λ s. refl) (λ p ok. refl)) is_settled

-- ---- the length

pub concat_long : {A : Type 0} (out : A → List ℕ) (P : A → Type 0) (width : ℕ) → ((a : A) → P a → length (out a) ≡ width)
    → (xs : List A) → All P xs → length (concat_map out xs) ≡ length xs * width
concat_long out P width k [] ok = omega arith
concat_long out P width k (a ∷ xs) ok =
    let h = concat_long out P width k xs ok.1 in
    let u = k a ok.0 in
    let l = length-append (out a) (concat_map out xs) in
    omega arith

each_exactly : {A : Type 0} {f : Format A} {n : ℕ} → Exactly n f → (k : ℕ) → Exactly (k * n) (each k f)
unfolding each
each_exactly {f} {n} F k = record { bytes = λ xs ok. concat_long f.enc f.Ok n F.bytes xs ok.1 ∙ ap (λ (m : ℕ). m * n) ok.0 }

rows_exactly : {A : Type 0} (limit width : ℕ) (f : Format A) → Exactly (1 + limit * width) (table limit width f)
unfolding table
rows_exactly limit width f = padded_exactly (1 + limit * width) (list limit f)

lane_f_exactly : Exactly lane_bytes lane_f
unfolding lane_f
lane_f_exactly = rows_exactly lane_size number_bytes u64

call_f_exactly : Exactly call_bytes call_f
unfolding call_f
call_f_exactly = pair_exactly (below_exactly mills) (number_exactly number_bytes)

sender_f_exactly : Exactly sender_length sender_f
unfolding sender_f
sender_f_exactly =
    such_exactly is_settled (via_exactly sender_to sender_from
    (pair_exactly (each_exactly lane_f_exactly mills) (pair_exactly (rows_exactly calls call_bytes call_f) (below_exactly mills))))

pub sender_long : (s : Sender) → sender_f.Ok s → length (sender_f.enc s) ≡ sender_length
sender_long = sender_f_exactly.bytes

-- ---- the values allowed

-- every entry of a list, by its place and as a whole
all_get : {A : Type 0} (P : A → Type 0) (d : A) → P d → (l : List A) → All P l → (i : ℕ) → P (get_or l i d)
all_get P d h [] a i = h
all_get P d h (x ∷ l) a zero = a.0
all_get P d h (x ∷ l) a (suc i) = all_get P d h l a.1 i

pub get_all : {A : Type 0} (P : A → Type 0) (d : A) (l : List A) → ((i : ℕ) → P (get_or l i d)) → All P l
get_all P d [] h = tt
get_all P d (x ∷ l) h = (h 0, get_all P d l (λ i. h (suc i)))

pub all_join : {A : Type 0} (P Q R : A → Type 0) → ((a : A) → P a → Q a → R a) → (l : List A) → All P l → All Q l → All R l
all_join P Q R k [] p q = tt
all_join P Q R k (x ∷ l) p q = (k x p.0 q.0, all_join P Q R k l p.1 q.1)

-- a table allows so many values of its format, if none is wider than an entry
rows_ok : {A : Type 0} {f : Format A} {width : ℕ} → Exactly width f → (limit : ℕ) (xs : List A) → length xs ≤ limit → All f.Ok xs → (table limit width f).Ok xs
unfolding table padded list
rows_ok F limit xs h a = ((h, a), (list_within limit (exactly_within F)).bytes xs (h, a))

ok_rows : {A : Type 0} (f : Format A) (limit width : ℕ) (xs : List A) → (table limit width f).Ok xs → (length xs ≤ limit) × All f.Ok xs
unfolding table padded list
ok_rows f limit width xs ok = ok.0

empties : (l : List (List ℕ)) → T (all is_empty l) → All (λ x. x ≡ []) l
unfolding all is_empty
empties [] t = tt
empties ([] ∷ l) t = (refl, empties l t)
empties ((n ∷ x) ∷ l) t = absurd t

all_empty : (l : List (List ℕ)) → All (λ x. x ≡ []) l → T (all is_empty l)
unfolding all is_empty
all_empty [] a = tt
all_empty (x ∷ l) a = rw a.0 (all_empty l a.1)

abbrev pub Short : List ℕ → Type 0
Short l = length l ≤ lane_size

-- a number fits its bytes
abbrev pub Fit : ℕ → Type 0
Fit n = n < 256 ^ number_bytes

lane_ok : (l : List ℕ) → Short l → All Fit l → lane_f.Ok l
unfolding lane_f number
lane_ok = rows_ok (number_exactly number_bytes) lane_size

ok_lane : (l : List ℕ) → lane_f.Ok l → Short l × All Fit l
unfolding lane_f number
ok_lane = ok_rows u64 lane_size number_bytes

call_ok : (c : Call) → c.0 < mills → Fit c.1 → call_f.Ok c
unfolding call_f ◌⊗◌ below number
call_ok c h i = (h, i)

ok_call : (c : Call) → call_f.Ok c → (c.0 < mills) × Fit c.1
unfolding call_f ◌⊗◌ below number
ok_call c ok = ok

module _ (s : Sender) where
  -- what the format allows, in parts
  record Allowed : Type 0 where
    eight : length s.lanes ≡ mills
    lanes : All lane_f.Ok s.lanes
    within : length s.out ≤ calls
    out : All call_f.Ok s.out
    at : s.turn < mills
    settled : T (is_settled s)

  allowed : sender_f.Ok s → Allowed
  unfolding sender_f such via ◌⊗◌ each below
  allowed ok =
      let o = ok_rows call_f calls call_bytes s.out ok.0.1.0 in
      record { eight = ok.0.0.0; lanes = ok.0.0.1; within = o.0; out = o.1; at = ok.0.1.1; settled = ok.1 }

  allow : Allowed → sender_f.Ok s
  unfolding sender_f such via ◌⊗◌ each below
  allow k = (((k.eight, k.lanes), (rows_ok call_f_exactly calls s.out k.within k.out, k.at)), k.settled)

  none_waits : T (is_settled s) → (calls ≤ length s.out → ⊥) → (mill : ℕ) → lane mill s.lanes ≡ []
  unfolding is_settled when◌then◌else◌ lane
  none_waits t h = go (leb calls (length s.out)) refl t
    where
      go : (b : Bool) → leb calls (length s.out) ≡ b → T (when b then eqb s.turn (after (last_mill s.out)) else all is_empty s.lanes) → (mill : ℕ) → get_or s.lanes mill [] ≡ []
      go true e t = absurd (h (leb-true calls (length s.out) e))
      go false e t = all_get (λ (x : List ℕ). x ≡ []) [] refl s.lanes (empties s.lanes t)

  turned : T (is_settled s) → calls ≤ length s.out → s.turn ≡ after (last_mill s.out)
  unfolding is_settled when◌then◌else◌
  turned t h = eqb→eq s.turn (after (last_mill s.out)) (rw (le-leb calls (length s.out) h) at t)

  is_settled_by : Settled s → T (is_settled s)
  unfolding is_settled when◌then◌else◌ lane
  is_settled_by k = go (leb calls (length s.out)) refl
    where
      go : (b : Bool) → leb calls (length s.out) ≡ b → T (when b then eqb s.turn (after (last_mill s.out)) else all is_empty s.lanes)
      go true e = true_T _ (eq-eqb s.turn (after (last_mill s.out)) (k.last (leb-true calls (length s.out) e)))
      go false e =
          let h : length s.out < calls = leb-false calls (length s.out) e in
          all_empty s.lanes (get_all (λ (x : List ℕ). x ≡ []) [] s.lanes (k.none_possible (λ g. omega arith)))

  pub ok_settled : sender_f.Ok s → Settled s
  unfolding lane
  ok_settled ok =
      let k = allowed ok in
      record {
        eight = k.eight;
        short = all_get Short [] (omega arith) s.lanes (all_weaken lane_f.Ok Short (λ l o. (ok_lane l o).0) s.lanes k.lanes);
        at = k.at;
        there = all_weaken call_f.Ok (λ c. c.0 < mills) (λ c o. (ok_call c o).0) s.out k.out;
        within = k.within;
        none_possible = none_waits k.settled;
        last = turned k.settled;
      }

  pub ok_numbered : sender_f.Ok s → Numbered (256 ^ number_bytes) s
  ok_numbered ok =
      let k = allowed ok in
      record {
        waiting = all_weaken lane_f.Ok (All Fit) (λ l o. (ok_lane l o).1) s.lanes k.lanes;
        out = all_weaken call_f.Ok (λ c. Fit c.1) (λ c o. (ok_call c o).1) s.out k.out;
      }

  pub settled_ok : Settled s → Numbered (256 ^ number_bytes) s → sender_f.Ok s
  unfolding lane
  settled_ok k n =
      allow (record {
        eight = k.eight;
        lanes = all_join Short (All Fit) lane_f.Ok lane_ok s.lanes (get_all Short [] s.lanes k.short) n.waiting;
        within = k.within;
        out = all_join (λ c. c.0 < mills) (λ c. Fit c.1) call_f.Ok call_ok s.out k.there n.out;
        at = k.at;
        settled = is_settled_by k;
      })
