-- A struct passes the tests exactly where it is a sender's that uses lead to. Assumes nothing.
use Prim.Native.Nat.{ℕ, zero, suc, ◌+◌, ◌-◌, ◌≤◌, ◌<◌}
use native.Mathlib.Omega.{arith}
use mathlib.Core.Path.{◌≡◌, refl, sym, ap, ap₂, ◌∙◌, subst}
use mathlib.Core.List.{List, [], ◌∷◌, ◌++◌, map, append-nil}
use mathlib.Core.Bool.{Bool, true, false, ◌&&◌, false≢true}
use borrow.Author.Tests.{eq-eqb, eqb-true, le-leb, leb-true, lt-ltb, ltb-true, le-ltb, ltb-false}
use lib.ListN.{length, take, drop, get_or, replicate, length-append, length-map, length-drop, length-replicate, take-append-drop}
use lib.Seq.{length-take-le, drop-append_seam}
use lib.Dec.{leb, ltb, eqb}
use Rattle.format.specs.Format.{All}
use Rattle.format.proofs.FormatLaws.{and_inv}
use Rattle.std.specs.Prelude.{if◌then◌else◌}
use Rattle.std.specs.List.{list_all}
use Rattle.sender_turns.specs.Sender.{Call, Sender, mills, calls, lane_size, lane, after}
use Rattle.sender_turns.specs.Claims.{last_mill, Settled}
use Rattle.sender_turns.specs.Laid.{lane_of, call_of, no_call, calls_of, laid_out}
use Rattle.sender_turns.specs.declared.Lane.{Lane}
use Rattle.sender_turns.specs.declared.Call.{Call as CallStruct}
use Rattle.sender_turns.specs.declared.Sender.{Sender as SenderStruct}
use Rattle.sender_bytes.specs.Read.{IsSender}
use Rattle.sender_bytes.specs.Check.{is_zero, lane_ok, lanes_ok, place_ok, places_ok, calls_ok, is_idle, settled_ok, at_last}

-- ---- lanes

zeros_is : (l : List ℕ) → list_all is_zero l ≡ true → l ≡ replicate (length l) 0
zeros_is [] e = refl
zeros_is (n ∷ l) e = let p = and_inv (eqb n 0) (list_all is_zero l) e in ap₂ ◌∷◌ (eqb-true n 0 p.0) (zeros_is l p.1)

zeros_all : (n : ℕ) → list_all is_zero (replicate n 0) ≡ true
zeros_all zero = refl
zeros_all (suc n) = zeros_all n

-- what waits in a lane
abbrev waits : Lane → List ℕ
waits l = take l.count l.numbers

pub ok_parts : (l : Lane) → lane_ok l ≡ true → (l.count ≤ lane_size) × (length l.numbers ≡ lane_size) × (list_all is_zero (drop l.count l.numbers) ≡ true)
unfolding lane_ok
ok_parts l e =
    let p = and_inv (leb l.count lane_size) _ e in
    let q = and_inv (eqb (length l.numbers) lane_size) _ p.1 in
    (leb-true _ _ p.0, eqb-true _ _ q.0, q.1)

waits_long : (l : Lane) → lane_ok l ≡ true → length (waits l) ≡ l.count
waits_long l e = let p = ok_parts l e in length-take-le l.count l.numbers (omega arith)

lane_back : (l : Lane) → lane_ok l ≡ true → l ≡ lane_of (waits l)
unfolding lane_of
lane_back l e =
    let p = ok_parts l e in
    let rest : drop l.count l.numbers ≡ replicate (lane_size - l.count) 0 =
    zeros_is (drop l.count l.numbers) p.2 ∙ ap (λ (k : ℕ). replicate k 0) (length-drop l.count l.numbers ∙ ap (λ (k : ℕ). k - l.count) p.1) in
    let whole : l.numbers ≡ waits l ++ replicate (lane_size - l.count) 0 =
    sym (take-append-drop l.count l.numbers) ∙ ap (λ (x : List ℕ). waits l ++ x) rest in
    rw (waits_long l e) (ap (λ (x : List ℕ). record { numbers = x; count = l.count }) whole)

pub lanes_parts : (l : List Lane) → lanes_ok l ≡ true → (length l ≡ mills) × (list_all lane_ok l ≡ true)
lanes_parts l e = let p = and_inv (eqb (length l) mills) (list_all lane_ok l) e in (eqb-true _ _ p.0, p.1)

lanes_back : (l : List Lane) → list_all lane_ok l ≡ true → l ≡ map lane_of (map waits l)
lanes_back [] e = refl
lanes_back (a ∷ l) e = let p = and_inv (lane_ok a) (list_all lane_ok l) e in ap₂ ◌∷◌ (lane_back a p.0) (lanes_back l p.1)

lanes_short : (l : List Lane) → list_all lane_ok l ≡ true → (mill : ℕ) → length (lane mill (map waits l)) ≤ lane_size
unfolding lane
lanes_short [] e mill = omega arith
lanes_short (a ∷ l) e zero =
    let p = and_inv (lane_ok a) (list_all lane_ok l) e in
    omega (arith, waits_long a p.0, (ok_parts a p.0).0)
lanes_short (a ∷ l) e (suc mill) = lanes_short l (and_inv (lane_ok a) (list_all lane_ok l) e).1 mill

lanes_idle : (l : List Lane) → list_all is_idle l ≡ true → (mill : ℕ) → lane mill (map waits l) ≡ []
unfolding lane
lanes_idle [] e mill = refl
lanes_idle (a ∷ l) e zero = rw (eqb-true a.count 0 (and_inv (is_idle a) (list_all is_idle l) e).0)
lanes_idle (a ∷ l) e (suc mill) = lanes_idle l (and_inv (is_idle a) (list_all is_idle l) e).1 mill

lane_there : (l : List ℕ) → length l ≤ lane_size → lane_ok (lane_of l) ≡ true
unfolding lane_ok lane_of
lane_there l h =
    let n : length (l ++ replicate (lane_size - length l) 0) ≡ lane_size = simp (length-append, length-replicate) (omega arith) in
    rw (le-leb (length l) lane_size h, eq-eqb _ _ n, drop-append_seam l (replicate (lane_size - length l) 0)) (zeros_all (lane_size - length l))

lanes_there : (l : List (List ℕ)) → ((mill : ℕ) → length (lane mill l) ≤ lane_size) → list_all lane_ok (map lane_of l) ≡ true
unfolding lane
lanes_there [] h = refl
lanes_there (a ∷ l) h = rw (lane_there a (h 0)) (lanes_there l (λ mill. h (suc mill)))

idle_there : (l : List (List ℕ)) → ((mill : ℕ) → lane mill l ≡ []) → list_all is_idle (map lane_of l) ≡ true
unfolding lane lane_of
idle_there [] h = refl
idle_there (a ∷ l) h = rw (h 0) (idle_there l (λ mill. h (suc mill)))

-- ---- calls

abbrev pair : CallStruct → Call
pair c = (c.mill, c.number)

none_out : (out at : ℕ) (c : CallStruct) (l : List CallStruct) → out ≤ at → places_ok out at (c ∷ l) ≡ true → (c ≡ no_call) × (places_ok out (at + 1) l ≡ true)
unfolding place_ok
none_out out at c l h e =
    let f : (place_ok false c && places_ok out (at + 1) l) ≡ true = rw (le-ltb at out h) at e in
    let p = and_inv _ _ f in
    let q = and_inv _ _ p.0 in
    (ap₂ (λ (m n : ℕ). record { mill = m; number = n }) (eqb-true _ _ q.0) (eqb-true _ _ q.1), p.1)

one_out : (out at : ℕ) (c : CallStruct) (l : List CallStruct) → at < out → places_ok out at (c ∷ l) ≡ true → (c.mill < mills) × (places_ok out (at + 1) l ≡ true)
unfolding place_ok
one_out out at c l h e =
    let f : (place_ok true c && places_ok out (at + 1) l) ≡ true = rw (lt-ltb at out h) at e in
    let p = and_inv _ _ f in
    (ltb-true _ _ p.0, p.1)

-- calls from `at` on, where `left` of them are out
record Held (left : ℕ) (l : List CallStruct) : Type 0 where
  is : l ≡ map call_of (map pair (take left l)) ++ replicate (length l - left) no_call
  there : All (λ c. c.0 < mills) (map pair (take left l))
  mills_all : (i : ℕ) → (get_or l i no_call).mill < mills

held : (out at left : ℕ) (l : List CallStruct) → left ≡ out - at → places_ok out at l ≡ true → Held left l
unfolding call_of
held out at zero [] n e = record { is = refl; there = tt; mills_all = λ i. omega arith }
held out at (suc left) [] n e = record { is = let k : 0 - suc left ≡ 0 = omega arith in rw k; there = tt; mills_all = λ i. omega arith }
held out at zero (c ∷ l) n e =
    let p = none_out out at c l (omega arith) e in
    let r = held out (at + 1) zero l (omega arith) p.1 in
    let k : suc (length l) - 0 ≡ suc (length l - 0) = omega arith in
    record {
      is = rw k (ap₂ ◌∷◌ p.0 r.is);
      there = tt;
      mills_all = λ i. elim i as (λ k. (get_or (c ∷ l) k no_call).mill < mills) [ zero ↦ rw p.0 (omega arith) | suc k ↦ r.mills_all k ];
    }
held out at (suc left) (c ∷ l) n e =
    let p = one_out out at c l (omega arith) e in
    let r = held out (at + 1) left l (omega arith) p.1 in
    let k : suc (length l) - suc left ≡ length l - left = omega arith in
    record {
      is = rw k (ap (λ (x : List CallStruct). c ∷ x) r.is);
      there = (p.0, r.there);
      mills_all = λ i. elim i as (λ k. (get_or (c ∷ l) k no_call).mill < mills) [ zero ↦ p.0 | suc k ↦ r.mills_all k ];
    }

parts_of : (out : ℕ) (l : List CallStruct) → calls_ok out l ≡ true → (out ≤ calls) × (length l ≡ calls) × (places_ok out 0 l ≡ true)
parts_of out l e =
    let p = and_inv (leb out calls) _ e in
    let q = and_inv (eqb (length l) calls) _ p.1 in
    (leb-true _ _ p.0, eqb-true _ _ q.0, q.1)

-- the other way: calls that are out, and places past them
places_free : (out at n : ℕ) → out ≤ at → places_ok out at (replicate n no_call) ≡ true
unfolding place_ok
places_free out at zero h = refl
places_free out at (suc n) h = rw (le-ltb at out h) (places_free out (at + 1) n (omega arith))

places_there : (at n : ℕ) (out : List Call) → All (λ c. c.0 < mills) out → places_ok (at + length out) at (map call_of out ++ replicate n no_call) ≡ true
unfolding place_ok call_of
places_there at n [] h = places_free (at + 0) at n (omega arith)
places_there at n (c ∷ out) h =
    let k : at + 1 + length out ≡ at + length (c ∷ out) = omega arith in
    subst (λ (m : ℕ). places_ok m at (call_of c ∷ (map call_of out ++ replicate n no_call)) ≡ true) k
    (rw (lt-ltb at (at + 1 + length out) (omega arith), lt-ltb c.0 mills h.0) (places_there (at + 1) n out h.1))

last_at : (l : List Call) → last_mill l ≡ (get_or (map call_of l) (length l - 1) no_call).mill
unfolding last_mill call_of
last_at [] = refl
last_at (c ∷ []) = refl
last_at (c ∷ d ∷ l) =
    let k : suc (suc (length l)) - 1 ≡ suc (length l) = omega arith in
    let j : suc (length l) - 1 ≡ length l = omega arith in
    last_at (d ∷ l) ∙ rw (k, j)

-- ---- both ways

module _ (x : SenderStruct) (eight : length x.lanes ≡ mills) (four : length x.calls ≡ calls) where
  abbrev read : Sender
  read = record { lanes = map waits x.lanes; out = map pair (take x.out x.calls); turn = x.turn }

  module _ (turn : x.turn < mills) (lanes : list_all lane_ok x.lanes ≡ true) (out : calls_ok x.out x.calls ≡ true) (last : settled_ok x ≡ true) where
    few : x.out ≤ calls
    few = (parts_of x.out x.calls out).0

    held_calls : Held x.out x.calls
    held_calls = held x.out 0 x.out x.calls (omega arith) (parts_of x.out x.calls out).2

    out_long : length read.out ≡ x.out
    out_long = length-map (take x.out x.calls) pair ∙ length-take-le x.out x.calls (let h = few in omega arith)

    calls_back : x.calls ≡ calls_of read.out
    unfolding calls_of
    calls_back = held_calls.is ∙ ap (λ (n : ℕ). map call_of read.out ++ replicate n no_call) (ap₂ ◌-◌ four (sym out_long))

    idle : (calls ≤ x.out → ⊥) → (mill : ℕ) → lane mill read.lanes ≡ []
    idle h =
        let low : x.out < calls = omega arith in
        lanes_idle x.lanes (rw (lt-ltb x.out calls low) at last)

    last_granted : calls ≤ x.out → x.turn ≡ after (last_mill read.out)
    unfolding calls_of
    last_granted h =
        let all-out : x.out ≡ calls = let k = few in omega arith in
        let t : x.turn ≡ after (at_last x) = eqb-true _ _ (rw (le-ltb x.out calls h) at last) in
        let n : length read.out - 1 ≡ calls - 1 = let k = out_long in omega arith in
        let none_free : calls - length read.out ≡ 0 = let k = out_long in omega arith in
        let c : x.calls ≡ map call_of read.out = calls_back ∙ rw none_free (append-nil (map call_of read.out)) in
        let m : at_last x ≡ last_mill read.out =
        ap (λ (l : List CallStruct). (get_or l (calls - 1) no_call).mill) c ∙ ap (λ (i : ℕ). (get_or (map call_of read.out) i no_call).mill) (sym n) ∙ sym (last_at read.out) in
        t ∙ ap after m

    settled : Settled read
    settled = record {
      eight = length-map x.lanes waits ∙ eight;
      short = lanes_short x.lanes lanes;
      at = turn;
      there = held_calls.there;
      within = let h = few in let k = out_long in omega arith;
      none_possible = λ h. idle (λ k. h (let e = out_long in omega arith));
      last = λ h. last_granted (let e = out_long in omega arith);
    }

    is_one : IsSender x
    unfolding laid_out
    is_one = record {
      sender = read;
      settled = settled;
      is = joined (lanes_back x.lanes lanes) calls_back (sym out_long);
    }
      where
        joined : {l : List Lane} {c : List CallStruct} {n : ℕ} → x.lanes ≡ l → x.calls ≡ c → x.out ≡ n → x ≡ record { lanes = l; calls = c; out = n; turn = x.turn }
        joined p q r = rw (← p, ← q, ← r)

-- a sender's struct passes each test
module _ (x : SenderStruct) (I : IsSender x) where
  turn_passes : x.turn < mills
  unfolding laid_out
  turn_passes = rw I.is I.settled.at

  lanes_pass : lanes_ok x.lanes ≡ true
  unfolding laid_out
  lanes_pass = rw (I.is, eq-eqb _ _ (length-map I.sender.lanes lane_of ∙ I.settled.eight)) (lanes_there I.sender.lanes I.settled.short)

  calls_pass : calls_ok x.out x.calls ≡ true
  unfolding laid_out calls_of
  calls_pass =
      let s = I.sender in
      let k : 0 + length s.out ≡ length s.out = omega arith in
      let n : length (calls_of s.out) ≡ calls = simp (length-append, length-map, length-replicate) (let w = I.settled.within in omega arith) in
      rw (I.is, le-leb (length s.out) calls I.settled.within, eq-eqb _ _ n) (rw k at (places_there 0 (calls - length s.out) s.out I.settled.there))

  idle_passes : x.out < calls → list_all is_idle x.lanes ≡ true
  unfolding laid_out
  idle_passes h =
      let low : length I.sender.out < calls = rw I.is at h in
      rw I.is (idle_there I.sender.lanes (I.settled.none_possible (λ k. omega arith)))

  last_passes : calls ≤ x.out → eqb x.turn (after (at_last x)) ≡ true
  unfolding laid_out calls_of
  last_passes h =
      let s : Sender = I.sender in
      let high : calls ≤ length s.out = rw I.is at h in
      let n : calls - 1 ≡ length s.out - 1 = let k = I.settled.within in omega arith in
      let none_free : calls - length s.out ≡ 0 = omega arith in
      let c : calls_of s.out ≡ map call_of s.out = rw none_free (append-nil (map call_of s.out)) in
      let m : (get_or (calls_of s.out) (calls - 1) no_call).mill ≡ last_mill s.out = rw (c, n) (sym (last_at s.out)) in
      rw I.is (eq-eqb _ _ (I.settled.last high ∙ ap after (sym m)))

  settled_passes : settled_ok x ≡ true
  settled_passes = go (ltb x.out calls) refl
    where
      go : (b : Bool) → ltb x.out calls ≡ b → (if b then list_all is_idle x.lanes else eqb x.turn (after (at_last x))) ≡ true
      go true e = idle_passes (ltb-true _ _ e)
      go false e = last_passes (ltb-false _ _ e)

-- ---- what `is_sender` answers

pub lanes_eight : (l : List Lane) (r : Bool) → length l ≡ mills → r ≡ list_all lane_ok l → r ≡ lanes_ok l
lanes_eight l r n e = rw (eq-eqb (length l) mills n) e

abbrev Decides : SenderStruct → Bool → Type 0
Decides x r = (r ≡ true → IsSender x) × (IsSender x → r ≡ true)

fails : (x : SenderStruct) (b : Bool) → b ≡ false → (IsSender x → b ≡ true) → Decides x false
fails x b e h = (λ f. absurd (false≢true f), λ I. sym e ∙ h I)

pub bad_turn : (x : SenderStruct) → mills ≤ x.turn → Decides x false
bad_turn x h = fails x (ltb x.turn mills) (le-ltb _ _ h) (λ I. lt-ltb _ _ (turn_passes x I))

pub bad_lanes : (x : SenderStruct) → lanes_ok x.lanes ≡ false → Decides x false
bad_lanes x e = fails x _ e (lanes_pass x)

pub bad_calls : (x : SenderStruct) → calls_ok x.out x.calls ≡ false → Decides x false
bad_calls x e = fails x _ e (calls_pass x)

pub passed : (x : SenderStruct) (r : Bool) → x.turn < mills → lanes_ok x.lanes ≡ true → calls_ok x.out x.calls ≡ true → (at_last x < mills → r ≡ settled_ok x)
    → Decides x r
passed x r turn lanes out d =
    let c = parts_of x.out x.calls out in
    let l = lanes_parts x.lanes lanes in
    let e : r ≡ settled_ok x = d ((held x.out 0 x.out x.calls (omega arith) c.2).mills_all (calls - 1)) in
    (λ h. is_one x l.0 c.1 turn l.1 out (sym e ∙ h), λ I. e ∙ settled_passes x I)
