-- Laws of the sender as the code holds it: arrays that are moved down, lanes and calls with one more and one less. Assumes nothing.
use Prim.Native.Nat.{ℕ, zero, suc, ◌+◌, ◌-◌, ◌≤◌, ◌<◌}
use native.Mathlib.Nat.{le_of_suc-le-suc, not-suc-le-zero}
use native.Mathlib.Numerals.{add-one}
use native.Mathlib.Omega.{arith}
use mathlib.Core.Path.{◌≡◌, refl, sym, ap, ◌∙◌}
use mathlib.Core.List.{List, [], ◌∷◌, ◌++◌, map, append_assoc, map-append}
use lib.ListN.{length, get_or, set, take, drop, replicate, length-append, length-drop, length-map, drop_of_length-le, replicate-append-replicate, get_or-append, get_or-map}
use lib.Seq.{take_all, take-suc, drop-cons, append_snoc, set_at, set_split, take-suc-set, drop-set-lt, length-take-le, get_or-drop}
use Rattle.sender_turns.specs.Sender.{Call, Sender, mills, calls, lane_size, lane, rest_of, first_of, with_lane, with_out}
use Rattle.sender_turns.specs.Laid.{lane_of, call_of, no_call, calls_of, laid_out}
use Rattle.sender_turns.specs.Steps.{Ready, count_at}
use Rattle.sender_turns.specs.declared.Lane.{Lane}
use Rattle.sender_turns.specs.declared.Call.{Call as CallStruct}
use Rattle.sender_turns.specs.declared.Sender.{Sender as SenderStruct}

-- ---- zeros

abbrev zeros : ℕ → List ℕ
zeros n = replicate n 0

zeros_less : (n i : ℕ) → i < n → zeros (n - i) ≡ 0 ∷ zeros (n - (i + 1))
zeros_less n i h = let e : n - i ≡ suc (n - (i + 1)) = omega arith in rw e

zeros_one : (n : ℕ) → zeros n ++ (0 ∷ []) ≡ zeros (n + 1)
zeros_one n = replicate-append-replicate n 1 0

-- a list without the element at a place, and one more behind
abbrev pub less_at : {A : Type 0} → ℕ → List A → A → List A
less_at i l z = take i l ++ (drop (i + 1) l ++ (z ∷ []))

-- ---- a lane with one request more, and without its oldest

pub with_one : (self : Lane) (number : ℕ) → self.count < lane_size → (l : List ℕ) → self ≡ lane_of l
    → ◌≡◌ {A = Lane} (record { numbers = set self.numbers self.count number; count = self.count + 1 }) (lane_of (l ++ number ∷ []))
unfolding lane_of
with_one self number h l e =
    let short : length l < lane_size = rw e at h in
    let long : length (l ++ number ∷ []) ≡ length l + 1 = length-append l (number ∷ []) in
    rw (e, long, zeros_less lane_size (length l) short, set_at l 0 (zeros (lane_size - (length l + 1))) number (length l) refl, append_snoc l number (zeros (lane_size - (length l + 1))))

pub rest_one : (self : Lane) (numbers : List ℕ) → 0 < self.count → numbers ≡ drop 1 self.numbers ++ (0 ∷ []) → (l : List ℕ) → length l ≤ lane_size → self ≡ lane_of l
    → ◌≡◌ {A = Lane} (record { numbers = numbers; count = self.count - 1 }) (lane_of (rest_of l))
unfolding lane_of rest_of
rest_one self numbers h n [] k e = absurd (omega (arith, ap (λ (a : Lane). a.count) e))
rest_one self numbers h n (x ∷ l) k e =
    let one : suc (length l) - 1 ≡ length l = omega arith in
    let more : lane_size - suc (length l) + 1 ≡ lane_size - length l = omega arith in
    rw (n, e, one, append_assoc l (zeros (lane_size - suc (length l))) (0 ∷ []), zeros_one (lane_size - suc (length l)), more)

-- ---- what stands at a place

pub lane_at : (s : Sender) (mill : ℕ) (d : Lane) → mill < length s.lanes → get_or (laid_out s).lanes mill d ≡ lane_of (lane mill s.lanes)
unfolding laid_out lane
lane_at s mill d h = go s.lanes mill h
  where
    go : (lanes : List (List ℕ)) (m : ℕ) → m < length lanes → get_or (map lane_of lanes) m d ≡ lane_of (get_or lanes m [])
    go [] m h = absurd (not-suc-le-zero h)
    go (l ∷ lanes) zero h = refl
    go (l ∷ lanes) (suc m) h = go lanes m (le_of_suc-le-suc h)

pub count_of : (s : Sender) (mill : ℕ) → count_at mill (laid_out s) ≡ length (lane mill s.lanes)
unfolding laid_out lane lane_of
count_of s mill = go s.lanes mill
  where
    go : (lanes : List (List ℕ)) (m : ℕ) → (get_or (map lane_of lanes) m (record { numbers = []; count = 0 })).count ≡ length (get_or lanes m [])
    go [] m = refl
    go (l ∷ lanes) zero = refl
    go (l ∷ lanes) (suc m) = go lanes m

pub number_at : (l : List ℕ) → get_or (lane_of l).numbers 0 0 ≡ first_of l
unfolding lane_of first_of
number_at [] = refl
number_at (n ∷ l) = refl

-- ---- one lane, one call more, one call less

pub set_lanes : (lanes : List (List ℕ)) (mill : ℕ) (l : List ℕ) → set (map lane_of lanes) mill (lane_of l) ≡ map lane_of (set lanes mill l)
set_lanes [] mill l = refl
set_lanes (x ∷ lanes) zero l = refl
set_lanes (x ∷ lanes) (suc mill) l = ap (λ (r : List Lane). lane_of x ∷ r) (set_lanes lanes mill l)

abbrev free_places : ℕ → List CallStruct
free_places n = replicate n no_call

pub set_calls : (out : List Call) (c : Call) → length out < calls → set (calls_of out) (length out) (call_of c) ≡ calls_of (out ++ c ∷ [])
unfolding calls_of
set_calls out c h =
    let free : calls - length out ≡ suc (calls - (length out + 1)) = omega arith in
    let long : length (out ++ c ∷ []) ≡ length out + 1 = length-append out (c ∷ []) in
    rw (free, set_at (map call_of out) no_call (free_places (calls - (length out + 1))) (call_of c) (length out) (length-map out call_of), long, map-append call_of out (c ∷ []))
    (sym (append_snoc (map call_of out) (call_of c) (free_places (calls - (length out + 1)))))

less_map : (out : List Call) (k : ℕ) (r : List CallStruct) → k < length out
    → take k (map call_of out ++ r) ++ drop (suc k) (map call_of out ++ r) ≡ map call_of (take k out ++ drop (suc k) out) ++ r
less_map [] k r h = absurd (not-suc-le-zero h)
less_map (c ∷ out) zero r h = refl
less_map (c ∷ out) (suc k) r h = ap (λ (x : List CallStruct). call_of c ∷ x) (less_map out k r (le_of_suc-le-suc h))

less_long : (out : List Call) (k : ℕ) → k < length out → length (take k out ++ drop (suc k) out) ≡ length out - 1
less_long out k h = length-append (take k out) (drop (suc k) out) ∙ rw (length-take-le k out (omega arith), length-drop (suc k) out) (omega arith)

pub calls_less : (out : List Call) (k : ℕ) → k < length out → length out ≤ calls → less_at k (calls_of out) no_call ≡ calls_of (take k out ++ drop (k + 1) out)
unfolding calls_of
calls_less out k h w =
    let free : calls - (length out - 1) ≡ calls - length out + 1 = omega arith in
    let more : free_places (calls - length out) ++ (no_call ∷ []) ≡ free_places (calls - length out + 1) = replicate-append-replicate (calls - length out) 1 no_call in
    let all : List CallStruct = map call_of out ++ free_places (calls - length out) in
    let left : List Call = take k out ++ drop (suc k) out in
    rw (add-one k, less_long out k h, free, ← more)
    (sym (append_assoc (take k all) (drop (suc k) all) (no_call ∷ []))
    ∙ ap (λ (l : List CallStruct). l ++ (no_call ∷ [])) (less_map out k (free_places (calls - length out)) h)
    ∙ append_assoc (map call_of left) (free_places (calls - length out)) (no_call ∷ []))

-- ---- the parts of a sender

pub turn_of : {self : SenderStruct} (s : Sender) → self ≡ laid_out s → self.turn ≡ s.turn
unfolding laid_out
turn_of s e = ap (λ (a : SenderStruct). a.turn) e

pub out_of : {self : SenderStruct} (s : Sender) → self ≡ laid_out s → self.out ≡ length s.out
unfolding laid_out
out_of s e = ap (λ (a : SenderStruct). a.out) e

pub lanes_is : {self : SenderStruct} (s : Sender) → self ≡ laid_out s → self.lanes ≡ map lane_of s.lanes
unfolding laid_out
lanes_is s e = ap (λ (a : SenderStruct). a.lanes) e

pub calls_is : {self : SenderStruct} (s : Sender) → self ≡ laid_out s → self.calls ≡ calls_of s.out
unfolding laid_out
calls_is s e = ap (λ (a : SenderStruct). a.calls) e

pub count_is : {self : SenderStruct} (s : Sender) (mill : ℕ) → self ≡ laid_out s → count_at mill self ≡ length (lane mill s.lanes)
count_is s mill e = ap (count_at mill) e ∙ count_of s mill

-- the mill's lane, as the code reads it
abbrev pub lane_in : ℕ → SenderStruct → Lane
lane_in mill self = get_or self.lanes mill (record { numbers = []; count = 0 })

pub lane_is : {self : SenderStruct} (s : Sender) (mill : ℕ) → self ≡ laid_out s → Ready s → mill < mills → lane_in mill self ≡ lane_of (lane mill s.lanes)
lane_is s mill e w h = ap (lane_in mill) e ∙ lane_at s mill (record { numbers = []; count = 0 }) (omega (arith, w.eight))

pub sender_is : {l l' : List Lane} {c c' : List CallStruct} {o o' t t' : ℕ} → l ≡ l' → c ≡ c' → o ≡ o' → t ≡ t'
    → ◌≡◌ {A = SenderStruct} (record { lanes = l; calls = c; out = o; turn = t }) (record { lanes = l'; calls = c'; out = o'; turn = t' })
sender_is l c o t = rw (l, c, o, t)

-- ---- a sender with one lane changed, and with a call less

pub laid_lane : {self : SenderStruct} {lane : Lane} (s : Sender) (mill : ℕ) (l : List ℕ) → self ≡ laid_out s → lane ≡ lane_of l
    → ◌≡◌ {A = SenderStruct} (record { lanes = set self.lanes mill lane; calls = self.calls; out = self.out; turn = self.turn }) (laid_out (with_lane mill l s))
unfolding laid_out with_lane
laid_lane s mill l e p = sender_is (rw (lanes_is s e, p) (set_lanes s.lanes mill l)) (calls_is s e) (out_of s e) (turn_of s e)

pub laid_less : {self : SenderStruct} {left : List CallStruct} (s : Sender) (at : ℕ) → self ≡ laid_out s → Ready s → at < length s.out → left ≡ less_at at self.calls no_call
    → ◌≡◌ {A = SenderStruct} (record { lanes = self.lanes; calls = left; out = self.out - 1; turn = self.turn }) (laid_out (with_out (take at s.out ++ drop (at + 1) s.out) s))
unfolding laid_out with_out
laid_less s at e w h p =
    sender_is (lanes_is s e) (p ∙ rw (calls_is s e) (calls_less s.out at h w.within))
    (ap (λ (n : ℕ). n - 1) (out_of s e) ∙ rw (add-one at) (sym (less_long s.out at h))) (turn_of s e)
