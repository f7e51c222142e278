-- A sender's bytes and its struct: reading and writing agree, and the struct is a settled sender's exactly where the bytes are. Assumes nothing.
use Rattle.std.specs.Prelude.{Some}
use Prim.Native.Nat.{ℕ, zero, suc, ◌+◌, ◌-◌, ◌*◌, ◌/◌, ◌%◌, ◌^◌, ◌≤◌, ◌<◌}
use native.Mathlib.Nat.{zero-mul, mul_comm, add-mul, div-one, div-div-eq-div-mul, pow-suc, pow-zero, pow-le-pow_right, min-le_left}
use native.Mathlib.Numerals.{add-one}
use native.Mathlib.Omega.{arith}
use mathlib.Core.Path.{◌≡◌, refl, sym, ap, ap₂, ◌∙◌}
use mathlib.Core.List.{List, [], ◌∷◌, ◌++◌, map, map-id, append_assoc}
use lib.ListN.{length, take, drop, get_or, replicate, length-append, length-replicate, length-take, length-drop, length-map, replicate-append-replicate, take-append-drop}
use lib.Seq.{take-add, take_all, take-suc, get_or-drop, take_at, drop_at, drop-cons, get_or_at, get_or-append-add, drop-append-add, length-take-le}
use Rattle.format.specs.Format.{Format, All, concat_map, big_endian, zeros, ◌⊗◌, via, below, number, list, such, padded}
use Rattle.format.proofs.WholeLaws.{whole_enc, whole_dec}
use Rattle.format.proofs.SizeLaws.{length_digits}
use Rattle.model.specs.Formats.{u64}
use Rattle.model.specs.Layout.{table}
use Rattle.model.proofs.Fitting.{all_append}
use Rattle.model.proofs.StaysWellFormed.{all_weaken}
use Rattle.numbers.specs.Big.{from_be, to_be}
use Rattle.numbers.proofs.Laws.{Bytes, bytes_take, bytes_drop, from_to, to_from, from_bound, length_to}
use Rattle.sender_turns.specs.Sender.{Call, Sender, mills, calls, lane_size, lane}
use Rattle.sender_turns.specs.Claims.{Settled, Numbered}
use Rattle.sender_turns.specs.Laid.{lane_of, call_of, no_call, calls_of, laid_out}
use Rattle.sender_turns.specs.declared.Lane.{Lane}
use Rattle.sender_turns.specs.declared.Call.{Call as CallStruct}
use Rattle.sender_turns.specs.declared.Sender.{Sender as SenderStruct}
use Rattle.sender_bytes.specs.Bytes.{number_bytes, call_bytes, lane_bytes, out_bytes, sender_length, each, lane_f, call_f, sender_f, read_sender}
use Rattle.sender_bytes.specs.Read.{parts, number_in, lane_in, call_in, sender_in, lane_out, call_out, sender_out}
use Rattle.sender_bytes.proofs.BytesLaws.{Short, Fit, concat_long, get_all, all_join, sender_f_law, ok_settled, ok_numbered, settled_ok}

-- ---- the bytes of a struct that a sender is laid out in

-- the two ways to write a number's bytes
digits_last : (w n : ℕ) → big_endian (suc w) n ≡ big_endian w (n / 256) ++ (n % 256 ∷ [])
digits_last zero n =
    let e : n / 256 ^ 0 ≡ n = ap (λ (m : ℕ). n / m) (pow-zero 256) ∙ div-one n in
    ap (λ (m : ℕ). m % 256 ∷ []) e
digits_last (suc w) n =
    let e : n / 256 ^ suc w ≡ n / 256 / 256 ^ w = ap (λ (m : ℕ). n / m) (pow-suc 256 w ∙ mul_comm (256 ^ w) 256) ∙ sym (div-div-eq-div-mul n 256 (256 ^ w)) in
    ap₂ (λ (d : ℕ) (l : List ℕ). d % 256 ∷ l) e (digits_last w n)

pub to_digits : (w n : ℕ) → to_be w n ≡ big_endian w n
unfolding to_be
to_digits zero n = refl
to_digits (suc w) n = ap (λ (l : List ℕ). l ++ (n % 256 ∷ [])) (to_digits w (n / 256)) ∙ sym (digits_last w n)

module _ {A : Type 0} (out : A → List ℕ) where
  concat_append : (xs ys : List A) → concat_map out (xs ++ ys) ≡ concat_map out xs ++ concat_map out ys
  concat_append [] ys = refl
  concat_append (a ∷ xs) ys = rw (concat_append xs ys) (sym (append_assoc (out a) (concat_map out xs) (concat_map out ys)))

  -- so many values of zeros
  concat_zeros : (a : A) (width : ℕ) → out a ≡ zeros width → (n : ℕ) → concat_map out (replicate n a) ≡ zeros (n * width)
  concat_zeros a width e zero = ap zeros (sym (zero-mul width))
  concat_zeros a width e (suc n) =
      let m : suc n * width ≡ width + n * width = omega arith in
      rw (m, e, concat_zeros a width e n) (replicate-append-replicate width (n * width) 0)

  concat_map_lem : {B : Type 0} (enc : B → List ℕ) (of : B → A) (P : B → Type 0) → ((b : B) → P b → out (of b) ≡ enc b) → (xs : List B) → All P xs
      → concat_map out (map of xs) ≡ concat_map enc xs
  concat_map_lem enc of P k [] h = refl
  concat_map_lem enc of P k (b ∷ xs) h = ap₂ ◌++◌ (k b h.0) (concat_map_lem enc of P k xs h.1)

all_unit : {A : Type 0} (xs : List A) → All (λ a. Unit {0}) xs
all_unit [] = tt
all_unit (a ∷ xs) = (tt, all_unit xs)

-- a table's bytes: the count, the values, and such values as have only zeros
module _ {A B : Type 0} (f : Format A) (out : B → List ℕ) (of : A → B) (no : B) (limit width : ℕ) where
  rows_enc : ((a : A) → out (of a) ≡ f.enc a) → ((a : A) → length (f.enc a) ≡ width) → out no ≡ zeros width → (xs : List A) → length xs ≤ limit
      → length xs ∷ concat_map out (map of xs ++ replicate (limit - length xs) no) ≡ (table limit width f).enc xs
  unfolding table padded list
  rows_enc k w z xs h =
      let n : ℕ = limit - length xs in
      let body : List ℕ = concat_map f.enc xs in
      let l : length body ≡ length xs * width = concat_long f.enc (λ a. Unit {0}) width (λ a t. w a) xs (all_unit xs) in
      let c : limit ≡ length xs + n = omega arith in
      let m : limit * width ≡ length xs * width + n * width = ap (λ (m : ℕ). m * width) c ∙ add-mul (length xs) n width in
      let e : n * width ≡ 1 + limit * width - suc (length body) = omega arith in
      ap (λ (s : List ℕ). length xs ∷ s) (concat_append out (map of xs) (replicate n no)
      ∙ ap₂ ◌++◌ (concat_map_lem out f.enc of (λ a. Unit {0}) (λ a t. k a) xs (all_unit xs)) (concat_zeros out no width z n ∙ ap zeros e))

lane_enc : (l : List ℕ) → Short l → lane_out (lane_of l) ≡ lane_f.enc l
unfolding lane_out lane_of lane_f number to_be
lane_enc l h =
    ap (λ (x : List ℕ). length l ∷ concat_map (to_be number_bytes) (x ++ replicate (lane_size - length l) 0)) (sym (map-id l))
    ∙ rows_enc u64 (to_be number_bytes) (λ (n : ℕ). n) 0 lane_size number_bytes (to_digits number_bytes) (length_digits number_bytes) refl l h

out_rows : (out : List Call) → length out ≤ calls → length out ∷ concat_map call_out (calls_of out) ≡ (table calls call_bytes call_f).enc out
unfolding calls_of call_out call_of call_f ◌⊗◌ below number to_be
out_rows = rows_enc call_f call_out call_of no_call calls call_bytes (λ c. ap (λ (s : List ℕ). c.0 ∷ s) (to_digits number_bytes c.1))
    (λ c. ap suc (length_digits number_bytes c.1)) refl

pub out_enc : (s : Sender) → Settled s → sender_out (laid_out s) ≡ sender_f.enc s
unfolding sender_out laid_out sender_f such via each ◌⊗◌ below lane
out_enc s k =
    ap₂ ◌++◌ (concat_map_lem lane_out lane_f.enc lane_of Short lane_enc s.lanes (get_all Short [] s.lanes k.short))
    (ap (λ (x : List ℕ). x ++ s.turn ∷ []) (out_rows s.out k.within))

-- ---- a struct out of bytes, and its bytes again

module _ {A : Type 0} (width : ℕ) (value : List ℕ → A) where
  parts_out : (out : A → List ℕ) → ((b : List ℕ) → width ≤ length b → Bytes b → out (value b) ≡ take width b) → (n : ℕ) (b : List ℕ) → n * width ≤ length b → Bytes b
      → concat_map out (parts width value n b) ≡ take (n * width) b
  unfolding parts
  parts_out out k zero b l h = ap (λ (m : ℕ). take m b) (sym (zero-mul width))
  parts_out out k (suc n) b l h =
      let m : suc n * width ≡ width + n * width = omega arith in
      let r : n * width ≤ length (drop width b) = simp length-drop (omega arith) in
      rw (m, take-add width (n * width) b, k b (omega arith) h, parts_out out k n (drop width b) r (bytes_drop width b h))

  parts_in : (out : A → List ℕ) (P : A → Type 0) → ((a : A) → P a → length (out a) ≡ width) → ((a : A) → P a → (t : List ℕ) → value (out a ++ t) ≡ a)
      → (xs : List A) → All P xs → (t : List ℕ) → parts width value (length xs) (concat_map out xs ++ t) ≡ xs
  unfolding parts
  parts_in out P w k [] h t = refl
  parts_in out P w k (a ∷ xs) h t =
      let rest : List ℕ = concat_map out xs ++ t in
      rw (append_assoc, k a h.0 rest, drop_at (out a) rest width (w a h.0), parts_in out P w k xs h.1 t)

  parts_all : (P : A → Type 0) → ((b : List ℕ) → Bytes b → P (value b)) → (n : ℕ) (b : List ℕ) → Bytes b → All P (parts width value n b)
  unfolding parts
  parts_all P k zero b h = tt
  parts_all P k (suc n) b h = (k b h, parts_all P k n (drop width b) (bytes_drop width b h))

number_back : (b : List ℕ) → number_bytes ≤ length b → Bytes b → to_be number_bytes (number_in b) ≡ take number_bytes b
unfolding number_in
number_back b l h = to_from number_bytes (take number_bytes b) (length-take-le number_bytes b l) (bytes_take number_bytes b h)

number_there : (n : ℕ) → Fit n → (t : List ℕ) → number_in (to_be number_bytes n ++ t) ≡ n
unfolding number_in
number_there n h t = ap (from_be 0) (take_at (to_be number_bytes n) t number_bytes (length_to number_bytes n)) ∙ from_to number_bytes n h

number_fits : (b : List ℕ) → Bytes b → Fit (number_in b)
unfolding number_in
number_fits b h =
    let c : List ℕ = take number_bytes b in
    let l : length c ≤ number_bytes = rw length-take (min-le_left number_bytes (length b)) in
    let e : 0 + length c ≡ length c = omega arith in
    let f : from_be 0 c < 256 ^ (0 + length c) = from_bound 0 c 0 (bytes_take number_bytes b h) (omega arith) in
    let p : 256 ^ length c ≤ 256 ^ number_bytes = pow-le-pow_right {n = 256} (omega arith) {i = length c} {j = number_bytes} l in
    let g : from_be 0 c < 256 ^ length c = rw e at f in
    omega arith

-- one byte and then these
head_back : (b : List ℕ) (k : ℕ) → suc k ≤ length b → get_or b 0 0 ∷ take k (drop 1 b) ≡ take (suc k) b
head_back b k l = ap (λ (x : List ℕ). take (suc k) x) (sym (drop-cons b 0 0 (omega arith)))

lane_back : (b : List ℕ) → lane_bytes ≤ length b → Bytes b → lane_out (lane_in b) ≡ take lane_bytes b
unfolding lane_out lane_in
lane_back b l h =
    let r : lane_size * number_bytes ≤ length (drop 1 b) = simp length-drop (omega arith) in
    ap (λ (x : List ℕ). get_or b 0 0 ∷ x) (parts_out number_bytes number_in (to_be number_bytes) number_back lane_size (drop 1 b) r (bytes_drop 1 b h))
    ∙ head_back b (lane_size * number_bytes) l

call_back : (b : List ℕ) → call_bytes ≤ length b → Bytes b → call_out (call_in b) ≡ take call_bytes b
unfolding call_out call_in
call_back b l h =
    let r : number_bytes ≤ length (drop 1 b) = simp length-drop (omega arith) in
    ap (λ (x : List ℕ). get_or b 0 0 ∷ x) (number_back (drop 1 b) r (bytes_drop 1 b h)) ∙ head_back b number_bytes l

-- bytes cut at m: what is before, a byte, k bytes, and the last
cut_back : (b : List ℕ) (m k : ℕ) → length b ≡ m + (1 + k + 1) → take m b ++ (get_or b m 0 ∷ (take k (drop (m + 1) b) ++ (get_or b (m + (1 + k)) 0 ∷ []))) ≡ b
cut_back b m k l =
    let c : List ℕ = drop (suc m) b in
    let n : length c ≡ suc k = rw length-drop (omega arith) in
    let i : m + (1 + k) ≡ suc m + k = omega arith in
    let z : get_or b (m + (1 + k)) 0 ≡ get_or c k 0 = ap (λ (j : ℕ). get_or b j 0) i ∙ sym (get_or-drop (suc m) b k 0) in
    let e : take k c ++ (get_or c k 0 ∷ []) ≡ c = sym (take-suc c k 0 (omega arith)) ∙ take_all (suc k) c (omega arith) in
    let f : take k (drop (m + 1) b) ++ (get_or b (m + (1 + k)) 0 ∷ []) ≡ c = rw (add-one m, z) e in
    ap (λ (x : List ℕ). take m b ++ (get_or b m 0 ∷ x)) f ∙ ap (λ (x : List ℕ). take m b ++ x) (sym (drop-cons b m 0 (omega arith))) ∙ take-append-drop m b

pub out_in : (b : List ℕ) → length b ≡ sender_length → Bytes b → sender_out (sender_in b) ≡ b
unfolding sender_out sender_in
out_in b l h =
    let r : mills * lane_bytes ≤ length b = omega arith in
    let q : calls * call_bytes ≤ length (drop (mills * lane_bytes + 1) b) = simp length-drop (omega arith) in
    ap₂ (λ (x y : List ℕ). x ++ (get_or b (mills * lane_bytes) 0 ∷ (y ++ (get_or b (mills * lane_bytes + out_bytes) 0 ∷ []))))
    (parts_out lane_bytes lane_in lane_out lane_back mills b r h)
    (parts_out call_bytes call_in call_out call_back calls (drop (mills * lane_bytes + 1) b) q (bytes_drop (mills * lane_bytes + 1) b h))
    ∙ cut_back b (mills * lane_bytes) (calls * call_bytes) l

-- ---- a struct's bytes, and the struct again

-- a lane with all its places, each number fitting its bytes: what the bytes can hold
record Whole (l : Lane) : Type 0 where
  long : length l.numbers ≡ lane_size
  fit : All Fit l.numbers

abbrev CallFits : CallStruct → Type 0
CallFits c = Fit c.number

lane_long : (l : Lane) → Whole l → length (lane_out l) ≡ lane_bytes
unfolding lane_out
lane_long l w = ap suc (concat_long (to_be number_bytes) Fit number_bytes (λ n h. length_to number_bytes n) l.numbers w.fit ∙ ap (λ (k : ℕ). k * number_bytes) w.long)

call_long : (c : CallStruct) → CallFits c → length (call_out c) ≡ call_bytes
unfolding call_out
call_long c h = ap suc (length_to number_bytes c.number)

lane_there : (l : Lane) → Whole l → (t : List ℕ) → lane_in (lane_out l ++ t) ≡ l
unfolding lane_in lane_out
lane_there l w t =
    let e : parts number_bytes number_in lane_size (concat_map (to_be number_bytes) l.numbers ++ t) ≡ l.numbers =
    rw (← w.long) (parts_in number_bytes number_in (to_be number_bytes) Fit (λ n h. length_to number_bytes n) number_there l.numbers w.fit t) in
    ap (λ (x : List ℕ). record { numbers = x; count = l.count }) e

call_there : (c : CallStruct) → CallFits c → (t : List ℕ) → call_in (call_out c ++ t) ≡ c
unfolding call_in call_out
call_there c h t = ap (λ (n : ℕ). record { mill = c.mill; number = n }) (number_there c.number h t)

record WholeSender (x : SenderStruct) : Type 0 where
  eight : length x.lanes ≡ mills
  lanes : All Whole x.lanes
  four : length x.calls ≡ calls
  fit : All CallFits x.calls

-- what stands where in bytes that are put together so
module _ (a c : List ℕ) (y z m k : ℕ) (la : length a ≡ m) (lc : length c ≡ k) where
  byte_at : get_or (a ++ (y ∷ (c ++ (z ∷ [])))) m 0 ≡ y
  byte_at = get_or_at a y (c ++ (z ∷ [])) 0 m la

  rest_at : drop (m + 1) (a ++ (y ∷ (c ++ (z ∷ [])))) ≡ c ++ (z ∷ [])
  rest_at = rw (← la) (drop-append-add a (y ∷ (c ++ (z ∷ []))) 1)

  last_at : get_or (a ++ (y ∷ (c ++ (z ∷ [])))) (m + (1 + k)) 0 ≡ z
  last_at = rw (← la) (get_or-append-add a (y ∷ (c ++ (z ∷ []))) (1 + k) 0 ∙ get_or_at (y ∷ c) z [] 0 (1 + k) (omega arith))

struct_is : (x : SenderStruct) (lanes : List Lane) (held : List CallStruct) (out turn : ℕ) → lanes ≡ x.lanes → held ≡ x.calls → out ≡ x.out → turn ≡ x.turn
    → ◌≡◌ {A = SenderStruct} (record { lanes = lanes; calls = held; out = out; turn = turn }) x
struct_is x lanes held out turn p q o t = rw (p, q, o, t)

in_out : (x : SenderStruct) → WholeSender x → sender_in (sender_out x) ≡ x
unfolding sender_in sender_out
in_out x w =
    let a : List ℕ = concat_map lane_out x.lanes in
    let c : List ℕ = concat_map call_out x.calls in
    let la : length a ≡ mills * lane_bytes = concat_long lane_out Whole lane_bytes lane_long x.lanes w.lanes ∙ ap (λ (n : ℕ). n * lane_bytes) w.eight in
    let lc : length c ≡ calls * call_bytes = concat_long call_out CallFits call_bytes call_long x.calls w.fit ∙ ap (λ (n : ℕ). n * call_bytes) w.four in
    let b : List ℕ = a ++ (x.out ∷ (c ++ (x.turn ∷ []))) in
    let p : parts lane_bytes lane_in mills b ≡ x.lanes =
    rw (← w.eight) (parts_in lane_bytes lane_in lane_out Whole lane_long lane_there x.lanes w.lanes (x.out ∷ (c ++ (x.turn ∷ [])))) in
    let q : parts call_bytes call_in calls (drop (mills * lane_bytes + 1) b) ≡ x.calls =
    ap (parts call_bytes call_in calls) (rest_at a c x.out x.turn (mills * lane_bytes) (calls * call_bytes) la lc)
    ∙ rw (← w.four) (parts_in call_bytes call_in call_out CallFits call_long call_there x.calls w.fit (x.turn ∷ [])) in
    let o : get_or b (mills * lane_bytes) 0 ≡ x.out = byte_at a c x.out x.turn (mills * lane_bytes) (calls * call_bytes) la lc in
    let t : get_or b (mills * lane_bytes + out_bytes) 0 ≡ x.turn = last_at a c x.out x.turn (mills * lane_bytes) (calls * call_bytes) la lc in
    struct_is x _ _ _ _ p q o t

-- ---- a sender's struct

module _ {A : Type 0} (P : A → Type 0) where
  replicate_all : (a : A) → P a → (n : ℕ) → All P (replicate n a)
  replicate_all a h zero = tt
  replicate_all a h (suc n) = (h, replicate_all a h n)

  all_front : (l k : List A) → All P (l ++ k) → All P l
  all_front [] k h = tt
  all_front (x ∷ l) k h = (h.0, all_front l k h.1)

  map_all : {B : Type 0} (f : B → A) (l : List B) → All (λ b. P (f b)) l → All P (map f l)
  map_all f [] h = tt
  map_all f (x ∷ l) h = (h.0, map_all f l h.1)

  all_map : {B : Type 0} (f : B → A) (l : List B) → All P (map f l) → All (λ b. P (f b)) l
  all_map f [] h = tt
  all_map f (x ∷ l) h = (h.0, all_map f l h.1)

-- places up to n, those past the list filled
filled_long : {A : Type 0} (l : List A) (a : A) (n : ℕ) → length l ≤ n → length (l ++ replicate (n - length l) a) ≡ n
filled_long l a n h = length-append l (replicate (n - length l) a) ∙ ap (λ (k : ℕ). length l + k) (length-replicate (n - length l) a) ∙ omega arith

lane_whole : (l : List ℕ) → Short l → All Fit l → Whole (lane_of l)
unfolding lane_of
lane_whole l h f = record {
  long = filled_long l 0 lane_size h;
  fit = all_append Fit l (replicate (lane_size - length l) 0) f (replicate_all Fit 0 (omega arith) (lane_size - length l));
}

laid_whole : (s : Sender) → Settled s → Numbered (256 ^ number_bytes) s → WholeSender (laid_out s)
unfolding laid_out calls_of call_of lane
laid_whole s k n =
    let out : List CallStruct = map call_of s.out in
    let l : length out ≡ length s.out = length-map s.out call_of in
    record {
      eight = length-map s.lanes lane_of ∙ k.eight;
      lanes = map_all Whole lane_of s.lanes (all_join Short (All Fit) (λ l. Whole (lane_of l)) lane_whole s.lanes (get_all Short [] s.lanes k.short) n.waiting);
      four = ap (λ (m : ℕ). length (out ++ replicate (calls - m) no_call)) (sym l) ∙ filled_long out no_call calls (rw l k.within);
      fit = all_append CallFits out (replicate (calls - length s.out) no_call) (map_all CallFits call_of s.out n.out)
          (replicate_all CallFits no_call (omega arith) (calls - length s.out));
    }

pub in_enc : (s : Sender) → sender_f.Ok s → sender_in (sender_f.enc s) ≡ laid_out s
in_enc s ok =
    let k = ok_settled s ok in
    ap sender_in (sym (out_enc s k)) ∙ in_out (laid_out s) (laid_whole s k (ok_numbered s ok))

pub numbered_in : (b : List ℕ) (s : Sender) → Bytes b → sender_in b ≡ laid_out s → Numbered (256 ^ number_bytes) s
unfolding sender_in laid_out lane_in lane_of call_in call_of calls_of
numbered_in b s h e =
    let lanes : parts lane_bytes lane_in mills b ≡ map lane_of s.lanes = ap (λ (x : SenderStruct). x.lanes) e in
    let rest : List ℕ = drop (mills * lane_bytes + 1) b in
    let out : parts call_bytes call_in calls rest ≡ map call_of s.out ++ replicate (calls - length s.out) no_call = ap (λ (x : SenderStruct). x.calls) e in
    let fit : (b : List ℕ) → Bytes b → All Fit (lane_in b).numbers = λ b h. parts_all number_bytes number_in Fit number_fits lane_size (drop 1 b) (bytes_drop 1 b h) in
    let p : All (λ l. All Fit l.numbers) (map lane_of s.lanes) = rw lanes at (parts_all lane_bytes lane_in (λ l. All Fit l.numbers) fit mills b h) in
    let q : All CallFits (map call_of s.out ++ replicate (calls - length s.out) no_call) =
    rw out at (parts_all call_bytes call_in CallFits (λ b h. number_fits (drop 1 b) (bytes_drop 1 b h)) calls rest (bytes_drop (mills * lane_bytes + 1) b h)) in
    record {
      waiting = all_weaken (λ l. All Fit (lane_of l).numbers) (All Fit) (λ l. all_front Fit l (replicate (lane_size - length l) 0)) s.lanes
          (all_map (λ l. All Fit l.numbers) lane_of s.lanes p);
      out = all_map CallFits call_of s.out (all_front CallFits (map call_of s.out) (replicate (calls - length s.out) no_call) q);
    }

-- ---- reading

pub read_yes : (b : List ℕ) (s : Sender) → length b ≡ sender_length → Bytes b → Settled s → sender_in b ≡ laid_out s → (read_sender b ≡ Some s) × (b ≡ sender_f.enc s)
unfolding read_sender
read_yes b s l h k e =
    let is : b ≡ sender_f.enc s = sym (out_in b l h) ∙ ap sender_out e ∙ out_enc s k in
    (whole_dec sender_f_law b s (settled_ok s k (numbered_in b s h e)) is, is)

pub read_is : (b : List ℕ) (s : Sender) → read_sender b ≡ Some s → Settled s × (sender_in b ≡ laid_out s) × (b ≡ sender_f.enc s)
unfolding read_sender
read_is b s e =
    let w = whole_enc sender_f_law b s e in
    (ok_settled s w.0, ap sender_in w.1 ∙ in_enc s w.0, w.1)
