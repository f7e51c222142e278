-- Laws of a sender's buffer: an array filled from parts of it, one after the other; parts written into it one after the other; all of it written. Assumes nothing.
use Rattle.std.specs.Fn.{Called}
use Rattle.std.specs.Array.{IsFromFnResultFrom, IsFromFnResult}
use Rattle.std.proofs.lemmas.List.{drop_more, drop_all}
use denote.Param.Members.{Mut}
use Prim.Native.Nat.{ℕ, zero, suc, ◌+◌, ◌-◌, ◌*◌, ◌≤◌, ◌<◌}
use native.Mathlib.Nat.{le_of_suc-le-suc, not-suc-le-zero, suc-mul}
use native.Mathlib.Numerals.{add-one}
use native.Mathlib.Omega.{arith}
use mathlib.Core.Path.{◌≡◌, refl, sym, ap, ◌∙◌, subst}
use mathlib.Core.List.{List, [], ◌∷◌, ◌++◌, map, append_assoc, append-nil}
use lib.ListN.{length, get_or, set, take, drop, replicate, length-append, length-drop, length-replicate, length-map, take-append-drop, drop_of_length-le}
use lib.Seq.{take_at, drop_at, drop-drop, set_split, length-take-le, get_or-drop}
use Rattle.format.specs.Format.{All, concat_map}
use Rattle.numbers.specs.Big.{from_be, to_be}
use Rattle.numbers.proofs.Laws.{length_to}
use Rattle.sender_turns.specs.Sender.{mills, calls, lane_size, lane}
use Rattle.sender_turns.specs.Laid.{lane_of, call_of, no_call, calls_of, laid_out}
use Rattle.sender_turns.specs.declared.Lane.{Lane}
use Rattle.sender_turns.specs.declared.Call.{Call as CallStruct}
use Rattle.sender_turns.specs.declared.Sender.{Sender as SenderStruct}
use Rattle.sender_bytes.specs.Bytes.{number_bytes, call_bytes, lane_bytes, out_bytes, sender_length}
use Rattle.sender_bytes.specs.Read.{parts, number_in, lane_in, call_in, sender_in, lane_out, call_out, sender_out, with_at, IsSender}

next_place : (i width : ℕ) → i * width + width ≡ (i + 1) * width
next_place i width = rw (add-one i, suc-mul i width) (omega arith)

-- ---- reading

-- an array whose places a closure makes, each from the part of the bytes there
module _ {F A : Type 0} (g : Mut F (ℕ × Unit {0}) A) (width : ℕ) (value : List ℕ → A) (b : List ℕ) (f : F)
    (place : ℕ → ℕ) (next : (i : ℕ) → place (i + 1) ≡ place i + width)
    (reads : (i : ℕ) (y : A) (q : F) → Called g f (i, tt) y q → (q ≡ f) × (y ≡ value (drop (place i) b))) where
  made_from : (n i : ℕ) (q : F) (l : List A) → q ≡ f → IsFromFnResultFrom g q l i n → length l ≡ i + n → drop i l ≡ parts width value n (drop (place i) b)
  unfolding parts
  made_from zero i q l same each e = drop_all i l (omega arith)
  made_from (suc n) i q l same each e =
      let r = reads i each.1 each.0 (subst (λ (p : F). Called g p (i, tt) each.1 each.0) same each.3) in
      let more = made_from n (i + 1) each.0 l r.0 each.4 (omega arith) in
      let cut : drop i l ≡ each.1 ∷ drop (i + 1) l = drop_more l i each.1 (omega arith) ∙ ap (λ y. y ∷ drop (i + 1) l) (each.2.1 each.1) in
      rw (cut, more, r.1, drop-drop width (place i) b, next i)

  pub made : (n : ℕ) (l : List A) → IsFromFnResult g f l n → l ≡ parts width value n (drop (place 0) b)
  made n l m = made_from n 0 f l refl m.each (omega (arith, m.long))

byte_at : (at : ℕ) (b : List ℕ) → get_or b at 0 ≡ get_or (drop at b) 0 0
byte_at at b = let e : at + 0 ≡ at = omega arith in sym (get_or-drop at b 0 0 ∙ ap (λ (i : ℕ). get_or b i 0) e)

pub lane_is : (at : ℕ) (b numbers : List ℕ) (count : ℕ) → numbers ≡ parts number_bytes number_in lane_size (drop (at + 1 + 0 * number_bytes) b) → count ≡ get_or b at 0
    → ◌≡◌ {A = Lane} (record { numbers = numbers; count = count }) (lane_in (drop at b))
unfolding lane_in
lane_is at b numbers count e f = let z : at + 1 + 0 * number_bytes ≡ at + 1 = omega arith in rw (e, z, f, byte_at at b, drop-drop 1 at b)

pub call_is : (at : ℕ) (b : List ℕ) (number : ℕ) → number ≡ from_be 0 (take number_bytes (drop (at + 1) b))
    → ◌≡◌ {A = CallStruct} (record { mill = get_or b at 0; number = number }) (call_in (drop at b))
unfolding call_in number_in
call_is at b number e = rw (byte_at at b, drop-drop 1 at b, e)

pub sender_is : (b : List ℕ) (lanes : List Lane) (held : List CallStruct) (out turn : ℕ) → lanes ≡ parts lane_bytes lane_in mills b
    → held ≡ parts call_bytes call_in calls (drop (mills * lane_bytes + 1) b) → out ≡ get_or b (mills * lane_bytes) 0 → turn ≡ get_or b (mills * lane_bytes + out_bytes) 0
    → ◌≡◌ {A = SenderStruct} (record { lanes = lanes; calls = held; out = out; turn = turn }) (sender_in b)
unfolding sender_in
sender_is b lanes held out turn l c o t = rw (l, c, o, t)

-- ---- writing

-- one part, and another behind it
with_two : (at : ℕ) (p q b : List ℕ) (next : ℕ) → at ≤ length b → next ≡ at + length p → with_at next q (with_at at p b) ≡ with_at at (p ++ q) b
with_two at p q b next h e =
    let t : length (take at b) ≡ at = length-take-le at b h in
    let tp : length (take at b ++ p) ≡ next = length-append (take at b) p ∙ omega arith in
    let rest : List ℕ = drop (at + length p) b in
    let whole : take at b ++ (p ++ rest) ≡ (take at b ++ p) ++ rest = sym (append_assoc (take at b) p rest) in
    let far : at + length p + length q ≡ at + length (p ++ q) = rw (length-append p q) (omega arith) in
    let back : drop (next + length q) ((take at b ++ p) ++ rest) ≡ drop (length q) rest = rw (← drop-drop (length q) next ((take at b ++ p) ++ rest), drop_at (take at b ++ p) rest next tp) in
    rw (whole, take_at (take at b ++ p) rest next tp, back, drop-drop (length q) (at + length p) b, far, append_assoc (take at b) p, append_assoc p q)

-- no part
with_none : (at : ℕ) (b : List ℕ) → with_at at [] b ≡ b
with_none at b = let e : at + 0 ≡ at = omega arith in rw e (take-append-drop at b)

-- one byte
with_byte : (at x : ℕ) (b : List ℕ) → at < length b → set b at x ≡ with_at at (x ∷ []) b
with_byte at x b h = rw (add-one at) (set_split b at x h)

pub with_number : (at n : ℕ) (b d : List ℕ) → d ≡ take at b ++ (to_be number_bytes n ++ drop (at + number_bytes) b) → d ≡ with_at at (to_be number_bytes n) b
with_number at n b d e = rw (length_to number_bytes n) e

with_long : (at : ℕ) (p b : List ℕ) → at + length p ≤ length b → length (with_at at p b) ≡ length b
with_long at p b h =
    simp (length-append, length-drop) (let t : length (take at b) ≡ at = length-take-le at b (omega arith) in omega arith)

-- the first i of the values are written from `from` on; the others are what is left to do
pub record Written {A : Type 0} (width : ℕ) (out : A → List ℕ) (xs : List A) (from : ℕ) (b d : List ℕ) (i : ℕ) : Type 0 where
  pub long : length d ≡ length b
  pub is : with_at (from + i * width) (concat_map out (drop i xs)) d ≡ with_at from (concat_map out xs) b

module _ {A : Type 0} (width : ℕ) (out : A → List ℕ) (xs : List A) (from : ℕ) (b : List ℕ) where
  pub write_start : Written width out xs from b b 0
  write_start = let e : from + 0 * width ≡ from = omega arith in record { long = refl; is = rw e }

  pub write_turn : (d : List ℕ) (i : ℕ) (z : A) (d' : List ℕ) → Written width out xs from b d i → i < length xs → length (out (get_or xs i z)) ≡ width → from + i * width + width ≤ length d
      → d' ≡ with_at (from + i * width) (out (get_or xs i z)) d → Written width out xs from b d' (i + 1)
  write_turn d i z d' w h n r e =
      let at : ℕ = from + i * width in
      let rest : List ℕ = concat_map out (drop (i + 1) xs) in
      let cut : drop i xs ≡ get_or xs i z ∷ drop (i + 1) xs = drop_more xs i z h in
      let next : from + (i + 1) * width ≡ at + width = omega (arith, next_place i width) in
      let more : with_at (at + width) rest d' ≡ with_at at (concat_map out (drop i xs)) d = rw (e, cut) (with_two at (out (get_or xs i z)) rest d (at + width) (omega arith) (omega arith)) in
      record {
        long = rw e (with_long at (out (get_or xs i z)) d (omega arith)) ∙ w.long;
        is = rw next (more ∙ w.is);
      }

  pub write_end : (d : List ℕ) (i : ℕ) → Written width out xs from b d i → length xs ≤ i → d ≡ with_at from (concat_map out xs) b
  write_end d i w h =
      let done : with_at (from + i * width) (concat_map out (drop i xs)) d ≡ d = rw (drop_all i xs h) (with_none (from + i * width) d) in
      sym done ∙ w.is

-- a byte, and a part behind it
behind_byte : (at x : ℕ) (p b : List ℕ) → at < length b → with_at (at + 1) p (set b at x) ≡ with_at at (x ∷ p) b
behind_byte at x p b h = rw (with_byte at x b h) (with_two at (x ∷ []) p b (at + 1) (omega arith) (omega arith))

pub call_long : (call : CallStruct) → length (call_out call) ≡ call_bytes
unfolding call_out
call_long call = ap suc (length_to number_bytes call.number)

pub put_call_is : (at : ℕ) (call : CallStruct) (b d : List ℕ) → at + call_bytes ≤ length b
    → d ≡ take (at + 1) (set b at call.mill) ++ (to_be number_bytes call.number ++ drop (at + 1 + number_bytes) (set b at call.mill))
    → d ≡ with_at at (call_out call) b
unfolding call_out
put_call_is at call b d h e =
    with_number (at + 1) call.number (set b at call.mill) d e ∙ behind_byte at call.mill (to_be number_bytes call.number) b (omega arith)

-- the numbers are written behind the count
pub put_lane_is : (at : ℕ) (lane : Lane) (b d : List ℕ) → at < length b → d ≡ with_at (at + 1) (concat_map (to_be number_bytes) lane.numbers) (set b at lane.count)
    → d ≡ with_at at (lane_out lane) b
unfolding lane_out
put_lane_is at lane b d h e = e ∙ behind_byte at lane.count (concat_map (to_be number_bytes) lane.numbers) b h

all_of : {A : Type 0} (P : A → Type 0) (xs : List A) → ((x : A) → P x) → All P xs
all_of P [] h = tt
all_of P (x ∷ xs) h = (h x, all_of P xs h)

all_if : {A : Type 0} (P Q : A → Type 0) (xs : List A) → ((x : A) → P x → Q x) → All P xs → All Q xs
all_if P Q [] h a = tt
all_if P Q (x ∷ xs) h a = (h x a.0, all_if P Q xs h a.1)

pub all_at : {A : Type 0} (P : A → Type 0) (xs : List A) (i : ℕ) (z : A) → All P xs → i < length xs → P (get_or xs i z)
all_at P [] i z a h = absurd (not-suc-le-zero h)
all_at P (x ∷ xs) zero z a h = a.0
all_at P (x ∷ xs) (suc i) z a h = all_at P xs i z a.1 (le_of_suc-le-suc h)

concat_long : {A : Type 0} (width : ℕ) (out : A → List ℕ) (xs : List A) → All (λ x. length (out x) ≡ width) xs → length (concat_map out xs) ≡ length xs * width
concat_long width out [] a = omega arith
concat_long width out (x ∷ xs) a =
    length-append (out x) (concat_map out xs) ∙ rw (a.0, concat_long width out xs a.1, suc-mul (length xs) width) (omega arith)

-- a lane whose bytes fit
abbrev pub LaneFits : Lane → Type 0
LaneFits l = (l.count ≤ lane_size) × (length l.numbers ≡ lane_size)

pub lane_long : (l : Lane) → LaneFits l → length (lane_out l) ≡ lane_bytes
unfolding lane_out
lane_long l h =
    omega (arith, concat_long number_bytes (to_be number_bytes) l.numbers (all_of (λ n. length (to_be number_bytes n) ≡ number_bytes) l.numbers (length_to number_bytes)))

-- ---- the whole buffer

with_all : (p b : List ℕ) → length b ≡ length p → with_at 0 p b ≡ p
with_all p b h =
    let none : drop (0 + length p) b ≡ [] = drop_of_length-le b {i = 0 + length p} (omega arith) in
    rw none (append-nil p)

-- a part, a byte, a part and a byte, where the buffer has no place more
four_parts : (l c b d₁ d₃ : List ℕ) (o t m k : ℕ) → length l ≡ m → length c ≡ k → length b ≡ m + (1 + k + 1) → d₁ ≡ with_at 0 l b → d₃ ≡ with_at (m + 1) c (set d₁ m o)
    → set d₃ (m + (1 + k)) t ≡ l ++ (o ∷ c ++ t ∷ [])
four_parts l c b d₁ d₃ o t m k lm ck bn e₁ e₃ =
    let front : List ℕ = l ++ (o ∷ c) in
    let far : length front ≡ m + (1 + k) = length-append l (o ∷ c) ∙ omega arith in
    let long₁ : length d₁ ≡ length b = rw e₁ (with_long 0 l b (omega arith)) in
    let two : d₃ ≡ with_at m (o ∷ c) d₁ = e₃ ∙ behind_byte m o c d₁ (omega arith) in
    let three : d₃ ≡ with_at 0 front b = two ∙ rw e₁ (with_two 0 l (o ∷ c) b m (omega arith) (omega arith)) in
    let long₃ : length d₃ ≡ length b = rw three (with_long 0 front b (omega arith)) in
    let last : set d₃ (m + (1 + k)) t ≡ with_at (m + (1 + k)) (t ∷ []) d₃ = with_byte (m + (1 + k)) t d₃ (omega arith) in
    let four : set d₃ (m + (1 + k)) t ≡ with_at 0 (front ++ t ∷ []) b = last ∙ rw three (with_two 0 front (t ∷ []) b (m + (1 + k)) (omega arith) (omega arith)) in
    let whole : length b ≡ length (front ++ t ∷ []) = rw (length-append front (t ∷ [])) (omega arith) in
    four ∙ with_all (front ++ t ∷ []) b whole ∙ append_assoc l (o ∷ c) (t ∷ [])

-- ---- what a sender's struct has

lane_fits : (l : List ℕ) → length l ≤ lane_size → LaneFits (lane_of l)
unfolding lane_of
lane_fits l h =
    let zeros : List ℕ = replicate (lane_size - length l) 0 in
    let rest : length zeros ≡ lane_size - length l = length-replicate {A = ℕ} (lane_size - length l) 0 in
    (h, length-append l zeros ∙ omega arith)

all_fit : (lanes : List (List ℕ)) → ((mill : ℕ) → length (lane mill lanes) ≤ lane_size) → All LaneFits (map lane_of lanes)
unfolding lane
all_fit [] h = tt
all_fit (l ∷ lanes) h = (lane_fits l (h 0), all_fit lanes (λ m. h (suc m)))

pub lanes_fit : (x : SenderStruct) → IsSender x → All LaneFits x.lanes
unfolding laid_out
lanes_fit x w = rw w.is (all_fit w.sender.lanes w.settled.short)

lanes_eight : (x : SenderStruct) → IsSender x → length x.lanes ≡ mills
unfolding laid_out
lanes_eight x w = rw w.is (length-map w.sender.lanes lane_of ∙ w.settled.eight)

calls_four : (x : SenderStruct) → IsSender x → length x.calls ≡ calls
unfolding laid_out calls_of
calls_four x w =
    let out = w.sender.out in
    let rest : length (replicate (calls - length out) no_call) ≡ calls - length out = length-replicate (calls - length out) no_call in
    rw (w.is, length-append (map call_of out) (replicate (calls - length out) no_call), length-map out call_of, rest) (omega (arith, w.settled.within))

pub out_fits : (x : SenderStruct) → IsSender x → x.out ≤ calls
unfolding laid_out
out_fits x w = rw w.is w.settled.within

pub turn_fits : (x : SenderStruct) → IsSender x → x.turn < mills
unfolding laid_out
turn_fits x w = rw w.is w.settled.at

pub put_sender_is : (x : SenderStruct) (b d₁ d₃ : List ℕ) → IsSender x → length b ≡ sender_length
    → d₁ ≡ with_at 0 (concat_map lane_out x.lanes) b
    → d₃ ≡ with_at (mills * lane_bytes + 1) (concat_map call_out x.calls) (set d₁ (mills * lane_bytes) x.out)
    → set d₃ (mills * lane_bytes + out_bytes) x.turn ≡ sender_out x
unfolding sender_out
put_sender_is x b d₁ d₃ w n e₁ e₃ =
    let fit : All (λ l. length (lane_out l) ≡ lane_bytes) x.lanes = all_if LaneFits (λ l. length (lane_out l) ≡ lane_bytes) x.lanes lane_long (lanes_fit x w) in
    let l : length (concat_map lane_out x.lanes) ≡ mills * lane_bytes = concat_long lane_bytes lane_out x.lanes fit ∙ ap (λ (m : ℕ). m * lane_bytes) (lanes_eight x w) in
    let each : All (λ c. length (call_out c) ≡ call_bytes) x.calls = all_of (λ c. length (call_out c) ≡ call_bytes) x.calls call_long in
    let c : length (concat_map call_out x.calls) ≡ calls * call_bytes = concat_long call_bytes call_out x.calls each ∙ ap (λ (m : ℕ). m * call_bytes) (calls_four x w) in
    four_parts (concat_map lane_out x.lanes) (concat_map call_out x.calls) b d₁ d₃ x.out x.turn (mills * lane_bytes) (calls * call_bytes) l c n e₁ e₃
