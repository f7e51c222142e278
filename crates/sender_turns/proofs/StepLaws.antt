-- What the functions of this crate cite: each law's premises are what the callees ensure and the branches say. Assumes nothing.
use Rattle.std.specs.Prelude.{Option, Some, None, position, ◌==◌}
use Rattle.std.specs.List.{position_or_len}
use Prim.Native.Nat.{ℕ, zero, suc, ◌+◌, ◌-◌, ◌%◌, ◌≤◌, ◌<◌}
use native.Mathlib.Numerals.{add-one}
use native.Mathlib.Omega.{arith}
use mathlib.Core.Path.{◌≡◌, refl, sym, ap, ◌∙◌}
use mathlib.Core.Bool.{Bool, true, false, not, cond, ◌&&◌}
use mathlib.Core.List.{List, [], ◌∷◌, ◌++◌, map}
use lib.ListN.{length, get_or, set, take, drop, replicate, length-append, length-map}
use lib.Seq.{take_at}
use lib.Dec.{ltb, eqb}
use borrow.Author.Tests.{eq-eqb, ne_eqb}
use Rattle.std.proofs.lemmas.Bool.Decides.{nat_tests}
use Rattle.model.specs.Maps.{when◌then◌else◌, is_empty}
use Rattle.sender_turns.specs.Sender.{Call, Sender, mills, calls, lane_size, lane, after, same_call, rest_of, first_of, next_mill, granted, Told, telling, grants, grant_all, freed}
use Rattle.sender_turns.specs.Laid.{lane_of, call_of, no_call, calls_of, laid_out, one_told}
use Rattle.sender_turns.specs.Steps.{Ready, Found, GrantsTo, Granting, Grants, count_at}
use Rattle.sender_turns.specs.declared.Lane.{Lane}
use Rattle.sender_turns.specs.declared.Call.{Call as CallStruct}
use Rattle.sender_turns.specs.declared.Sender.{Sender as SenderStruct}
use Rattle.sender_turns.proofs.LaidLaws.{number_at, set_lanes, set_calls, turn_of, out_of, lanes_is, calls_is, count_is, lane_in, lane_is, sender_is}
use Rattle.sender_turns.proofs.Settled.{full_idle}

-- ---- the mill after a mill

pub after_last : (mill : ℕ) → mill < mills → mills - 1 ≤ mill → 0 ≡ after mill
unfolding after when◌then◌else◌
after_last mill h l = rw (eq-eqb (mill + 1) mills (omega arith))

pub after_more : (mill : ℕ) → mill < mills - 1 → mill + 1 ≡ after mill
unfolding after when◌then◌else◌
after_more mill h = rw (ne_eqb (mill + 1) mills (λ e. absurd (omega arith)))

-- ---- the mill that is next

-- the answer for all mills is the answer for those left to ask
pub record Asks (self : SenderStruct) (asked : ℕ) : Type 0 where
  pub is : (s : Sender) → Ready s → self ≡ laid_out s → next_mill mills s.turn s.lanes ≡ next_mill (mills - asked) ((self.turn % mills + asked) % mills) s.lanes

pub asks_all : (self : SenderStruct) → Asks self 0
asks_all self = record {
  is = λ s w e.
      let t : (self.turn % mills + 0) % mills ≡ s.turn = omega (arith, turn_of s e, w.at) in
      rw t;
}

not_empty : (l : List ℕ) → 0 < length l → is_empty l ≡ false
unfolding is_empty
not_empty [] h = absurd (omega arith)
not_empty (n ∷ l) h = refl

none_waiting : (l : List ℕ) → length l ≡ 0 → is_empty l ≡ true
unfolding is_empty
none_waiting [] h = refl
none_waiting (n ∷ l) h = absurd (omega arith)

stops : (l : List (List ℕ)) (left mill : ℕ) → 0 < left → 0 < length (lane mill l) → next_mill left mill l ≡ Some mill
unfolding next_mill when◌then◌else◌
stops l zero mill h k = absurd (omega arith)
stops l (suc left) mill h k = rw (not_empty (lane mill l) k)

goes_on : (l : List (List ℕ)) (left mill : ℕ) → 0 < left → length (lane mill l) ≡ 0 → next_mill left mill l ≡ next_mill (left - 1) (after mill) l
unfolding next_mill when◌then◌else◌
goes_on l zero mill h k = absurd (omega arith)
goes_on l (suc left) mill h k = let e : suc left - 1 ≡ left = omega arith in rw (none_waiting (lane mill l) k, e)

-- one mill further
after_is : (turn asked : ℕ) → after ((turn % mills + asked) % mills) ≡ (turn % mills + (asked + 1)) % mills
unfolding after when◌then◌else◌
after_is turn asked = grind (arith, nat_tests)

pub asks_next : (self : SenderStruct) (asked : ℕ) → Asks self asked → asked < mills → count_at ((self.turn % mills + asked) % mills) self ≤ 0 → Asks self (asked + 1)
asks_next self asked a h k = record {
  is = λ s w e.
      let mill : ℕ = (self.turn % mills + asked) % mills in
      let left : mills - asked - 1 ≡ mills - (asked + 1) = omega arith in
      a.is s w e ∙ goes_on s.lanes (mills - asked) mill (omega arith) (omega (arith, count_is s mill e)) ∙ rw (left, after_is self.turn asked);
}

pub next_here : (self : SenderStruct) (asked : ℕ) → Asks self asked → asked < mills → 0 < count_at ((self.turn % mills + asked) % mills) self
    → Found self (Some ((self.turn % mills + asked) % mills))
next_here self asked a h k = record {
  is = λ s w e.
      let mill : ℕ = (self.turn % mills + asked) % mills in
      sym (a.is s w e ∙ stops s.lanes (mills - asked) mill (omega arith) (omega (arith, count_is s mill e)));
  waits = (omega arith, k);
}

pub next_none : (self : SenderStruct) (asked : ℕ) → Asks self asked → mills ≤ asked → Found self None
unfolding next_mill
next_none self asked a h = record {
  is = λ s w e.
      let none : mills - asked ≡ 0 = omega arith in
      sym (a.is s w e ∙ rw none);
  waits = tt;
}

-- ---- the place of a call

-- as the code compares a call with another
abbrev pub is_call : CallStruct → CallStruct → Bool
is_call call c = (c.mill == call.mill) && (c.number == call.number)

same_is : (call : CallStruct) (c : Call) → is_call call (call_of c) ≡ same_call (call.mill, call.number) c
unfolding same_call call_of
same_is call c = grind (arith, nat_tests)

abbrev place_in : CallStruct → List Call → ℕ
place_in call out = position_or_len (is_call call) (map call_of out)

-- the call at its place is the one that is freed
freed_at : (call : CallStruct) (out : List Call) → place_in call out < length out
    → freed (call.mill, call.number) out ≡ take (place_in call out) out ++ drop (place_in call out + 1) out
unfolding freed when◌then◌else◌
freed_at call [] h = absurd (omega arith)
freed_at call (c ∷ out) h = go (is_call call (call_of c)) (same_is call c) (λ k. freed_at call out k) h
  where
    go : (t : Bool) → t ≡ same_call (call.mill, call.number) c → (place_in call out < length out → freed (call.mill, call.number) out ≡ take (place_in call out) out ++ drop (place_in call out + 1) out)
        → cond (not t) (1 + place_in call out) 0 < suc (length out)
        → (when same_call (call.mill, call.number) c then out else c ∷ freed (call.mill, call.number) out) ≡ take (cond (not t) (1 + place_in call out) 0) (c ∷ out) ++ drop (cond (not t) (1 + place_in call out) 0 + 1) (c ∷ out)
    go true e f h = rw (← e)
    go false e f h =
        let k : 1 + place_in call out ≡ suc (place_in call out) = omega arith in
        rw (← e, k, f (omega arith), add-one (place_in call out), add-one (suc (place_in call out)))

-- where it is at no place, none is
freed_none : (call : CallStruct) (out : List Call) → length out ≤ place_in call out → freed (call.mill, call.number) out ≡ out
unfolding freed when◌then◌else◌
freed_none call [] h = refl
freed_none call (c ∷ out) h = go (is_call call (call_of c)) (same_is call c) (λ k. freed_none call out k) h
  where
    go : (t : Bool) → t ≡ same_call (call.mill, call.number) c → (length out ≤ place_in call out → freed (call.mill, call.number) out ≡ out) → suc (length out) ≤ cond (not t) (1 + place_in call out) 0
        → (when same_call (call.mill, call.number) c then out else c ∷ freed (call.mill, call.number) out) ≡ c ∷ out
    go true e f h = absurd (omega arith)
    go false e f h = rw (← e, f (omega arith))

-- the calls that are out, as the code holds them
out_is : {self : SenderStruct} (s : Sender) → self ≡ laid_out s → take self.out self.calls ≡ map call_of s.out
unfolding calls_of
out_is s e = rw (out_of s e, calls_is s e) (take_at (map call_of s.out) (replicate (calls - length s.out) no_call) (length s.out) (length-map s.out call_of))

-- what the code finds among them
module _ (self : SenderStruct) (call : CallStruct) (s : Sender) (e : self ≡ laid_out s) where
  found_is : (r : Option ℕ) → r ≡ position (is_call call) (take self.out self.calls) → r ≡ cond (ltb (place_in call s.out) (length s.out)) (Some (place_in call s.out)) None
  found_is r f = rw (out_is s e, length-map s.out call_of) at f

  pub freed_found : (at : ℕ) → Some at ≡ position (is_call call) (take self.out self.calls) → (at < length s.out) × (freed (call.mill, call.number) s.out ≡ take at s.out ++ drop (at + 1) s.out)
  freed_found at f =
      let k = found_is (Some at) f in
      let h : place_in call s.out < length s.out = grind (arith, nat_tests) in
      let i : at ≡ place_in call s.out = grind (arith, nat_tests) in
      rw i (h, freed_at call s.out h)

  pub freed_nothing : None ≡ position (is_call call) (take self.out self.calls) → freed (call.mill, call.number) s.out ≡ s.out
  freed_nothing f =
      let k = found_is None f in
      let h : length s.out ≤ place_in call s.out = grind (arith, nat_tests) in
      freed_none call s.out h

-- ---- a grant

-- the call that goes out
abbrev call_in : ℕ → SenderStruct → CallStruct
call_in mill self = record { mill = mill; number = get_or (lane_in mill self).numbers 0 0 }

call_in_is : {self : SenderStruct} (s : Sender) (mill : ℕ) → self ≡ laid_out s → Ready s → mill < mills → call_in mill self ≡ call_of (mill, first_of (lane mill s.lanes))
unfolding call_of
call_in_is s mill e w h = rw (lane_is s mill e w h, number_at (lane mill s.lanes))

pub grants_to : (self : SenderStruct) (mill : ℕ) (rest : Lane) (turn : ℕ) → mill < mills → self.out < calls
    → ((l : List ℕ) → length l ≤ lane_size → lane_in mill self ≡ lane_of l → rest ≡ lane_of (rest_of l)) → turn ≡ after mill
    → GrantsTo self mill (record { lanes = set self.lanes mill rest; calls = set self.calls self.out (call_in mill self); out = self.out + 1; turn = turn }) (call_in mill self)
unfolding laid_out granted
grants_to self mill rest turn h o r t = record {
  call_is = λ s w e. call_in_is s mill e w h;
  leaves = λ s w e.
      let l : List ℕ = lane mill s.lanes in
      let here : rest ≡ lane_of (rest_of l) = r l (w.short mill) (lane_is s mill e w h) in
      let lanes : set self.lanes mill rest ≡ map lane_of (set s.lanes mill (rest_of l)) = rw (lanes_is s e, here) (set_lanes s.lanes mill (rest_of l)) in
      let out : self.out ≡ length s.out = out_of s e in
      let calls-out : set self.calls self.out (call_in mill self) ≡ calls_of (s.out ++ (mill, first_of l) ∷ []) = rw (call_in_is s mill e w h, calls_is s e, out) (set_calls s.out (mill, first_of l) (omega arith)) in
      let long : self.out + 1 ≡ length (s.out ++ (mill, first_of l) ∷ []) = ap (λ (n : ℕ). n + 1) out ∙ sym (length-append s.out ((mill, first_of l) ∷ [])) in
      sender_is lanes calls-out long t;
}

-- ---- every grant possible

-- nothing is granted
pub idle_is : {self : SenderStruct} (s : Sender) → self ≡ laid_out s → grant_all s ≡ record { grants = []; sender = s } → Granting s self None
unfolding one_told
idle_is s e g = record { told = sym (ap (λ (t : Told). one_told t.grants) g); leaves = e ∙ sym (ap (λ (t : Told). laid_out t.sender) g) }

pub grants_full : (self : SenderStruct) → calls ≤ self.out → Grants self self None
grants_full self h = record { is = λ s w one e. idle_is s e (full_idle s (omega (arith, out_of s e))) }

step_none : (free : ℕ) (s : Sender) → next_mill mills s.turn s.lanes ≡ None → grants free s ≡ record { grants = []; sender = s }
unfolding grants
step_none zero s n = refl
step_none (suc free) s n = rw (n, grants)

step_some : (free : ℕ) (s : Sender) (mill : ℕ) → next_mill mills s.turn s.lanes ≡ Some mill
    → grants (suc free) s ≡ telling (mill, first_of (lane mill s.lanes)) (grants free (granted mill s))
unfolding grants
step_some free s mill n = rw (n, grants)

pub grants_none : (self : SenderStruct) → Found self None → Grants self self None
unfolding grant_all
grants_none self f = record { is = λ s w one e. idle_is s e (step_none (calls - length s.out) s (sym (f.is s w e))) }

-- grants of which none is told leave the sender as it is
none_told : (free : ℕ) (s : Sender) → length (grants free s).grants ≤ 0 → grants free s ≡ record { grants = []; sender = s }
unfolding grants telling
none_told zero s h = refl
none_told (suc free) s h = go (next_mill mills s.turn s.lanes) refl
  where
    go : (o : Option ℕ) → next_mill mills s.turn s.lanes ≡ o → grants (suc free) s ≡ record { grants = []; sender = s }
    go None n = step_none (suc free) s n
    go (Some mill) n = absurd (omega (arith, ap (λ (t : Told). length t.grants) (step_some free s mill n)))

one_told_is : (s : Sender) (mill : ℕ) → next_mill mills s.turn s.lanes ≡ Some mill → length s.out < calls → length (grant_all s).grants ≤ 1
    → grant_all s ≡ record { grants = (mill, first_of (lane mill s.lanes)) ∷ []; sender = granted mill s }
unfolding grant_all telling
one_told_is s mill n h one =
    let free : calls - length s.out ≡ suc (calls - length s.out - 1) = omega arith in
    let all : grant_all s ≡ telling (mill, first_of (lane mill s.lanes)) (grants (calls - length s.out - 1) (granted mill s)) = ap (λ (k : ℕ). grants k s) free ∙ step_some (calls - length s.out - 1) s mill n in
    let rest : grants (calls - length s.out - 1) (granted mill s) ≡ record { grants = []; sender = granted mill s } = none_told (calls - length s.out - 1) (granted mill s) (omega (arith, ap (λ (t : Told). length t.grants) all)) in
    all ∙ ap (telling (mill, first_of (lane mill s.lanes))) rest

pub grants_one : (self : SenderStruct) (mill : ℕ) (left : SenderStruct) (call : CallStruct) → Found self (Some mill) → self.out < calls → GrantsTo self mill left call → Grants self left (Some call)
unfolding one_told
grants_one self mill left call f o g = record {
  is = λ s w one e.
      let t = one_told_is s mill (sym (f.is s w e)) (omega (arith, out_of s e)) one in
      record { told = ap Some (g.call_is s w e) ∙ sym (ap (λ (t : Told). one_told t.grants) t); leaves = g.leaves s w e ∙ sym (ap (λ (t : Told). laid_out t.sender) t) };
}
