-- Change request 11/13: every use leaves a sender settled, and grants at most once; what frees nothing. Assumes nothing.
use Rattle.std.specs.Prelude.{Option, Some, None}
use Prim.Native.Nat.{ℕ, zero, suc, ◌+◌, ◌-◌, ◌≤◌, ◌<◌}
use native.Mathlib.Omega.{arith}
use mathlib.Core.Path.{◌≡◌, refl, sym, ap, ◌∙◌, subst}
use mathlib.Core.List.{List, [], ◌∷◌, ◌++◌, append_assoc, append-nil}
use mathlib.Core.Bool.{Bool, true, false, not, ◌||◌}
use lib.ListN.{length, set, replicate, get_or-replicate, length-append, length-set, get_or-eq_default}
use lib.Seq.{set-set, set-get_or, set_out}
use lib.Dec.{leb, leb→le, nleb→lt, T}
use Rattle.format.specs.Format.{All}
use Rattle.model.specs.Maps.{when◌then◌else◌, any, is_empty}
use Rattle.sender_turns.specs.Sender.{Call, Sender, Use, Told, Answer, mills, calls, lane_size, fresh, lane, after, next_mill}
use Rattle.sender_turns.specs.Sender.{first_of, rest_of, granted, telling, grants, grant_all, same_call, freed, with_lane, with_out, mill_of, take_use, used, sender_after, told_by, sender_over}
use Rattle.sender_turns.specs.Claims.{last_mill, Settled, StaysSettled, OneGrant, UnknownReply, ResumeEmpties, GrantedAtOnce}
use Rattle.sender_turns.specs.Steps.{Ready}
use Rattle.sender_turns.proofs.Turns.{Waiting, gap_of, Found, found, itself, before, after_low, lane_other, lane_put, next_low, next_waits, none_found, none_waits, grants_low}

-- ---- tests

pub low_leb : (a b : ℕ) → b < a → leb a b ≡ false
low_leb a b h = go (leb a b) refl
  where
    go : (c : Bool) → leb a b ≡ c → leb a b ≡ false
    go true e = absurd (omega (arith, leb→le a b (rw e tt)))
    go false e = e

-- fewer than so many, or not
pub split : {P : Type 0} (a b : ℕ) → (a ≤ b → P) → (b < a → P) → P
split {P} a b f g = go (leb a b) refl
  where
    go : (c : Bool) → leb a b ≡ c → P
    go true e = f (leb→le a b (rw e tt))
    go false e = g (nleb→lt a b (rw e tt))

-- ---- lists of calls

abbrev pub There : List Call → Type 0
There out = All (λ c. c.0 < mills) out

pub all_append : {A : Type 0} (P : A → Type 0) (a b : List A) → All P a → All P b → All P (a ++ b)
all_append P [] b p q = q
all_append P (x ∷ a) b p q = (p.0, all_append P a b p.1 q)

pub all_freed : (P : Call → Type 0) (c : Call) (out : List Call) → All P out → All P (freed c out)
unfolding freed when◌then◌else◌
all_freed P c [] p = p
all_freed P c (x ∷ out) p = elim (same_call c x) as (λ b. All P (when b then out else x ∷ freed c out)) [ true ↦ p.1 | false ↦ (p.0, all_freed P c out p.1) ]

pub freed_shorter : (c : Call) (out : List Call) → length (freed c out) ≤ length out
unfolding freed when◌then◌else◌
freed_shorter c [] = omega arith
freed_shorter c (x ∷ out) = elim (same_call c x) as (λ b. length (when b then out else x ∷ freed c out) ≤ suc (length out))
    [ true ↦ omega arith | false ↦ omega (arith, freed_shorter c out) ]

pub freed_one : (c : Call) (out : List Call) → length out ≤ suc (length (freed c out))
unfolding freed when◌then◌else◌
freed_one c [] = omega arith
freed_one c (x ∷ out) = elim (same_call c x) as (λ b. suc (length out) ≤ suc (length (when b then out else x ∷ freed c out)))
    [ true ↦ omega arith | false ↦ omega (arith, freed_one c out) ]

-- where as many are left, nothing was freed
pub freed_none : (c : Call) (out : List Call) → length out ≤ length (freed c out) → freed c out ≡ out
unfolding freed when◌then◌else◌
freed_none c [] h = refl
freed_none c (x ∷ out) h = elim (same_call c x) as (λ b. suc (length out) ≤ length (when b then out else x ∷ freed c out) → (when b then out else x ∷ freed c out) ≡ x ∷ out)
    [ true ↦ λ h. absurd (omega arith) | false ↦ λ h. ap (λ (l : List Call). x ∷ l) (freed_none c out (omega arith)) ] h

-- a call that is not out frees nothing
freed_unknown : (c : Call) (out : List Call) → T (not (any (same_call c) out)) → freed c out ≡ out
unfolding freed when◌then◌else◌ any
freed_unknown c [] h = refl
freed_unknown c (x ∷ out) h = elim (same_call c x) as (λ b. T (not (b || any (same_call c) out)) → (when b then out else x ∷ freed c out) ≡ x ∷ out)
    [ true ↦ λ h. absurd h | false ↦ λ h. ap (λ (l : List Call). x ∷ l) (freed_unknown c out h) ] h

pub last_append : (a : List Call) (c : Call) (b : List Call) → last_mill (a ++ c ∷ b) ≡ last_mill (c ∷ b)
unfolding last_mill
last_append [] c b = refl
last_append (x ∷ []) c b = refl
last_append (x ∷ y ∷ a) c b = last_append (y ∷ a) c b

-- the turn after grants of these
unfoldable pub turn_after : ℕ → List Call → ℕ
turn_after t [] = t
turn_after t (c ∷ told) = turn_after (after c.0) told

pub turn_last : (t : ℕ) (c : Call) (told : List Call) → turn_after t (c ∷ told) ≡ after (last_mill (c ∷ told))
unfolding turn_after last_mill
turn_last t c [] = refl
turn_last t c (d ∷ told) = turn_last (after c.0) d told

-- ---- lanes

rest_shorter : (l : List ℕ) → length (rest_of l) ≤ length l
unfolding rest_of
rest_shorter [] = omega arith
rest_shorter (x ∷ l) = omega arith

set_shorter : (g m : ℕ) (l : List ℕ) (lanes : List (List ℕ)) → length l ≤ length (lane g lanes) → length (lane m (set lanes g l)) ≤ length (lane m lanes)
unfolding lane
set_shorter g m l [] h = omega arith
set_shorter zero zero l (x ∷ lanes) h = h
set_shorter zero (suc m) l (x ∷ lanes) h = omega arith
set_shorter (suc g) zero l (x ∷ lanes) h = omega arith
set_shorter (suc g) (suc m) l (x ∷ lanes) h = set_shorter g m l lanes h

set_empty : (g m : ℕ) (lanes : List (List ℕ)) → lane m lanes ≡ [] → lane m (set lanes g []) ≡ []
unfolding lane
set_empty g m [] h = h
set_empty zero zero (x ∷ lanes) h = refl
set_empty zero (suc m) (x ∷ lanes) h = h
set_empty (suc g) zero (x ∷ lanes) h = h
set_empty (suc g) (suc m) (x ∷ lanes) h = set_empty g m lanes h

put_short : (mill : ℕ) (l : List ℕ) (lanes : List (List ℕ)) → length l ≤ lane_size → ((m : ℕ) → length (lane m lanes) ≤ lane_size) → (m : ℕ) → length (lane m (set lanes mill l)) ≤ lane_size
unfolding lane
put_short mill l [] h f m = omega arith
put_short zero l (x ∷ lanes) h f zero = h
put_short zero l (x ∷ lanes) h f (suc m) = f (suc m)
put_short (suc mill) l (x ∷ lanes) h f zero = f 0
put_short (suc mill) l (x ∷ lanes) h f (suc m) = put_short mill l lanes h (λ m. f (suc m)) m

-- ---- what grants do: calls go out in their order, no lane gets longer, and they end with none free or nothing waiting

record Grew (free : ℕ) (s : Sender) (t : Told) : Type 0 where
  as_many : length t.sender.lanes ≡ length s.lanes
  goes_out : t.sender.out ≡ s.out ++ t.grants
  low : s.turn < mills → There t.grants
  moves : t.sender.turn ≡ turn_after s.turn t.grants
  at_most : length t.grants ≤ free
  shorter : (m : ℕ) → length (lane m t.sender.lanes) ≤ length (lane m s.lanes)
  ended : length t.grants < free → length s.lanes ≡ mills → s.turn < mills → (m : ℕ) → lane m t.sender.lanes ≡ []

grew : (free : ℕ) (s : Sender) → Grew free s (grants free s)
unfolding grants telling granted turn_after
grew zero s = record {
  as_many = refl;
  goes_out = sym (append-nil s.out);
  low = λ p. tt;
  moves = refl;
  at_most = omega arith;
  shorter = λ m. omega arith;
  ended = λ l. absurd (omega arith);
}
grew (suc free) s = go (next_mill mills s.turn s.lanes) refl (grew free)
  where
    go : (r : Option ℕ) → next_mill mills s.turn s.lanes ≡ r → ((s : Sender) → Grew free s (grants free s))
        → Grew (suc free) s (elim r as (λ r. Told) [
          | None ↦ record { grants = []; sender = s }
          | Some mill ↦ telling (mill, first_of (lane mill s.lanes)) (grants free (granted mill s))
        ])
    go None e ih = record {
      as_many = refl;
      goes_out = sym (append-nil s.out);
      low = λ p. tt;
      moves = refl;
      at_most = omega arith;
      shorter = λ m. omega arith;
      ended = λ l h p. none_found s.lanes s.turn h p e;
    }
    go (Some g) e ih =
        let i = ih (granted g s) in
        let n = length-set s.lanes g (rest_of (lane g s.lanes)) in
        record {
          as_many = i.as_many ∙ n;
          goes_out = i.goes_out ∙ append_assoc s.out ((g, first_of (lane g s.lanes)) ∷ []) (grants free (granted g s)).grants;
          low = λ p.
              let q : g < mills = next_low mills s.turn s.lanes p g e in
              (q, i.low (after_low g q));
          moves = i.moves;
          at_most = omega (arith, i.at_most);
          shorter = λ m. omega (arith, i.shorter m, set_shorter g m (rest_of (lane g s.lanes)) s.lanes (rest_shorter (lane g s.lanes)));
          ended = λ l h p. i.ended (omega arith) (n ∙ h) (after_low g (next_low mills s.turn s.lanes p g e));
        }

-- ---- grants leave a sender settled

granted_settled : (s : Sender) → Ready s → There s.out → (calls ≤ length s.out → s.turn ≡ after (last_mill s.out)) → Settled (grant_all s).sender
unfolding grant_all turn_after
granted_settled s r q l =
    let free : ℕ = calls - length s.out in
    let g = grew free s in
    let many : length (grants free s).sender.out ≡ length s.out + length (grants free s).grants = ap length g.goes_out ∙ length-append s.out (grants free s).grants in
    record {
      eight = g.as_many ∙ r.eight;
      short = λ m. omega (arith, g.shorter m, r.short m);
      at = grants_low free s r.at;
      there = subst There (sym g.goes_out) (all_append (λ c. c.0 < mills) s.out (grants free s).grants q (g.low r.at));
      within = omega (arith, g.at_most, r.within);
      none_possible = λ n. split free (length (grants free s).grants)
          (λ h. absurd (n (omega arith)))
          (λ h. g.ended h r.eight r.at);
      last = λ h. g.moves ∙ turns (grants free s).grants (subst (λ (out : List Call). calls ≤ length out) g.goes_out h) ∙ ap (λ (out : List Call). after (last_mill out)) (sym g.goes_out);
    }
  where
    turns : (told : List Call) → calls ≤ length (s.out ++ told) → turn_after s.turn told ≡ after (last_mill (s.out ++ told))
    turns [] h = rw append-nil (l (rw append-nil at h))
    turns (c ∷ told) h = turn_last s.turn c told ∙ ap after (sym (last_append s.out c told))

-- ---- a sender that may grant

pub ready_of : (s : Sender) → Settled s → Ready s
ready_of s w = record { eight = w.eight; short = w.short; at = w.at; within = w.within }

ready_put : (s : Sender) (mill : ℕ) (l : List ℕ) → Settled s → length l ≤ lane_size → Ready (with_lane mill l s)
unfolding with_lane
ready_put s mill l w h = record { eight = length-set s.lanes mill l ∙ w.eight; short = put_short mill l s.lanes h w.short; at = w.at; within = w.within }

pub ready_enter : (s : Sender) (mill number : ℕ) → Settled s → length (lane mill s.lanes) < lane_size → Ready (with_lane mill (lane mill s.lanes ++ number ∷ []) s)
ready_enter s mill number w h = ready_put s mill (lane mill s.lanes ++ number ∷ []) w (omega (arith, length-append (lane mill s.lanes) (number ∷ [])))

pub ready_reply : (s : Sender) (c : Call) → Settled s → Ready (with_out (freed c s.out) s)
unfolding with_out
ready_reply s c w = record { eight = w.eight; short = w.short; at = w.at; within = omega (arith, freed_shorter c s.out, w.within) }

-- ---- every use leaves a sender settled

put_settled : (s : Sender) (mill : ℕ) (l : List ℕ) → Settled s → length l ≤ lane_size → Settled (grant_all (with_lane mill l s)).sender
unfolding with_lane
put_settled s mill l w h = granted_settled (with_lane mill l s) (ready_put s mill l w h) w.there w.last

reply_settled : (s : Sender) (c : Call) → Settled s → Settled (grant_all (with_out (freed c s.out) s)).sender
unfolding with_out
reply_settled s c w = granted_settled (with_out (freed c s.out) s) (ready_reply s c w) (all_freed (λ c. c.0 < mills) c s.out w.there) (λ h.
    let same : freed c s.out ≡ s.out = freed_none c s.out (omega (arith, w.within)) in
    w.last (rw same at h) ∙ ap (λ (out : List Call). after (last_mill out)) (sym same))

pub stays_settled : StaysSettled
unfolding used when◌then◌else◌ sender_after take_use
stays_settled s w u = elim (leb mills (mill_of u)) as (λ c. Settled (sender_after s (when c then Answer.Refused 11 else take_use u s))) [ true ↦ w | false ↦ taken u ]
  where
    room : (c : Bool) (mill number : ℕ) → leb lane_size (length (lane mill s.lanes)) ≡ c
        → Settled (sender_after s (when c then Answer.Refused 12 else Answer.Done (grant_all (with_lane mill (lane mill s.lanes ++ number ∷ []) s))))
    room true mill number e = w
    room false mill number e = put_settled s mill (lane mill s.lanes ++ number ∷ []) w
        (omega (arith, length-append (lane mill s.lanes) (number ∷ []), nleb→lt lane_size (length (lane mill s.lanes)) (rw e tt)))

    taken : (u : Use) → Settled (sender_after s (take_use u s))
    taken (Use.Enter mill number) = room (leb lane_size (length (lane mill s.lanes))) mill number refl
    taken (Use.Reply mill number) = reply_settled s (mill, number) w
    taken (Use.Resume mill) = put_settled s mill [] w (omega arith)

pub over_settled : (uses : List Use) (s : Sender) → Settled s → Settled (sender_over s uses)
unfolding sender_over
over_settled [] s w = w
over_settled (u ∷ uses) s w = over_settled uses (sender_after s (used u s)) (stays_settled s w u)

fresh_empty : (m : ℕ) → lane m fresh.lanes ≡ []
unfolding fresh lane
fresh_empty m = split mills m
    (λ h. get_or-eq_default (replicate mills []) [] h)
    (λ h. get_or-replicate mills m [] [] h)

pub fresh_settled : Settled fresh
unfolding fresh
fresh_settled = record {
  eight = refl;
  short = λ m. omega (arith, ap length (fresh_empty m));
  at = omega arith;
  there = tt;
  within = omega arith;
  none_possible = λ n m. fresh_empty m;
  last = λ h. absurd (omega arith);
}

-- ---- where nothing can be granted

-- four are out, or nothing waits
pub busy : {P : Type 0} (s : Sender) → Settled s → (calls ≤ length s.out → P) → (length s.out < calls → ((m : ℕ) → lane m s.lanes ≡ []) → P) → P
busy s w f g = split calls (length s.out) f (λ h. g h (w.none_possible (λ k. absurd (omega arith))))

pub full_idle : (s : Sender) → calls ≤ length s.out → grant_all s ≡ record { grants = []; sender = s }
unfolding grant_all grants
full_idle s h =
    let e : calls - length s.out ≡ 0 = omega arith in
    rw e

pub grants_idle : (free : ℕ) (s : Sender) → ((m : ℕ) → lane m s.lanes ≡ []) → grants free s ≡ record { grants = []; sender = s }
unfolding grants
grants_idle zero s f = refl
grants_idle (suc free) s f = rw (none_waits mills s.turn s.lanes f, grants)

pub empty_idle : (s : Sender) → ((m : ℕ) → lane m s.lanes ≡ []) → grant_all s ≡ record { grants = []; sender = s }
unfolding grant_all
empty_idle s f = grants_idle (calls - length s.out) s f

pub idle : (s : Sender) → Settled s → grant_all s ≡ record { grants = []; sender = s }
idle s w = busy s w (full_idle s) (λ h f. empty_idle s f)

pub idle_resume : (s : Sender) (mill : ℕ) → Settled s → grant_all (with_lane mill [] s) ≡ record { grants = []; sender = with_lane mill [] s }
unfolding with_lane
idle_resume s mill w = busy s w (full_idle (with_lane mill [] s)) (λ h f. empty_idle (with_lane mill [] s) (λ m. set_empty mill m s.lanes (f m)))

-- ---- what frees nothing

pub unknown_reply : UnknownReply
unfolding used take_use mill_of when◌then◌else◌ with_out
unknown_reply s w mill number q h = rw (low_leb mills mill q, freed_unknown (mill, number) s.out h) (ap Answer.Done (idle s w))

pub resume_empties : ResumeEmpties
unfolding used take_use mill_of when◌then◌else◌ with_lane
resume_empties s w mill q = rw (low_leb mills mill q) (ap Answer.Done (idle_resume s mill w))

-- ---- a request that enters while fewer than four are out

-- of the mills only this one waits
next_only : (m t : ℕ) (l : List ℕ) (lanes : List (List ℕ)) → m < mills → t < mills → length lanes ≡ mills → ((m : ℕ) → lane m lanes ≡ []) → T (not (is_empty l))
    → next_mill mills t (set lanes m l) ≡ Some m
unfolding is_empty
next_only m t l lanes q p e f w =
    let a = gap_of t m p q in
    let here : Waiting m (set lanes m l) = rw (lane_put m l lanes (omega arith)) w in
    go a.d (next_mill mills t (set lanes m l)) refl (found m mills t a.d (set lanes m l) p q a.low a.gap here)
  where
    go : (d : ℕ) (r : Option ℕ) → next_mill mills t (set lanes m l) ≡ r → Found m d r → r ≡ Some m
    go d (Some n) h itself = refl
    go d (Some n) h (before g d' low n' near gap) = absurd (subst (λ (l : List ℕ). T (not (is_empty l))) (lane_other m g l lanes (λ e. n' (sym e)) ∙ f g) (next_waits mills t (set lanes m l) g h))
    go d None h f = elim f [ ]

put_back : (mill : ℕ) (lanes : List (List ℕ)) → lane mill lanes ≡ [] → set lanes mill [] ≡ lanes
unfolding lane
put_back mill lanes e = ap (λ (l : List ℕ). set lanes mill l) (sym e) ∙ set-get_or lanes mill []

pub enter_granted : (s : Sender) (mill number : ℕ) → Settled s → mill < mills → length s.out < calls
    → grant_all (with_lane mill (lane mill s.lanes ++ number ∷ []) s)
    ≡ record { grants = (mill, number) ∷ []; sender = record { lanes = s.lanes; out = s.out ++ (mill, number) ∷ []; turn = after mill } }
unfolding grant_all grants telling granted with_lane is_empty first_of rest_of
enter_granted s mill number w q h =
    let f : (m : ℕ) → lane m s.lanes ≡ [] = w.none_possible (λ k. absurd (omega arith)) in
    let put : List (List ℕ) = set s.lanes mill (number ∷ []) in
    let here : lane mill put ≡ number ∷ [] = lane_put mill (number ∷ []) s.lanes (omega (arith, w.eight)) in
    let back : set put mill [] ≡ s.lanes = set-set s.lanes mill (number ∷ []) [] ∙ put_back mill s.lanes (f mill) in
    let free : calls - length s.out ≡ suc (calls - length s.out - 1) = omega arith in
    let next : next_mill mills s.turn put ≡ Some mill = next_only mill s.turn (number ∷ []) s.lanes q w.at w.eight f tt in
    let rest = grants_idle (calls - length s.out - 1) (record { lanes = s.lanes; out = s.out ++ (mill, number) ∷ []; turn = after mill }) f in
    rw (f mill, free, next, grants, here, back, rest)

pub granted_at_once : GrantedAtOnce
unfolding used take_use mill_of when◌then◌else◌
granted_at_once s w mill number q h =
    let f : lane mill s.lanes ≡ [] = w.none_possible (λ k. absurd (omega arith)) mill in
    let room : leb lane_size (length (lane mill s.lanes)) ≡ false = low_leb lane_size (length (lane mill s.lanes)) (omega (arith, ap length f)) in
    rw (low_leb mills mill q, room) (ap Answer.Done (enter_granted s mill number w q h))

-- ---- one grant at most

grants_few : (s : Sender) → length (grant_all s).grants ≤ calls - length s.out
unfolding grant_all
grants_few s = (grew (calls - length s.out) s).at_most

pub one_enter : (s : Sender) (mill number : ℕ) → Settled s → length (grant_all (with_lane mill (lane mill s.lanes ++ number ∷ []) s)).grants ≤ 1
unfolding with_lane
one_enter s mill number w = busy s w
    (λ h. omega (arith, grants_few (with_lane mill (lane mill s.lanes ++ number ∷ []) s)))
    (λ h f. split mills mill
    (λ k. omega (arith, ap (λ (t : Told). length t.grants) (None k ∙ idle s w)))
    (λ k. omega (arith, ap (λ (t : Told). length t.grants) (enter_granted s mill number w k h))))
  where
    None : mills ≤ mill → grant_all (with_lane mill (lane mill s.lanes ++ number ∷ []) s) ≡ grant_all s
    None k =
        let e : length s.lanes ≤ mill = omega (arith, w.eight) in
        rw (set_out s.lanes mill)

pub one_reply : (s : Sender) (c : Call) → Settled s → length (grant_all (with_out (freed c s.out) s)).grants ≤ 1
unfolding with_out
one_reply s c w = busy s w
    (λ h. omega (arith, grants_few (with_out (freed c s.out) s), freed_one c s.out))
    (λ h f. omega (arith, ap (λ (t : Told). length t.grants) (empty_idle (with_out (freed c s.out) s) f)))

pub one_resume : (s : Sender) (mill : ℕ) → Settled s → length (grant_all (with_lane mill [] s)).grants ≤ 1
one_resume s mill w = omega (arith, ap (λ (t : Told). length t.grants) (idle_resume s mill w))

pub one_grant : OneGrant
unfolding used when◌then◌else◌ told_by take_use
one_grant s w u = elim (leb mills (mill_of u)) as (λ c. length (told_by (when c then Answer.Refused 11 else take_use u s)) ≤ 1) [ true ↦ omega arith | false ↦ taken u ]
  where
    taken : (u : Use) → length (told_by (take_use u s)) ≤ 1
    taken (Use.Enter mill number) = elim (leb lane_size (length (lane mill s.lanes))) as
        (λ c. length (told_by (when c then Answer.Refused 12 else Answer.Done (grant_all (with_lane mill (lane mill s.lanes ++ number ∷ []) s)))) ≤ 1)
        [ true ↦ omega arith | false ↦ one_enter s mill number w ]
    taken (Use.Reply mill number) = one_reply s (mill, number) w
    taken (Use.Resume mill) = one_resume s mill w
