-- Change request 11/13: a sender is settled, with numbers below a bound, exactly where such uses of a fresh one lead to it. Assumes nothing.
use Prim.Native.Nat.{ℕ, zero, suc, ◌+◌, ◌-◌, ◌≤◌, ◌<◌}
use native.Mathlib.Omega.{arith}
use mathlib.Core.Path.{◌≡◌, refl, sym, ap, ◌∙◌, subst}
use mathlib.Core.List.{List, [], ◌∷◌, ◌++◌, append-nil, map}
use mathlib.Core.Bool.{Bool, true, false, ◌&&◌}
use lib.ListN.{length, set, replicate, length-append, get_or-replicate}
use lib.Seq.{append_snoc, get_or_at, set_at, ext_get_or}
use lib.Dec.{eqb, eqb→eq, eqb_refl}
use Rattle.format.specs.Format.{All}
use Rattle.model.specs.Maps.{when◌then◌else◌}
use Rattle.sender_turns.specs.Sender.{Call, Sender, Use, Told, mills, calls, lane_size, fresh, lane, after, same_call, freed, with_lane, with_out, mill_of, take_use, used, sender_after, sender_over}
use Rattle.sender_turns.specs.Claims.{last_mill, Settled, carried, Reached, Numbered, SettledIsReached}
use Rattle.sender_turns.proofs.Turns.{is_true, not_eq}
use Rattle.sender_turns.proofs.Settled.{low_leb, There, all_append, turn_after, turn_last, busy, full_idle, empty_idle, granted_at_once, stays_settled, over_settled, fresh_settled}
use Rattle.sender_turns.proofs.Numbered.{over_numbered, fresh_numbered}

over_append : (a b : List Use) (s : Sender) → sender_over s (a ++ b) ≡ sender_over (sender_over s a) b
unfolding sender_over
over_append [] b s = refl
over_append (u ∷ a) b s = over_append a b (sender_after s (used u s))

-- ---- what is given of each use: a mill of the eight, and a number below the bound

abbrev Fine : ℕ → Use → Type 0
Fine bound u = (mill_of u < mills) × All (λ n. n < bound) (carried u)

abbrev Below : ℕ → List Call → Type 0
Below bound l = All (λ c. c.1 < bound) l

-- ---- the calls out: entered in turn, each is granted at once

abbrev enters : List Call → List Use
enters l = map (λ (c : Call). Use.Enter c.0 c.1) l

enter_calls : (l : List Call) (s : Sender) → Settled s → There l → length s.out + length l ≤ calls
    → sender_over s (enters l) ≡ record { lanes = s.lanes; out = s.out ++ l; turn = turn_after s.turn l }
unfolding sender_over turn_after sender_after
enter_calls [] s w p h = rw append-nil
enter_calls (c ∷ l) s w p h =
    let next : Sender = record { lanes = s.lanes; out = s.out ++ c ∷ []; turn = after c.0 } in
    let e : sender_after s (used (Use.Enter c.0 c.1) s) ≡ next = ap (sender_after s) (granted_at_once s w c.0 c.1 p.0 (omega arith)) in
    let w' : Settled next = subst Settled e (stays_settled s w (Use.Enter c.0 c.1)) in
    ap (λ (s : Sender). sender_over s (enters l)) e
    ∙ enter_calls l next w' p.1 (omega (arith, length-append s.out (c ∷ [])))
    ∙ ap (λ (out : List Call). record { lanes = s.lanes; out = out; turn = turn_after (after c.0) l }) (append_snoc s.out c l)

enters_fine : (bound : ℕ) (l : List Call) → There l → Below bound l → All (Fine bound) (enters l)
unfolding mill_of carried
enters_fine bound [] p q = tt
enters_fine bound (c ∷ l) p q = ((p.0, (q.0, tt)), enters_fine bound l p.1 q.1)

turn_snoc : (t : ℕ) (l : List Call) (c : Call) → turn_after t (l ++ c ∷ []) ≡ after c.0
unfolding turn_after
turn_snoc t [] c = refl
turn_snoc t (d ∷ l) c = turn_snoc (after d.0) l c

-- ---- fewer than four out: all lanes are empty, and the turn is set by one call more, of a new number, that is freed again

-- the mill before this one
record Prior (t : ℕ) : Type 0 where
  mill : ℕ
  low : mill < mills
  is : after mill ≡ t

abbrev prior : (t : ℕ) → t < mills → Prior t
unfolding after when◌then◌else◌
prior zero h = record { mill = mills - 1; low = omega arith; is = refl }
prior (suc t) h = record { mill = t; low = omega arith; is = go (eqb (t + 1) mills) refl }
  where
    go : (c : Bool) → eqb (t + 1) mills ≡ c → (when c then 0 else t + 1) ≡ suc t
    go true e = absurd (omega (arith, eqb→eq (t + 1) mills (rw e tt)))
    go false e = omega arith

-- no call has this number
abbrev Unlike : ℕ → List Call → Type 0
Unlike n out = All (λ c. n ≡ c.1 → ⊥) out

-- no call has this number, or one has: then a greater number that none of the rest has is new
data Look (n : ℕ) (out : List Call) : Type 0 where
  absent : Unlike n out → Look n out
  taken : (rest : List Call) → length out ≡ suc (length rest) → ((m : ℕ) → n < m → Unlike m rest → Unlike m out) → Look n out

look : (n : ℕ) (out : List Call) → Look n out
look n [] = absent tt
look n (c ∷ out) = go (eqb n c.1) refl (look n out)
  where
    go : (b : Bool) → eqb n c.1 ≡ b → Look n out → Look n (c ∷ out)
    go true e l = taken out refl (λ m h u. ((λ k. omega (arith, eqb→eq n c.1 (rw e tt))), u))
    go false e (absent u) = absent (not_eq n c.1 e, u)
    go false e (taken rest k f) = taken (c ∷ rest) (ap suc k) (λ m h u. (u.0, f m h u.1))

-- a number that no call has, from n on and so far at most
record New (n far : ℕ) (out : List Call) : Type 0 where
  number : ℕ
  from : n ≤ number
  to : number ≤ n + far
  unlike : Unlike number out

new : (far n : ℕ) (out : List Call) → length out ≤ far → New n far out
new zero n [] h = record { number = n; from = omega arith; to = omega arith; unlike = tt }
new zero n (c ∷ out) h = absurd (omega arith)
new (suc far) n out h = go (look n out) (new far (suc n))
  where
    go : Look n out → ((rest : List Call) → length rest ≤ far → New (suc n) far rest) → New n (suc far) out
    go (absent u) ih = record { number = n; from = omega arith; to = omega arith; unlike = u }
    go (taken rest k f) ih =
        let r = ih rest (omega arith) in
        record { number = r.number; from = omega (arith, r.from); to = omega (arith, r.to); unlike = f r.number r.from r.unlike }

freed_new : (c : Call) (out : List Call) → Unlike c.1 out → freed c (out ++ c ∷ []) ≡ out
unfolding freed when◌then◌else◌ same_call
freed_new c [] h =
    let a : eqb c.0 c.0 ≡ true = is_true (eqb_refl c.0) in
    let b : eqb c.1 c.1 ≡ true = is_true (eqb_refl c.1) in
    rw (a, b)
freed_new c (x ∷ out) h = rw other (ap (λ (l : List Call). x ∷ l) (freed_new c out h.1))
  where
    both : (a b : Bool) → b ≡ false → (a && b) ≡ false
    both true b e = e
    both false b e = refl

    differs : (b : Bool) → eqb c.1 x.1 ≡ b → eqb c.1 x.1 ≡ false
    differs true e = absurd (h.0 (eqb→eq c.1 x.1 (rw e tt)))
    differs false e = e

    other : (eqb c.0 x.0 && eqb c.1 x.1) ≡ false
    other = both (eqb c.0 x.0) (eqb c.1 x.1) (differs (eqb c.1 x.1) refl)

all_empty : (lanes : List (List ℕ)) → length lanes ≡ mills → ((m : ℕ) → lane m lanes ≡ []) → replicate mills [] ≡ lanes
unfolding lane
all_empty lanes e f = ext_get_or [] (replicate mills []) lanes (sym e) (λ m h. get_or-replicate mills m [] [] h ∙ sym (f m))

reply_last : (s : Sender) (c : Call) → c.0 < mills → ((m : ℕ) → lane m s.lanes ≡ []) → sender_over s (Use.Reply c.0 c.1 ∷ []) ≡ with_out (freed c s.out) s
unfolding sender_over used take_use mill_of when◌then◌else◌ sender_after with_out
reply_last s c p f = rw (low_leb mills c.0 p) (ap (λ (t : Told). t.sender) (empty_idle (with_out (freed c s.out) s) f))

reached_few : (bound : ℕ) → calls ≤ bound → (s : Sender) → Settled s → Below bound s.out → length s.out < calls → ((m : ℕ) → lane m s.lanes ≡ []) → Reached bound s
unfolding fresh with_out mill_of carried
reached_few bound b s w o h f =
    let p : Prior s.turn = prior s.turn w.at in
    let n : New 0 (calls - 1) s.out = new (calls - 1) 0 s.out (omega arith) in
    let c : Call = (p.mill, n.number) in
    let low : n.number < bound = omega (arith, n.to) in
    let l : List Call = s.out ++ c ∷ [] in
    let lanes : replicate mills [] ≡ s.lanes = all_empty s.lanes w.eight f in
    let more : Sender = record { lanes = s.lanes; out = l; turn = s.turn } in
    let there : There l = all_append (λ c. c.0 < mills) s.out (c ∷ []) w.there (p.low, tt) in
    let fits : length l ≤ calls = omega (arith, length-append s.out (c ∷ [])) in
    let entered : sender_over fresh (enters l) ≡ more = enter_calls l fresh fresh_settled there (omega arith) ∙ rw (lanes, turn_snoc 0 s.out c, p.is) in
    record {
      uses = enters l ++ Use.Reply c.0 c.1 ∷ [];
      given = all_append (Fine bound) (enters l) (Use.Reply c.0 c.1 ∷ [])
          (enters_fine bound l there (all_append (λ c. c.1 < bound) s.out (c ∷ []) o (low, tt))) ((p.low, (low, tt)), tt);
      is = over_append (enters l) (Use.Reply c.0 c.1 ∷ []) fresh
          ∙ ap (λ (s : Sender). sender_over s (Use.Reply c.0 c.1 ∷ [])) entered
          ∙ reply_last more c p.low f
          ∙ ap (λ (out : List Call). record { lanes = s.lanes; out = out; turn = s.turn }) (freed_new c s.out n.unlike);
    }

-- ---- four out: what enters stays in its lane

enter_full : (s : Sender) (m n : ℕ) → calls ≤ length s.out → m < mills → length (lane m s.lanes) < lane_size
    → sender_after s (used (Use.Enter m n) s) ≡ with_lane m (lane m s.lanes ++ n ∷ []) s
unfolding used take_use mill_of when◌then◌else◌ sender_after with_lane
enter_full s m n h p q = rw (low_leb mills m p, low_leb lane_size (length (lane m s.lanes)) q) (ap (λ (t : Told). t.sender) (full_idle (with_lane m (lane m s.lanes ++ n ∷ []) s) h))

-- a lane's requests, the oldest first
abbrev fill : ℕ → List ℕ → List Use
fill m l = map (λ (n : ℕ). Use.Enter m n) l

-- mill by mill
fills : ℕ → List (List ℕ) → List Use
fills m [] = []
fills m (l ∷ lanes) = fill m l ++ fills (suc m) lanes

fill_fine : (bound m : ℕ) (l : List ℕ) → m < mills → All (λ n. n < bound) l → All (Fine bound) (fill m l)
unfolding mill_of carried
fill_fine bound m [] h p = tt
fill_fine bound m (n ∷ l) h p = ((h, (p.0, tt)), fill_fine bound m l h p.1)

fills_fine : (bound m : ℕ) (lanes : List (List ℕ)) → m + length lanes ≤ mills → All (All (λ n. n < bound)) lanes → All (Fine bound) (fills m lanes)
unfolding fills
fills_fine bound m [] h p = tt
fills_fine bound m (l ∷ lanes) h p = all_append (Fine bound) (fill m l) (fills (suc m) lanes) (fill_fine bound m l (omega arith) p.0) (fills_fine bound (suc m) lanes (omega arith) p.1)

module _ (out : List Call) (turn : ℕ) (four : calls ≤ length out) where
  abbrev holding : List (List ℕ) → Sender
  holding lanes = record { lanes = lanes; out = out; turn = turn }

  fill_lane : (l x : List ℕ) (m : ℕ) (done rest : List (List ℕ)) → length done ≡ m → m < mills → length x + length l ≤ lane_size
      → sender_over (holding (done ++ x ∷ rest)) (fill m l) ≡ holding (done ++ (x ++ l) ∷ rest)
  unfolding sender_over with_lane lane
  fill_lane [] x m done rest e p h = rw append-nil
  fill_lane (n ∷ l) x m done rest e p h =
      let here : lane m (done ++ x ∷ rest) ≡ x = get_or_at done x rest [] m e in
      let put : set (done ++ x ∷ rest) m (x ++ n ∷ []) ≡ done ++ (x ++ n ∷ []) ∷ rest = set_at done x rest (x ++ n ∷ []) m e in
      let entered = enter_full (holding (done ++ x ∷ rest)) m n four p (omega (arith, ap length here)) in
      let behind = ap (λ (y : List ℕ). holding (set (done ++ x ∷ rest) m (y ++ n ∷ []))) here ∙ ap holding put in
      ap (λ (s : Sender). sender_over s (fill m l)) (entered ∙ behind)
      ∙ fill_lane l (x ++ n ∷ []) m done rest e p (omega (arith, length-append x (n ∷ [])))
      ∙ ap (λ (y : List ℕ). holding (done ++ y ∷ rest)) (append_snoc x n l)

  fill_all : (lanes : List (List ℕ)) (m : ℕ) (done : List (List ℕ)) → length done ≡ m → m + length lanes ≤ mills → ((m : ℕ) → length (lane m lanes) ≤ lane_size)
      → sender_over (holding (done ++ replicate (length lanes) [])) (fills m lanes) ≡ holding (done ++ lanes)
  unfolding fills sender_over lane
  fill_all [] m done e h f = refl
  fill_all (l ∷ lanes) m done e h f =
      let empty : List (List ℕ) = replicate (length lanes) [] in
      let filled = fill_lane l [] m done empty e (omega arith) (omega (arith, f 0)) ∙ ap holding (sym (append_snoc done l empty)) in
      over_append (fill m l) (fills (suc m) lanes) (holding (done ++ [] ∷ empty))
      ∙ ap (λ (s : Sender). sender_over s (fills (suc m) lanes)) filled
      ∙ fill_all lanes (suc m) (done ++ l ∷ []) (omega (arith, length-append done (l ∷ []))) (omega arith) (λ m. f (suc m))
      ∙ ap holding (append_snoc done l lanes)

reached_full : (bound : ℕ) (s : Sender) → Settled s → Numbered bound s → calls ≤ length s.out → Reached bound s
unfolding fresh
reached_full bound s w o h =
    let start : Sender = record { lanes = replicate (length s.lanes) []; out = s.out; turn = s.turn } in
    let moved : turn_after 0 s.out ≡ s.turn = turned s.out h ∙ sym (w.last h) in
    let entered : sender_over fresh (enters s.out) ≡ start = enter_calls s.out fresh fresh_settled w.there (omega (arith, w.within)) ∙ rw (w.eight, moved) in
    record {
      uses = enters s.out ++ fills 0 s.lanes;
      given = all_append (Fine bound) (enters s.out) (fills 0 s.lanes) (enters_fine bound s.out w.there o.out) (fills_fine bound 0 s.lanes (omega (arith, w.eight)) o.waiting);
      is = over_append (enters s.out) (fills 0 s.lanes) fresh
          ∙ ap (λ (start : Sender). sender_over start (fills 0 s.lanes)) entered
          ∙ fill_all s.out s.turn h s.lanes 0 [] refl (omega (arith, w.eight)) w.short;
    }
  where
    turned : (out : List Call) → calls ≤ length out → turn_after 0 out ≡ after (last_mill out)
    turned [] h = absurd (omega arith)
    turned (c ∷ out) h = turn_last 0 c out

-- ---- both ways

pub settled_is_reached : (bound : ℕ) → calls ≤ bound → (s : Sender) → SettledIsReached bound s
settled_is_reached bound b s = record {
  settled = λ r. (
    subst Settled r.is (over_settled r.uses fresh fresh_settled),
    subst (Numbered bound) r.is (over_numbered bound r.uses fresh (fresh_numbered bound) r.given),
  );
  reached = λ w o. busy s w (reached_full bound s w o) (reached_few bound b s w o.out);
}
