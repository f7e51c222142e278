-- Effects and inserts: what one of them does to the machine. Assumes nothing.
use Rattle.std.specs.Prelude.{Option, Some, None}
use Prim.Native.Nat.{ℕ, ◌+◌, ◌-◌, ◌^◌, ◌≤◌, ◌<◌}
use native.Mathlib.Omega.{arith}
use mathlib.Core.Path.{◌≡◌, refl, sym, ap, ◌∙◌, subst}
use mathlib.Core.List.{List}
use mathlib.Core.Bool.{Bool, true, false, cond, ◌||◌}
use lib.ListN.{length, take, drop}
use lib.Dec.{leb, ltb, eqb}
use borrow.Author.Tests.{eq-eqb, ne_eqb, lt-ltb, le-ltb}
use Rattle.format.specs.Format.{text as textFormat}
use Rattle.tables.specs.Table.{text}
use Rattle.model.specs.Seam
use Rattle.model.specs.Seam.{ResourceId}
use Rattle.model.specs.Calls.{Effect}
use Rattle.model.specs.State.{SyncState, Purpose, with_learned, with_in_flight, with_next_request}
use Rattle.model.specs.Limits.{document01, max_id}
use Rattle.model.specs.Maps.{when◌then◌else◌, by_name, by_number, insert, get, is_some_and}
use Rattle.model.specs.Machine.{Machine, Run, refused, ok, ◌>>=◌, with_state, within, push, request, set_learned, set_in_flight, set_next_request}
use Rattle.model.specs.Sync.{learn}
use Rattle.pens.specs.declared.Pen.{Pen}
use Rattle.effects.specs.Told.{Told}
use Rattle.effects.specs.Sent.{pen}
use Rattle.effects.proofs.Pushed.{pushed, refuses, sent_more}
use Rattle.state.specs.Values.{Named}
use Rattle.state.specs.Contract.{Keeps, HasState, Reads, Edits, Tries}
use Rattle.machine.specs.declared.Progress.{Progress}
use Rattle.machine.specs.Contract.{Holds, Ran, Does, Changes, Pushes}
use Rattle.machine.specs.Steps.{pen_of, refusal, unless, sent_by, tried_by, reserve}
use Rattle.machine.proofs.Runs.{next, is_held}

-- ---- how far the step has come

pub stopped : (p q : Progress) → (p.code ≡ 0 → ⊥) → unless p q ≡ p
stopped p q n = rw (ne_eqb p.code 0 n)

pub going : (p q : Progress) → p.code ≡ 0 → unless p q ≡ q
going p q z = rw (eq-eqb p.code 0 z)

pub sent_stopped : (p : Progress) (q : Pen) → (p.code ≡ 0 → ⊥) → p ≡ sent_by p q
sent_stopped p q n = sym (stopped p (cond q.ok (record { code = 0; at = q.at }) (refusal 7)) n)

pub sent_on : (p : Progress) (q : Pen) → p.code ≡ 0 → q.ok ≡ true → record { code = 0; at = q.at } ≡ sent_by p q
sent_on p q z e = sym (going p (cond q.ok (record { code = 0; at = q.at }) (refusal 7)) z ∙ ap (λ (b : Bool). cond b (record { code = 0; at = q.at }) (refusal 7)) e)

pub sent_full : (p : Progress) (q : Pen) → p.code ≡ 0 → q.ok ≡ false → refusal 7 ≡ sent_by p q
sent_full p q z e = sym (going p (cond q.ok (record { code = 0; at = q.at }) (refusal 7)) z ∙ ap (λ (b : Bool). cond b (record { code = 0; at = q.at }) (refusal 7)) e)

pub tried_stopped : (p : Progress) (b : Bool) → (p.code ≡ 0 → ⊥) → p ≡ tried_by p b
tried_stopped p b n = sym (stopped p (cond b p (refusal 5)) n)

pub tried_in : (p : Progress) (b : Bool) → p.code ≡ 0 → b ≡ true → p ≡ tried_by p b
tried_in p b z e = sym (going p (cond b p (refusal 5)) z ∙ ap (λ (b : Bool). cond b p (refusal 5)) e)

pub tried_out : (p : Progress) (b : Bool) → p.code ≡ 0 → b ≡ false → refusal 5 ≡ tried_by p b
tried_out p b z e = sym (going p (cond b p (refusal 5)) z ∙ ap (λ (b : Bool). cond b p (refusal 5)) e)

-- ---- an effect

module _ {e : Effect} {o o' : List ℕ} (p : Progress) {q : Pen} (W : Told e o o' (pen_of p) q) where
  at_pen : p.code ≡ 0 → Told e o o' (pen p.at) q
  at_pen z = subst (λ (b : Bool). Told e o o' (record { at = p.at; ok = b }) q) (eq-eqb p.code 0 z) W

  ran_push : (w : List ℕ) (m : Machine) (T : Told e o o' (pen p.at) q) → Holds m w o p.at → (b : Bool) → q.ok ≡ b
      → Ran (push e m) (cond b (record { code = 0; at = q.at }) (refusal 7)) w o'
  unfolding Ran
  ran_push w m T h true k =
      rw (pushed m h.sent T k) (refl, record { limits = h.limits; keeps = h.keeps; sent = sent_more h.sent T k })
  ran_push w m T h false k = rw (refuses m h.sent T k) (refl, λ z. omega arith)

  pub pushes : Pushes e o p (sent_by p q) o'
  pushes = record {
    does = λ w. record {
      run = λ z m h. subst (λ (r : Progress). Ran (push e m) r w o') (sym (going p (cond q.ok (record { code = 0; at = q.at }) (refusal 7)) z))
          (ran_push w m (at_pen z) h q.ok refl);
      stays = λ n. ap (λ (r : Progress). r.code) (stopped p (cond q.ok (record { code = 0; at = q.at }) (refusal 7)) n);
      state = λ h. h;
    };
  }

-- the same, as the functions' promises give it
pub told : {e : Effect} {o o' : List ℕ} {p r : Progress} {x q : Pen} → x ≡ pen_of p → Told e o o' x q → r ≡ sent_by p q → Pushes e o p r o'
told {e} {o} {o'} {p} {q = q} a W b = subst (λ (r : Progress). Pushes e o p r o') (sym b) (pushes p (subst (λ (x : Pen). Told e o o' x q) a W))

-- ---- an insert

-- what `Tries` says, but that a refusal may leave another state
pub record Attempts (t : SyncState → Bool) (f : SyncState → SyncState) (w : List ℕ) (b : Bool) (w' : List ℕ) : Type 0 where
  pub is : (s : SyncState) → Keeps s w → b ≡ t s
  pub makes : (s : SyncState) → Keeps s w → b ≡ true → Keeps (f s) w'
  pub leaves : (s : SyncState) → Keeps s w → b ≡ false → HasState w'

attempts : {t : SyncState → Bool} {f : SyncState → SyncState} {w w' : List ℕ} {b : Bool} → Tries t f w b w' → Attempts t f w b w'
attempts T = record { is = T.is; makes = T.makes; leaves = λ s h y. record { state = s; keeps = T.stays s h y } }

module _ {t : SyncState → Bool} {f : SyncState → SyncState} {w w' : List ℕ} {b : Bool} (run : Machine → Run) (p : Progress) (T : Attempts t f w b w')
    (same : (m : Machine) → m.limits ≡ document01 → Keeps m.state w → run m ≡ (when t m.state then ok (with_state (f m.state) m) else refused 5)) where
  ran_try : (o : List ℕ) (m : Machine) → Holds m w o p.at → p.code ≡ 0 → (c : Bool) → b ≡ c
      → Ran (when c then ok (with_state (f m.state) m) else refused 5) (cond c p (refusal 5)) w' o
  unfolding Ran when◌then◌else◌
  ran_try o m h z true k = (z, record { limits = h.limits; keeps = T.makes m.state h.keeps k; sent = h.sent })
  ran_try o m h z false k = (refl, λ z. omega arith)

  kept : HasState w → (c : Bool) → b ≡ c → HasState w'
  kept h true k = record { state = f h.state; keeps = T.makes h.state h.keeps k }
  kept h false k = T.leaves h.state h.keeps k

  pub attempted : Changes run w p (tried_by p b) w'
  attempted = record {
    does = λ o. record {
      run = λ z m h.
          let e : run m ≡ (when b then ok (with_state (f m.state) m) else refused 5) =
          same m h.limits h.keeps ∙ ap (λ (c : Bool). when c then ok (with_state (f m.state) m) else refused 5) (sym (T.is m.state h.keeps)) in
          subst (λ (r : Progress). Ran (run m) r w' o) (sym (going p (cond b p (refusal 5)) z))
          (subst (λ (x : Run). Ran x (cond b p (refusal 5)) w' o) (sym e) (ran_try o m h z b refl));
      stays = λ n. ap (λ (r : Progress). r.code) (stopped p (cond b p (refusal 5)) n);
      state = λ h. kept h b refl;
    };
  }

pub tries : {t : SyncState → Bool} {f : SyncState → SyncState} {w w' : List ℕ} {b : Bool} (run : Machine → Run) (p : Progress) → Tries t f w b w'
    → ((m : Machine) → m.limits ≡ document01 → Keeps m.state w → run m ≡ (when t m.state then ok (with_state (f m.state) m) else refused 5))
    → Changes run w p (tried_by p b) w'
tries run p T same = attempted run p (attempts T) same

-- ---- learn

pub learned : {w w' : List ℕ} {b : Bool} (p : Progress) (r : ResourceId) (n : ℕ) → Reads (λ s. s.next_request) w n
    → Tries (λ s. leb (length (insert by_name r n s.learned)) 32) (λ s. with_learned (insert by_name r n s.learned) s) w b w'
    → Changes (learn r) w p (tried_by p b) w'
unfolding learn within set_learned document01
learned p r n R T = tries (learn r) p T (λ m l h. rw (l, ← R.is m.state h))

-- ---- doubtful

pub surely : {w : List ℕ} {a : ℕ} (b : SyncState → Bool) (id : ℕ) → Reads (λ s. s.learned_all) w a → id < a
    → Reads (λ s. ltb id s.learned_all || b s) w true
surely {a = a} b id R e = record { is = λ s h. ap (λ (c : Bool). c || b s) (sym (lt-ltb id a e) ∙ ap (ltb id) (R.is s h)) }

pub by_learned : {w : List ℕ} {a : ℕ} {o : Option ℕ} (id : ℕ) (r : ResourceId) (v : Bool) → Reads (λ s. s.learned_all) w a → a ≤ id → Reads (λ s. get by_name r s.learned) w o
    → v ≡ is_some_and (λ since. ltb id since) o → Reads (λ s. ltb id s.learned_all || is_some_and (λ since. ltb id since) (get by_name r s.learned)) w v
by_learned {a = a} {o} id r v R e L k = record {
  is = λ s h. k ∙ ap (λ (c : Bool). c || is_some_and (λ since. ltb id since) o) (sym (le-ltb id a e) ∙ ap (ltb id) (R.is s h))
      ∙ ap (λ (x : Option ℕ). ltb id s.learned_all || is_some_and (λ since. ltb id since) x) (L.is s h);
}

pub never : (id : ℕ) {o : Option ℕ} → o ≡ None → false ≡ is_some_and (λ since. ltb id since) o
unfolding is_some_and
never id e = rw e

pub since : (id n : ℕ) {o : Option ℕ} → o ≡ Some n → ltb id n ≡ is_some_and (λ since. ltb id since) o
unfolding is_some_and
since id n e = rw e

-- ---- request

pub no_number : {w : List ℕ} (p : Progress) (purpose : Purpose) (n : ℕ) → Reads (λ s. s.next_request) w n → n ≡ 2 ^ 64 - 1 → Changes (reserve purpose) w p (unless p (refusal 4)) w
unfolding reserve when◌then◌else◌ Ran
no_number {w} p purpose n R e = record {
  does = λ o. record {
    run = λ z m h.
        let q : eqb m.state.next_request (2 ^ 64 - 1) ≡ true = eq-eqb m.state.next_request (2 ^ 64 - 1) (sym (R.is m.state h.keeps) ∙ e) in
        subst (λ (r : Progress). Ran (reserve purpose m) r w o) (sym (going p (refusal 4) z)) (rw q (refl, λ z. omega arith));
    stays = λ n. ap (λ (r : Progress). r.code) (stopped p (refusal 4) n);
    state = λ h. h;
  };
}

pub numbered : {w w₁ w₂ : List ℕ} {b : Bool} (p : Progress) (purpose : Purpose) (n : ℕ) → Reads (λ s. s.next_request) w n → (n ≡ 2 ^ 64 - 1 → ⊥) → Edits (with_next_request (n + 1)) w w₁
    → Tries (λ s. leb (length (insert by_number n purpose s.in_flight)) 24) (λ s. with_in_flight (insert by_number n purpose s.in_flight) s) w₁ b w₂
    → Changes (reserve purpose) w p (tried_by p b) w₂
unfolding reserve within set_in_flight set_next_request document01 when◌then◌else◌
numbered p purpose n R ne E T = attempted (reserve purpose) p
    (record {
      is = λ s h. T.is (with_next_request (n + 1) s) (E.makes s h);
      makes = λ s h y. T.makes (with_next_request (n + 1) s) (E.makes s h) y;
      leaves = λ s h y. record { state = with_next_request (n + 1) s; keeps = T.stays (with_next_request (n + 1) s) (E.makes s h) y };
    })
    (λ m l h. rw (ne_eqb m.state.next_request (2 ^ 64 - 1) (λ z. ne (R.is m.state h ∙ z)), l, ← R.is m.state h))

-- a number, and then the request's effect
pub request_is : (purpose : Purpose) (what : Seam.Request) (m : Machine) → (reserve purpose m >>= push (Effect.Request m.state.next_request what)) ≡ request purpose what m
unfolding reserve request when◌then◌else◌ ◌>>=◌ set_next_request push
request_is purpose what m = go (eqb m.state.next_request (2 ^ 64 - 1))
  where
    go : (b : Bool)
        → ((when b then refused 4 else within m.limits.in_flight (insert by_number m.state.next_request purpose m.state.in_flight) set_in_flight (set_next_request (m.state.next_request + 1) m))
        >>= push (Effect.Request m.state.next_request what))
        ≡ (when b then refused 4 else (within m.limits.in_flight (insert by_number m.state.next_request purpose m.state.in_flight) set_in_flight (set_next_request (m.state.next_request + 1) m)
        >>= push (Effect.Request m.state.next_request what)))
    go true = refl
    go false = refl

pub requested : {w o w₁ o₁ : List ℕ} {p q r : Progress} {n : ℕ} (purpose : Purpose) (what : Seam.Request) → Reads (λ s. s.next_request) w n → Changes (reserve purpose) w p q w₁ → Pushes (Effect.Request n what) o q r o₁
    → Does (request purpose what) w o p r w₁ o₁
requested {w} {o} {w₁} {o₁} {p} {q} {r} {n} purpose what R C P =
    is_held (request purpose what) (λ m h. ap (λ (k : ℕ). reserve purpose m >>= push (Effect.Request k what)) (R.is m.state h.keeps) ∙ request_is purpose what m)
    (next (C.does o) (P.does w₁))

-- ---- the same, with the answers as the functions' promises give them

pub changed : {f : Machine → Run} {w w' : List ℕ} {p q r : Progress} → r ≡ q → Changes f w p q w' → Changes f w p r w'
changed {f} {w} {w'} {p} e C = subst (λ (r : Progress). Changes f w p r w') (sym e) C

-- an effect that holds a text which is another's
pub sends : {e : Effect} (e' : Effect) {o o' : List ℕ} {p q : Progress} → e ≡ e' → Pushes e o p q o' → Pushes e' o p q o'
sends e' {o} {o'} {p} {q} a P = subst (λ (x : Effect). Pushes x o p q o') a P

-- ---- the text of a name

pub text_part : (key t : List ℕ) (n : ℕ) → take n (drop 1 key) ≡ t → take (n + 1 - 1) (drop 1 key) ≡ t
text_part key t n e = let k : n + 1 - 1 ≡ n = omega arith in ap (λ (i : ℕ). take i (drop 1 key)) k ∙ e

pub short_text : (b t : List ℕ) → t ≡ text b → Named b → length t ≤ 255
unfolding textFormat max_id
short_text b t e N = subst (λ (x : List ℕ). length x ≤ 255) (sym e) (let h = N.ok.0 in omega arith)
