-- The entries of one queue: those that are due are told, and leave it. Assumes nothing.
use Rattle.std.specs.Prelude.{Some}
use Rattle.format.proofs.Options.{Some-injective, None-ne-Some}
use Prim.Native.Nat.{ℕ, zero, suc, ◌+◌, ◌-◌, ◌≤◌, ◌<◌}
use native.Mathlib.Nat.{not-suc-le-zero, le_of_suc-le-suc}
use native.Mathlib.Omega.{arith}
use mathlib.Core.Path.{◌≡◌, refl, sym, ap, ◌∙◌, subst}
use mathlib.Core.List.{List, [], ◌∷◌, ◌++◌}
use mathlib.Core.Bool.{Bool, true, false, not}
use lib.ListN.{length, take, drop, get_or, length-drop}
use lib.Seq.{take_all}
use Rattle.model.specs.Event.{Text}
use Rattle.model.specs.Seam.{ResourceId}
use Rattle.model.specs.Edits.{Timestamp, EditId}
use Rattle.model.specs.Calls.{Notice, Effect}
use Rattle.model.specs.State.{Pending, Queue, SyncState}
use Rattle.model.specs.Maps.{when◌then◌else◌, filter, is_some_and}
use Rattle.model.specs.Machine.{Machine, Run, ok, ◌>>=◌, for_each, tell}
use Rattle.model.specs.Sync.{due, ids_of, tell_expired, due_entries, kept_entries}
use Rattle.state.specs.Contract.{Keeps, HasState, Reads, Edits}
use Rattle.state.specs.Values.{name_of}
use Rattle.state.proofs.Padded.{text_name_only}
use Rattle.waiting.specs.Queues.{queue, put_queue, nth, without}
use Rattle.waiting.specs.Reading.{nth_id, ReadsId, ids_number}
use Rattle.machine.specs.declared.Progress.{Progress}
use Rattle.machine.specs.Contract.{Does, Pushes}
use Rattle.machine.proofs.Runs as runs
use Rattle.observe.proofs.Each as each
use Rattle.clock.specs.Expiring.{tell_due, kept_behind, unless_due}
use Rattle.waiting.proofs.Algebra as algebra
use Rattle.waiting.proofs.Lists.{nth_some}

-- a time as its bits give it
pub due_at : (r : ResourceId) (j : ℕ) {x y : Timestamp} {w : List ℕ} {b : Bool} → x ≡ y → Reads (λ s. is_some_and (λ p. due x p.edit) (nth j (queue r s))) w b → Reads (λ s. is_some_and (λ p. due y p.edit) (nth j (queue r s))) w b
due_at r j {w = w} {b} e B = subst (λ (t : Timestamp). Reads (λ s. is_some_and (λ p. due t p.edit) (nth j (queue r s))) w b) e B

-- ---- the ids of an entry

abbrev pub tell_id : EditId → Machine → Run
tell_id id = tell (Notice.Expired id)

nth_there : (k : ℕ) (ids : List Text) → k < length ids → nth_id k ids ≡ Some (get_or ids k [])
unfolding nth_id
nth_there k [] h = absurd (not-suc-le-zero h)
nth_there zero (x ∷ ids) h = refl
nth_there (suc k) (x ∷ ids) h = nth_there k ids (le_of_suc-le-suc h)

module _ (r : ResourceId) (j n : ℕ) (e : Pending) {w : List ℕ} (H : HasState w) (N : Reads (λ s. ids_number (nth j (queue r s))) w n) (E : Reads (λ s. nth j (queue r s)) w (Some e)) where
  number : n ≡ length (ids_of e)
  unfolding ids_number
  number = N.is H.state H.keeps ∙ ap ids_number (sym (E.is H.state H.keeps))

  pub id_turn : (k : ℕ) (b : List ℕ) {o o₁ o₂ : List ℕ} {p q s : Progress} → k < n → ReadsId r j k w b → Does (for_each tell_id (take k (ids_of e))) w o p q w o₁
      → Pushes (Effect.Notify (Notice.Expired (name_of b))) o₁ q s o₂ → Does (for_each tell_id (take (k + 1) (ids_of e))) w o p s w o₂
  unfolding tell
  id_turn k b {o₁ = o₁} {o₂} {q = q} {s} l I D P =
      let c : n ≡ length (ids_of e) = number in
      let i : Text = get_or (ids_of e) k [] in
      let f : name_of b ≡ get_or (ids_of e) k [] =
      ap name_of (I.is H.state H.keeps e (sym (E.is H.state H.keeps)) (get_or (ids_of e) k []) (nth_there k (ids_of e) (omega arith))).0 ∙ text_name_only (get_or (ids_of e) k []) in
      each.each_turn tell_id (ids_of e) [] k (omega arith) D (subst (λ (x : Text). Does (tell_id x) w o₁ q s w o₂) f (runs.is (tell_id (name_of b)) (λ m. refl) (P.does w)))

  pub id_end : (k : ℕ) {o o₁ : List ℕ} {p q : Progress} → k ≤ n → n ≤ k → Does (for_each tell_id (take k (ids_of e))) w o p q w o₁ → Does (tell_expired e) w o p q w o₁
  unfolding tell_expired
  id_end k a b D = let c : n ≡ length (ids_of e) = number in runs.is (tell_expired e) (λ m. refl) (each.each_end tell_id (ids_of e) k (omega arith) D)

-- ---- one entry

due_is : (r : ResourceId) (j : ℕ) (at : Timestamp) (e : Pending) {w : List ℕ} {b : Bool} → HasState w → Reads (λ s. is_some_and (λ p. due at p.edit) (nth j (queue r s))) w b → Reads (λ s. nth j (queue r s)) w (Some e) → due at e.edit ≡ b
unfolding is_some_and
due_is r j at e H B E = sym (B.is H.state H.keeps ∙ ap (is_some_and (λ p. due at p.edit)) (sym (E.is H.state H.keeps)))

one_told : (at : Timestamp) (e : Pending) (m : Machine) → due at e.edit ≡ true → tell_expired e m ≡ tell_due at (e ∷ []) m
unfolding due_entries filter when◌then◌else◌ for_each
one_told at e m d = sym (rw d (runs.bind_ok (tell_expired e m)))

one_left : (at : Timestamp) (e : Pending) (m : Machine) → due at e.edit ≡ false → ok m ≡ tell_due at (e ∷ []) m
unfolding due_entries filter when◌then◌else◌ for_each
one_left at e m d = rw d

module _ (r : ResourceId) (j : ℕ) (at : Timestamp) {w : List ℕ} {b : Bool} (H : HasState w) (B : Reads (λ s. is_some_and (λ p. due at p.edit) (nth j (queue r s))) w b) where
  pub told : {o o' : List ℕ} {p q : Progress} → b ≡ true → ((e : Pending) → Reads (λ s. nth j (queue r s)) w (Some e) → Does (tell_expired e) w o p q w o')
      → (e : Pending) → Reads (λ s. nth j (queue r s)) w (Some e) → Does (tell_due at (e ∷ [])) w o p q w o'
  told z D e E = runs.is (tell_due at (e ∷ [])) (λ m. one_told at e m (due_is r j at e H B E ∙ z)) (D e E)

  pub not_told : {o : List ℕ} {p : Progress} → b ≡ false → (e : Pending) → Reads (λ s. nth j (queue r s)) w (Some e) → Does (tell_due at (e ∷ [])) w o p p w o
  not_told z e E = runs.is (tell_due at (e ∷ [])) (λ m. one_left at e m (due_is r j at e H B E ∙ z)) runs.nothing

-- ---- the entries behind the first n

for_append : {A : Type 0} (f : A → Machine → Run) (a b : List A) (m : Machine) → for_each f (a ++ b) m ≡ (for_each f a m >>= for_each f b)
unfolding for_each ◌>>=◌
for_append f [] b m = refl
for_append f (x ∷ a) b m = each.bind_same (f x m) (for_each f (a ++ b)) (λ n. for_each f a n >>= for_each f b) (for_append f a b) ∙ sym (each.bind_assoc (f x m) (for_each f a) (for_each f b))

filter_append : {A : Type 0} (p : A → Bool) (a b : List A) → filter p (a ++ b) ≡ filter p a ++ filter p b
unfolding filter when◌then◌else◌
filter_append p [] b = refl
filter_append {A} p (x ∷ a) b = go (p x) (filter_append p a b)
  where
    go : (c : Bool) → filter p (a ++ b) ≡ filter p a ++ filter p b → (when c then x ∷ filter p (a ++ b) else filter p (a ++ b)) ≡ (when c then x ∷ filter p a else filter p a) ++ filter p b
    go true e = ap (λ (l : List A). x ∷ l) e
    go false e = e

due_more : (at : Timestamp) (a b : Queue) (m : Machine) → (tell_due at a m >>= tell_due at b) ≡ tell_due at (a ++ b) m
unfolding due_entries
due_more at a b m = sym (ap (λ (l : Queue). for_each tell_expired l m) (filter_append (λ p. due at p.edit) a b) ∙ for_append tell_expired (due_entries at a) (due_entries at b) m)

take_more : (i : ℕ) (q : Queue) (e : Pending) → nth i q ≡ Some e → take (suc i) q ≡ take i q ++ (e ∷ [])
unfolding nth
take_more i [] e g = absurd (None-ne-Some e g)
take_more zero (p ∷ q) e g = ap (λ (x : Pending). x ∷ []) (Some-injective p e g)
take_more (suc i) (p ∷ q) e g = ap (λ (l : Queue). p ∷ l) (take_more i q e g)

nth_drop : (n i : ℕ) (q : Queue) → nth i (drop n q) ≡ nth (n + i) q
unfolding nth
nth_drop n i [] = go n
  where
    go : (n : ℕ) → nth i (drop n []) ≡ nth (n + i) []
    go zero = refl
    go (suc n) = refl
nth_drop zero i (p ∷ q) = let e : zero + i ≡ i = omega arith in ap (λ (k : ℕ). nth k (p ∷ q)) (sym e)
nth_drop (suc n) i (p ∷ q) = let e : suc n + i ≡ suc (n + i) = omega arith in nth_drop n i q ∙ ap (λ (k : ℕ). nth k (p ∷ q)) (sym e)

module _ (r : ResourceId) (at : Timestamp) (n total : ℕ) {w : List ℕ} (H : HasState w) (N : Reads (λ s. length (queue r s)) w total) (l : Queue) (Q : Reads (λ s. queue r s) w l) where
  long : total ≡ length l
  long = N.is H.state H.keeps ∙ ap length (sym (Q.is H.state H.keeps))

  pub due_turn : (j : ℕ) {o o₁ o₂ : List ℕ} {p q s : Progress} → n ≤ j → j < total → Does (tell_due at (take (j - n) (drop n l))) w o p q w o₁
      → ((e : Pending) → Reads (λ s. nth j (queue r s)) w (Some e) → Does (tell_due at (e ∷ [])) w o₁ q s w o₂) → Does (tell_due at (take (j + 1 - n) (drop n l))) w o p s w o₂
  due_turn j a b D T =
      let c : total ≡ length l = long in
      let E = nth_some j l (omega arith) in
      let k : n + (j - n) ≡ j = omega arith in
      let i : j + 1 - n ≡ suc (j - n) = omega arith in
      let g : nth (j - n) (drop n l) ≡ Some E.0 = nth_drop n (j - n) l ∙ ap (λ (x : ℕ). nth x l) k ∙ E.1 in
      let t : take (j - n) (drop n l) ++ (E.0 ∷ []) ≡ take (j + 1 - n) (drop n l) = sym (ap (λ (x : ℕ). take x (drop n l)) i ∙ take_more (j - n) (drop n l) E.0 g) in
      let R : Reads (λ s. nth j (queue r s)) w (Some E.0) = record { is = λ s h. sym E.1 ∙ ap (nth j) (Q.is s h) } in
      runs.is (tell_due at (take (j + 1 - n) (drop n l))) (λ m. due_more at (take (j - n) (drop n l)) (E.0 ∷ []) m ∙ ap (λ (x : Queue). tell_due at x m) t) (runs.next D (T E.0 R))

  pub due_end : (j : ℕ) {o o₁ : List ℕ} {p q : Progress} → n ≤ j → total ≤ j → Does (tell_due at (take (j - n) (drop n l))) w o p q w o₁ → Does (tell_due at (drop n l)) w o p q w o₁
  due_end j a b D =
      let c : total ≡ length l = long in
      let d : length (drop n l) ≡ length l - n = length-drop n l in
      runs.is (tell_due at (drop n l)) (λ m. ap (λ (x : Queue). tell_due at x m) (take_all (j - n) (drop n l) (omega arith))) D

pub due_start : (at : Timestamp) (n : ℕ) (l : Queue) {w o : List ℕ} {p : Progress} → Does (tell_due at (take (n - n) (drop n l))) w o p p w o
unfolding due_entries filter for_each
due_start at n l = let e : n - n ≡ 0 = omega arith in runs.is (tell_due at (take (n - n) (drop n l))) (λ m. sym (ap (λ (x : ℕ). tell_due at (take x (drop n l)) m) e)) runs.nothing

-- ---- what is left

kept_step : (at : Timestamp) (j : ℕ) (q : Queue) → j < length q → unless_due at j (kept_behind (suc j) at q) ≡ kept_behind j at q
unfolding nth without is_some_and when◌then◌else◌ kept_entries filter
kept_step at j [] h = absurd (not-suc-le-zero h)
kept_step at zero (p ∷ q) h = go (due at p.edit)
  where
    go : (b : Bool) → (when b then kept_entries at q else p ∷ kept_entries at q) ≡ (when not b then p ∷ kept_entries at q else kept_entries at q)
    go true = refl
    go false = refl
kept_step at (suc j) (p ∷ q) h = go (is_some_and (λ x. due at x.edit) (nth j (kept_behind (suc j) at q))) ∙ ap (λ (l : Queue). p ∷ l) (kept_step at j q (le_of_suc-le-suc h))
  where
    go : (b : Bool) → (when b then without (suc j) (p ∷ kept_behind (suc j) at q) else p ∷ kept_behind (suc j) at q) ≡ p ∷ (when b then without j (kept_behind (suc j) at q) else kept_behind (suc j) at q)
    go true = refl
    go false = refl

-- with more of the first entries, where there are no more
kept_same : (at : Timestamp) (j n : ℕ) (q : Queue) → j ≤ n → (j < n → length q ≤ j) → kept_behind j at q ≡ kept_behind n at q
unfolding kept_entries filter
kept_same at zero zero q a b = refl
kept_same at zero (suc n) [] a b = refl
kept_same at zero (suc n) (p ∷ q) a b = absurd (not-suc-le-zero (b (omega arith)))
kept_same at (suc j) zero q a b = absurd (omega arith)
kept_same at (suc j) (suc n) [] a b = refl
kept_same at (suc j) (suc n) (p ∷ q) a b = ap (λ (l : Queue). p ∷ l) (kept_same at j n q (omega arith) (λ h. le_of_suc-le-suc (b (omega arith))))

kept_all : (at : Timestamp) (n : ℕ) (q : Queue) → length q ≤ n → kept_behind n at q ≡ q
unfolding kept_entries filter
kept_all at zero [] h = refl
kept_all at zero (p ∷ q) h = absurd (not-suc-le-zero h)
kept_all at (suc n) [] h = refl
kept_all at (suc n) (p ∷ q) h = ap (λ (l : Queue). p ∷ l) (kept_all at n q (le_of_suc-le-suc h))

-- a queue that is put as it is
same_queue : (r : ResourceId) (f : Queue → Queue) {w : List ℕ} → ((s : SyncState) → Keeps s w → f (queue r s) ≡ queue r s) → Edits (λ s. put_queue r (f (queue r s)) s) w w
same_queue r f {w} e = record {
  makes = λ s h. subst (λ (x : SyncState). Keeps x w) (sym (ap (λ (q : Queue). put_queue r q s) (e s h) ∙ algebra.put_own s h.fits r)) h;
}

module _ (r : ResourceId) (j : ℕ) (at : Timestamp) {w : List ℕ} {b : Bool} (B : Reads (λ s. is_some_and (λ p. due at p.edit) (nth j (queue r s))) w b) where
  pub dropped : {w' : List ℕ} → b ≡ true → Edits (λ s. put_queue r (without j (queue r s)) s) w w' → Edits (λ s. put_queue r (unless_due at j (queue r s)) s) w w'
  unfolding when◌then◌else◌
  dropped {w'} z E = record {
    makes = λ s h. subst (λ (c : Bool). Keeps (put_queue r (when c then without j (queue r s) else queue r s) s) w') (sym z ∙ B.is s h) (E.makes s h);
  }

  pub not_dropped : b ≡ false → Edits (λ s. put_queue r (unless_due at j (queue r s)) s) w w
  unfolding when◌then◌else◌
  not_dropped z = same_queue r (unless_due at j) (λ s h. ap (λ (c : Bool). when c then without j (queue r s) else queue r s) (sym (B.is s h) ∙ z))

pub kept_start : (r : ResourceId) (at : Timestamp) (n : ℕ) {w : List ℕ} → Reads (λ s. length (queue r s)) w n → Edits (λ s. put_queue r (kept_behind n at (queue r s)) s) w w
kept_start r at n N = same_queue r (kept_behind n at) (λ s h. kept_all at n (queue r s) (let e = N.is s h in omega arith))

pub kept_turn : (r : ResourceId) (at : Timestamp) (n j : ℕ) {w w₁ w₂ : List ℕ} → Reads (λ s. length (queue r s)) w n → 0 < j → j ≤ n → Edits (λ s. put_queue r (kept_behind j at (queue r s)) s) w w₁
    → Edits (λ s. put_queue r (unless_due at (j - 1) (queue r s)) s) w₁ w₂ → Edits (λ s. put_queue r (kept_behind (j - 1) at (queue r s)) s) w w₂
kept_turn r at n j {w₂ = w₂} N a b E F = record {
  makes = λ s h.
      let t = h.fits.edits.rises in
      let q : Queue = kept_behind j at (queue r s) in
      let c : n ≡ length (queue r s) = N.is s h in
      let i : suc (j - 1) ≡ j = omega arith in
      let e : unless_due at (j - 1) (kept_behind j at (queue r s)) ≡ kept_behind (j - 1) at (queue r s) =
      ap (λ (x : ℕ). unless_due at (j - 1) (kept_behind x at (queue r s))) (sym i) ∙ kept_step at (j - 1) (queue r s) (omega arith) in
      let f : put_queue r (unless_due at (j - 1) (queue r (put_queue r (kept_behind j at (queue r s)) s))) (put_queue r (kept_behind j at (queue r s)) s) ≡ put_queue r (kept_behind (j - 1) at (queue r s)) s =
      ap (λ (x : Queue). put_queue r (unless_due at (j - 1) x) (put_queue r (kept_behind j at (queue r s)) s)) (algebra.queue_put s t r (kept_behind j at (queue r s)))
      ∙ algebra.put_put s t r (unless_due at (j - 1) (kept_behind j at (queue r s))) (kept_behind j at (queue r s)) ∙ ap (λ (x : Queue). put_queue r x s) e in
      subst (λ (x : SyncState). Keeps x w₂) f (F.makes (put_queue r (kept_behind j at (queue r s)) s) (E.makes s h));
}

pub kept_end : (r : ResourceId) (at : Timestamp) (n j total : ℕ) {w w₁ : List ℕ} → Reads (λ s. length (queue r s)) w total → j ≤ n → (j < n → total ≤ j) → Edits (λ s. put_queue r (kept_behind j at (queue r s)) s) w w₁
    → Edits (λ s. put_queue r (kept_behind n at (queue r s)) s) w w₁
kept_end r at n j total {w₁ = w₁} N a b E = record {
  makes = λ s h. subst (λ (x : Queue). Keeps (put_queue r x s) w₁) (kept_same at j n (queue r s) a (λ l. let c = N.is s h in let d = b l in omega arith)) (E.makes s h);
}

pub kept_at : (r : ResourceId) (n : ℕ) {x y : Timestamp} {w w₁ : List ℕ} → x ≡ y → Edits (λ s. put_queue r (kept_behind n x (queue r s)) s) w w₁ → Edits (λ s. put_queue r (kept_behind n y (queue r s)) s) w w₁
kept_at r n {w = w} {w₁} e E = subst (λ (t : Timestamp). Edits (λ s. put_queue r (kept_behind n t (queue r s)) s) w w₁) e E

pub told_at : {x y : Timestamp} (l : Queue) {w o o₁ : List ℕ} {p q : Progress} → x ≡ y → Does (tell_due x l) w o p q w o₁ → Does (tell_due y l) w o p q w o₁
told_at l {w} {o} {o₁} {p} {q} e D = subst (λ (t : Timestamp). Does (tell_due t l) w o p q w o₁) e D
