-- The open pass, and the names to be read. Assumes nothing.
use Rattle.std.specs.Prelude.{Option, Some, None}
use Prim.Native.Nat.{ℕ, suc, ◌+◌, ◌≤◌, ◌<◌}
use native.Mathlib.Omega.{arith}
use mathlib.Core.Path.{◌≡◌, refl, sym, ap, ap₂, ◌∙◌}
use mathlib.Core.List.{List, [], ◌∷◌, ◌++◌, append-nil}
use mathlib.Core.Bool.{Bool, true, false, not, ◌&&◌}
use lib.ListN.{length, take, get_or, length-append}
use lib.Dec.{leb}
use lib.Seq.{take-suc, take_all}
use Rattle.model.specs.Event.{Text}
use Rattle.model.specs.Seam.{ResourceId, Request}
use Rattle.model.specs.State.{Map, Staged, Pass, Purpose, SyncState}
use Rattle.model.specs.Limits.{Limits, document01}
use Rattle.model.specs.Maps.{when◌then◌else◌, by_name, any, filter, map, keys, values, retain, insert, add, is_some}
use Rattle.model.specs.Formats.{resource_id, same}
use Rattle.model.specs.SavedForm.{staged_f, purpose_f}
use Rattle.model.specs.Machine.{Machine, Run, refused, ok, ◌>>=◌, for_each, match◌none:◌some:◌, within, request, with_state, in_pass, change_pass, set_pass, with_staged, with_seen, with_observed, stage, see, watch}
use Rattle.model.specs.Sync.{is_unread, pass_reads, refreshes, in_flight_any, unread, read_unread, learn, doubt_in_pass, doubt}
use Rattle.format.specs.Format.{All}
use Rattle.model.proofs.Fitting.{any_same, map-append}
use Rattle.state.specs.Layout.{name_slot, pass_of, no_pass}
use Rattle.state.specs.Setters.{with_pass, pass_changed}
use Rattle.state.specs.Contract.{Keeps, HasState, Reads, Tries}
use Rattle.state.specs.Values.{name_of, EachNamed}
use Rattle.state.proofs.Padded.{text_name_only}
use Rattle.state.proofs.Names.{each_named}
use Rattle.state.proofs.Columns as columns
use Rattle.state.proofs.Bridge as bridge
use Rattle.staged.specs.Staging.{staged_of, may_stage, with_stage, staged_at, Meant, StagedAt}
use Rattle.staged.specs.declared.Staged.{Staged as Answer}
use Rattle.staged.specs.declared.Staged.TheVariants as answer
use Rattle.staged.proofs.Laws as staged
use Rattle.tables.specs.Table.{text}
use Rattle.machine.specs.declared.Progress.{Progress}
use Rattle.machine.specs.Contract.{Does, Changes}
use Rattle.machine.specs.Steps.{tried_by}
use Rattle.machine.proofs.Runs as runs
use Rattle.machine.proofs.Steps as steps
use Rattle.observe.specs.Reading.{to_read, unread_of, all_unread, Noted, read_for_pass}
use Rattle.observe.proofs.Each as each

-- ---- an insert into a table of the open pass

tried_in_pass : (test : Pass → Bool) (f : Pass → Pass → Pass) (m : Machine) (o : Option Pass)
    → (match o none: ok m some: (λ pass. when test pass then ok (match o none: m some: (λ q. set_pass (Some (f pass q)) m)) else refused 5))
    ≡ (when (match o none: true some: test) then ok (with_state (match o none: m.state some: (λ q. with_pass (Some (f q q)) m.state)) m) else refused 5)
unfolding match◌none:◌some:◌ when◌then◌else◌ set_pass
tried_in_pass test f m None = refl
tried_in_pass test f m (Some p) = refl

stage_is : (r : ResourceId) (v : Staged) (m : Machine) → m.limits ≡ document01 → stage r v m ≡ (when may_stage r v m.state then ok (with_state (with_stage r v m.state) m) else refused 5)
unfolding stage in_pass within change_pass pass_changed document01
stage_is r v m l = tried_in_pass (λ p. leb (length (insert by_name r v p.staged)) m.limits.staged) (λ p q. with_staged (insert by_name r v p.staged) q) m m.state.pass
    ∙ ap (λ (x : Limits). when (match m.state.pass none: true some: (λ p. leb (length (insert by_name r v p.staged)) x.staged)) then ok (with_state (with_stage r v m.state) m) else refused 5) l

pub staged_tries : {w w' : List ℕ} {b : Bool} (p : Progress) (r : ResourceId) (v : Staged) → Tries (may_stage r v) (with_stage r v) w b w' → Changes (stage r v) w p (tried_by p b) w'
staged_tries p r v T = steps.tries (stage r v) p T (λ m l h. stage_is r v m l)

see_is : (r : ResourceId) (m : Machine) → m.limits ≡ document01
    → see r m ≡ (when (match m.state.pass none: true some: (λ p. leb (length (add r p.seen)) 32)) then ok (with_state (pass_changed (λ p. with_seen (add r p.seen) p) m.state) m) else refused 5)
unfolding see in_pass within change_pass pass_changed document01
see_is r m l = tried_in_pass (λ p. leb (length (add r p.seen)) m.limits.seen) (λ p q. with_seen (add r p.seen) q) m m.state.pass
    ∙ ap (λ (x : Limits). when (match m.state.pass none: true some: (λ p. leb (length (add r p.seen)) x.seen)) then ok (with_state (pass_changed (λ p. with_seen (add r p.seen) p) m.state) m) else refused 5) l

pub seen_tries : {w w' : List ℕ} {b : Bool} (p : Progress) (r : ResourceId)
    → Tries (λ s. match s.pass none: true some: (λ p. leb (length (add r p.seen)) 32)) (pass_changed (λ p. with_seen (add r p.seen) p)) w b w' → Changes (see r) w p (tried_by p b) w'
seen_tries p r T = steps.tries (see r) p T (λ m l h. see_is r m l)

watch_is : (r : ResourceId) (m : Machine) → m.limits ≡ document01
    → watch r m ≡ (when (match m.state.pass none: true some: (λ p. leb (length (add r p.observed)) 16)) then ok (with_state (pass_changed (λ p. with_observed (add r p.observed) p) m.state) m) else refused 5)
unfolding watch in_pass within change_pass pass_changed document01
watch_is r m l = tried_in_pass (λ p. leb (length (add r p.observed)) m.limits.observed) (λ p q. with_observed (add r p.observed) q) m m.state.pass
    ∙ ap (λ (x : Limits). when (match m.state.pass none: true some: (λ p. leb (length (add r p.observed)) x.observed)) then ok (with_state (pass_changed (λ p. with_observed (add r p.observed) p) m.state) m) else refused 5) l

pub watched_tries : {w w' : List ℕ} {b : Bool} (p : Progress) (r : ResourceId)
    → Tries (λ s. match s.pass none: true some: (λ p. leb (length (add r p.observed)) 16)) (pass_changed (λ p. with_observed (add r p.observed) p)) w b w' → Changes (watch r) w p (tried_by p b) w'
watched_tries p r T = steps.tries (watch r) p T (λ m l h. watch_is r m l)

-- ---- the names to be read: one entry more

keys_append : (a b : Map ResourceId Staged) → keys (a ++ b) ≡ keys a ++ keys b
unfolding keys map
keys_append [] b = refl
keys_append (e ∷ a) b = ap (λ (x : List Text). e.0 ∷ x) (keys_append a b)

filter_append : (f : ResourceId × Staged → Bool) (a b : Map ResourceId Staged) → filter f (a ++ b) ≡ filter f a ++ filter f b
unfolding filter when◌then◌else◌
filter_append f [] b = refl
filter_append f (e ∷ a) b = go (f e) (filter_append f a b)
  where
    go : (x : Bool) → filter f (a ++ b) ≡ filter f a ++ filter f b → (when x then e ∷ filter f (a ++ b) else filter f (a ++ b)) ≡ (when x then e ∷ filter f a else filter f a) ++ filter f b
    go true h = ap (λ (m : Map ResourceId Staged). e ∷ m) h
    go false h = h

last_of : Bool → ResourceId → List Text
last_of true r = r ∷ []
last_of false r = []

one_key : (f : ResourceId × Staged → Bool) (e : ResourceId × Staged) (b : Bool) → f e ≡ b → keys (filter f (e ∷ [])) ≡ last_of b e.0
unfolding keys map filter last_of when◌then◌else◌
one_key f e true z = ap (λ (x : Bool). keys (when x then e ∷ [] else [])) z
one_key f e false z = ap (λ (x : Bool). keys (when x then e ∷ [] else [])) z

more : (i : ℕ) (s : SyncState) (b : Bool) → i < length (staged_of s) → to_read s (staged_at i s) ≡ b → unread_of (i + 1) s ≡ unread_of i s ++ last_of b (staged_at i s).0
more i s b l z =
    let n : i + 1 ≡ suc i = omega arith in
    ap (λ (k : ℕ). unread_of k s) n ∙ ap (λ (x : Map ResourceId Staged). keys (filter (to_read s) x)) (take-suc (staged_of s) i ([], Staged.Unread) l)
    ∙ ap keys (filter_append (to_read s) (take i (staged_of s)) (staged_at i s ∷ [])) ∙ keys_append (filter (to_read s) (take i (staged_of s))) (filter (to_read s) (staged_at i s ∷ []))
    ∙ ap (λ (x : List Text). unread_of i s ++ x) (one_key (to_read s) (staged_at i s) b z)

-- what an answer says
unread_answer : Answer → Bool
unread_answer (answer.Present p) = false
unread_answer answer.Unread = true
unread_answer answer.Removed = false

answer_unread : (w : List ℕ) (k : Answer) (v : Staged) → Meant w k v → is_unread v ≡ unread_answer k
unfolding unread_answer is_unread
answer_unread w (answer.Present p) v e = ap is_unread e.1
answer_unread w answer.Unread v e = ap is_unread e
answer_unread w answer.Removed v e = ap is_unread e

other_answer : (k : Answer) → (k ≡ answer.Unread → ⊥) → unread_answer k ≡ false
unfolding unread_answer
other_answer (answer.Present p) f = refl
other_answer answer.Unread f = absurd (f refl)
other_answer answer.Removed f = refl

staged_below : (w : List ℕ) (i : ℕ) (s : SyncState) → Keeps s w → i < get_or w 9221 0 → i < length (staged_of s)
staged_below w i s h l = let c = columns.counted staged.staged_column s w h in omega arith

-- not among them
same_names : (w : List ℕ) (names : List (List ℕ)) (i : ℕ) → i < get_or w 9221 0 → Noted i w names → ((s : SyncState) → Keeps s w → to_read s (staged_at i s) ≡ false) → Noted (i + 1) w names
unfolding last_of
same_names w names i l N z = record {
  low = omega (arith, N.low);
  is = record { is = λ s h. N.is.is s h ∙ ap (map name_slot) (sym (more i s false (staged_below w i s h l) (z s h) ∙ append-nil (unread_of i s))) };
}

entry_is : (w : List ℕ) (i : ℕ) (k : Answer) (v : Bool) → StagedAt i w k → unread_answer k ≡ v → (s : SyncState) → Keeps s w → is_unread (staged_at i s).1 ≡ v
entry_is w i k v R z s h = answer_unread w k (staged_at i s).1 (R.is s h) ∙ z

pub noted_other : (w : List ℕ) (names : List (List ℕ)) (i : ℕ) (k : Answer) → i < get_or w 9221 0 → Noted i w names → StagedAt i w k → (k ≡ answer.Unread → ⊥) → Noted (i + 1) w names
noted_other w names i k l N R f =
    same_names w names i l N (λ s h. ap (λ (x : Bool). x && not (any (pass_reads (staged_at i s).0) (values s.in_flight))) (entry_is w i k false R (other_answer k f) s h))

-- whether a read of it is in flight
asks_is : (w q : List ℕ) (i : ℕ) (a : Bool) → Reads (λ s. name_slot (staged_at i s).0) w q → Reads (λ s. any (same purpose_f (Purpose.PassRead (name_of q))) (values s.in_flight)) w a
    → (s : SyncState) → Keeps s w → any (pass_reads (staged_at i s).0) (values s.in_flight) ≡ a
asks_is w q i a N A s h =
    let n : name_of q ≡ (staged_at i s).0 = ap text (N.is s h) ∙ text_name_only (staged_at i s).0 in
    sym (A.is s h ∙ any_same (same purpose_f (Purpose.PassRead (name_of q))) (pass_reads (name_of q)) (bridge.pass_reads_is (name_of q)) (values s.in_flight)
    ∙ ap (λ (x : Text). any (pass_reads x) (values s.in_flight)) n)

read_is : (w q : List ℕ) (i : ℕ) (k : Answer) (a : Bool) → StagedAt i w k → k ≡ answer.Unread → Reads (λ s. name_slot (staged_at i s).0) w q
    → Reads (λ s. any (same purpose_f (Purpose.PassRead (name_of q))) (values s.in_flight)) w a → (s : SyncState) → Keeps s w → to_read s (staged_at i s) ≡ not a
unfolding unread_answer
read_is w q i k a R z N A s h = ap₂ (λ (x y : Bool). x && not y) (entry_is w i k true R (ap unread_answer z) s h) (asks_is w q i a N A s h)

module _ (w q : List ℕ) (names : List (List ℕ)) (i : ℕ) (k : Answer) (a : Bool) (l : i < get_or w 9221 0) (N : Noted i w names) (R : StagedAt i w k) (z : k ≡ answer.Unread)
    (M : Reads (λ s. name_slot (staged_at i s).0) w q) (A : Reads (λ s. any (same purpose_f (Purpose.PassRead (name_of q))) (values s.in_flight)) w a) where
  pub noted_asked : a ≡ true → Noted (i + 1) w names
  noted_asked y = same_names w names i l N (λ s h. read_is w q i k a R z M A s h ∙ ap not y)

  pub noted_one : a ≡ false → Noted (i + 1) w (names ++ (q ∷ []))
  unfolding last_of map
  noted_one y = record {
    low = omega (arith, N.low, length-append names (q ∷ []));
    is = record {
      is = λ s h.
          ap₂ (λ (x y : List (List ℕ)). x ++ y) (N.is.is s h) (ap (λ (x : List ℕ). x ∷ []) (M.is s h)) ∙ sym (map-append name_slot (unread_of i s) ((staged_at i s).0 ∷ []))
          ∙ ap (map name_slot) (sym (more i s true (staged_below w i s h l) (read_is w q i k a R z M A s h ∙ ap not y)));
    };
  }

-- there is room for one name more
pub few : (w : List ℕ) (names : List (List ℕ)) (i : ℕ) → HasState w → i < get_or w 9221 0 → Noted i w names → length names < 10
few w names i K l N = omega (arith, staged.few w i K l, N.low)

-- ---- none, and all

pub noted_start : (w : List ℕ) → Noted 0 w []
unfolding keys map filter
noted_start w = record { low = omega arith; is = record { is = λ s h. refl } }

pub below : (w : List ℕ) (n i : ℕ) → HasState w → Reads (λ s. length (staged_of s)) w n → i < n → i < get_or w 9221 0
below w n i K R l =
    let c = columns.counted staged.staged_column K.state w K.keeps in
    let m = R.is K.state K.keeps in
    omega arith

pub noted_end : (w : List ℕ) (n i : ℕ) (names : List (List ℕ)) → Reads (λ s. length (staged_of s)) w n → n ≤ i → Noted i w names → Reads (λ s. map name_slot (all_unread s)) w names
noted_end w n i names R l N = record {
  is = λ s h.
      let m : n ≡ length (staged_of s) = R.is s h in
      let t : take i (staged_of s) ≡ staged_of s = take_all i (staged_of s) (omega arith) in
      N.is.is s h ∙ ap (λ (x : Map ResourceId Staged). map name_slot (keys (filter (to_read s) x))) t;
}

-- the names to be read are names
unread_ok : (f : ResourceId × Staged → Bool) (m : Map ResourceId Staged) → All (λ e. resource_id.Ok e.0 × staged_f.Ok e.1) m → All resource_id.Ok (keys (filter f m))
unfolding keys map filter when◌then◌else◌
unread_ok f [] a = tt
unread_ok f (e ∷ m) a = go (f e) (unread_ok f m a.1)
  where
    go : (b : Bool) → All resource_id.Ok (keys (filter f m)) → All resource_id.Ok (keys (when b then e ∷ filter f m else filter f m))
    go true h = (a.0.0, h)
    go false h = h

pub unread_named : (w : List ℕ) (names : List (List ℕ)) → HasState w → Reads (λ s. map name_slot (all_unread s)) w names → EachNamed names
unread_named w names K R = each_named names (all_unread K.state) (R.is K.state K.keeps) (unread_ok (to_read K.state) (staged_of K.state) K.keeps.fits.pass.staged.each)

read_unread_is : (m : Machine) → for_each read_for_pass (all_unread m.state) m ≡ read_unread m
unfolding read_unread in_pass unread in_flight_any retain match◌none:◌some:◌ pass_of no_pass filter keys map for_each
read_unread_is m = go m.state.pass
  where
    go : (o : Option Pass) → for_each read_for_pass (keys (filter (to_read m.state) (pass_of o).staged)) m
        ≡ (match o none: ok m some: (λ pass. for_each read_for_pass (keys (filter (to_read m.state) pass.staged)) m))
    go None = refl
    go (Some p) = refl

pub reads_unread : {w o w' o' : List ℕ} {p q : Progress} (names : List (List ℕ)) → HasState w → Reads (λ s. map name_slot (all_unread s)) w names → Does (for_each read_for_pass (map name_of names)) w o p q w' o'
    → Does read_unread w o p q w' o'
reads_unread names K R D =
    runs.is read_unread read_unread_is (each.names_read read_for_pass names all_unread K R D)

-- ---- doubt

pass_none : (body : Pass → Machine → Run) (m : Machine) → m.state.pass ≡ None → in_pass body m ≡ ok m
unfolding in_pass match◌none:◌some:◌
pass_none body m e = ap (λ (o : Option Pass). match o none: ok m some: (λ pass. body pass m)) e

pass_some : (body : Pass → Machine → Run) (m : Machine) (p : Pass) → m.state.pass ≡ Some p → in_pass body m ≡ body p m
unfolding in_pass match◌none:◌some:◌
pass_some body m p e = ap (λ (o : Option Pass). match o none: ok m some: (λ pass. body pass m)) e

watch_none : (r : ResourceId) (m : Machine) → m.state.pass ≡ None → watch r m ≡ ok m
unfolding watch
watch_none r m e = pass_none _ m e

read_none : (m : Machine) → m.state.pass ≡ None → read_unread m ≡ ok m
unfolding read_unread
read_none m e = pass_none _ m e

abbrev marked : ResourceId → Bool → Machine → Run
marked r b m = (when b then stage r Staged.Unread m else watch r m) >>= read_unread

doubt_in_pass_is : (r : ResourceId) (m : Machine) → marked r (is_some (pass_of m.state.pass).done) m ≡ in_pass (doubt_in_pass r) m
unfolding doubt_in_pass pass_of no_pass is_some when◌then◌else◌ ◌>>=◌
doubt_in_pass_is r m = go m.state.pass refl
  where
    go : (o : Option Pass) → m.state.pass ≡ o → marked r (is_some (pass_of m.state.pass).done) m ≡ in_pass (doubt_in_pass r) m
    go None e = ap (λ (o : Option Pass). marked r (is_some (pass_of o).done) m) e ∙ ap (λ (x : Run). x >>= read_unread) (watch_none r m e) ∙ read_none m e ∙ sym (pass_none (doubt_in_pass r) m e)
    go (Some p) e = ap (λ (o : Option Pass). marked r (is_some (pass_of o).done) m) e ∙ sym (pass_some (doubt_in_pass r) m p e)

module _ (r : ResourceId) {w o w₁ w₂ o₂ : List ℕ} {p q s : Progress} {v : Bool} (D : Reads (λ s. is_some (pass_of s.pass).done) w v) where
  pub doubt_done : v ≡ true → Changes (stage r Staged.Unread) w p q w₁ → Does read_unread w₁ o q s w₂ o₂ → Does (in_pass (doubt_in_pass r)) w o p s w₂ o₂
  doubt_done z C R = runs.is (in_pass (doubt_in_pass r)) (doubt_in_pass_is r)
      (runs.next {f = λ m. when is_some (pass_of m.state.pass).done then stage r Staged.Unread m else watch r m} (runs.taken (watch r) D z (C.does o)) R)

  pub doubt_listing : v ≡ false → Changes (watch r) w p q w₁ → Does read_unread w₁ o q s w₂ o₂ → Does (in_pass (doubt_in_pass r)) w o p s w₂ o₂
  doubt_listing z C R = runs.is (in_pass (doubt_in_pass r)) (doubt_in_pass_is r)
      (runs.next {f = λ m. when is_some (pass_of m.state.pass).done then stage r Staged.Unread m else watch r m} (runs.left (stage r Staged.Unread) D z (C.does o)) R)

abbrev refreshing : ResourceId → SyncState → Bool
refreshing r s = any (same purpose_f (Purpose.Refresh r)) (values s.in_flight)

abbrev refresh : ResourceId → Machine → Run
refresh r m = when refreshing r m.state then ok m else request (Purpose.Refresh r) (Request.Read r) m

abbrev doubted : ResourceId → Machine → Run
doubted r m = when is_some m.state.pass then in_pass (doubt_in_pass r) m else refresh r m

doubt_is : (r : ResourceId) (m : Machine) → (learn r m >>= doubted r) ≡ doubt r m
unfolding doubt match◌none:◌some:◌ is_some when◌then◌else◌ in_flight_any
doubt_is r m = each.bind_same (learn r m) (doubted r) _ (λ m. go m m.state.pass refl)
  where
    rest : Machine → Option Pass → Run
    rest m o = match o none: (when in_flight_any (refreshes r) m then ok m else request (Purpose.Refresh r) (Request.Read r) m) some: (λ pass. doubt_in_pass r pass m)

    go : (m : Machine) (o : Option Pass) → m.state.pass ≡ o → doubted r m ≡ rest m m.state.pass
    go m None e = ap (λ (o : Option Pass). when is_some o then in_pass (doubt_in_pass r) m else refresh r m) e
        ∙ ap (λ (b : Bool). when b then ok m else request (Purpose.Refresh r) (Request.Read r) m) (any_same (same purpose_f (Purpose.Refresh r)) (refreshes r) (bridge.refreshes_is r) (values m.state.in_flight))
        ∙ sym (ap (rest m) e)
    go m (Some p) e = ap (λ (o : Option Pass). when is_some o then in_pass (doubt_in_pass r) m else refresh r m) e ∙ pass_some (doubt_in_pass r) m p e ∙ sym (ap (rest m) e)

module _ (r : ResourceId) {w o w₁ w₂ o₂ : List ℕ} {p q s : Progress} {v : Bool} (L : Changes (learn r) w p q w₁) (O : Reads (λ s. is_some s.pass) w₁ v) where
  pub doubt_open : v ≡ true → Does (in_pass (doubt_in_pass r)) w₁ o q s w₂ o₂ → Does (doubt r) w o p s w₂ o₂
  doubt_open z D = runs.is (doubt r) (doubt_is r) (runs.next (L.does o) (runs.taken (refresh r) O z D))

  pub doubt_again : v ≡ false → {a : Bool} → Reads (refreshing r) w₁ a → a ≡ false → Does (request (Purpose.Refresh r) (Request.Read r)) w₁ o q s w₂ o₂ → Does (doubt r) w o p s w₂ o₂
  doubt_again z A y D = runs.is (doubt r) (doubt_is r) (runs.next (L.does o) (runs.left (in_pass (doubt_in_pass r)) O z (runs.left ok A y D)))

pub doubt_asked : (r : ResourceId) {w w₁ : List ℕ} (o : List ℕ) {p q : Progress} {v a : Bool} → Changes (learn r) w p q w₁ → Reads (λ s. is_some s.pass) w₁ v → v ≡ false → Reads (refreshing r) w₁ a → a ≡ true → Does (doubt r) w o p q w₁ o
doubt_asked r o L O z A y =
    runs.is (doubt r) (doubt_is r) (runs.next (L.does o) (runs.left (in_pass (doubt_in_pass r)) O z (runs.taken (request (Purpose.Refresh r) (Request.Read r)) A y runs.nothing)))
