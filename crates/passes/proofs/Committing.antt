-- The commit of a pass: each law's premises are what the callees ensure. Assumes nothing.
use Rattle.std.specs.Prelude.{Option, Some, None}
use Prim.Native.Nat.{ℕ, ◌+◌, ◌-◌, ◌≤◌, ◌<◌}
use native.Mathlib.Omega.{arith}
use mathlib.Core.Path.{◌≡◌, refl, sym, ap, ◌∙◌, subst}
use mathlib.Core.List.{List, [], ◌∷◌, ◌++◌, append_assoc}
use mathlib.Core.Bool.{Bool, true, false, not, ◌&&◌, true≢false, false≢true}
use lib.ListN.{length, take, drop, get_or, take-append-drop}
use lib.Dec.{leb}
use Rattle.spans.specs.Bytes.{zeros}
use Rattle.model.specs.Event.{ProviderEvent}
use Rattle.model.specs.Seam.{ResourceId}
use Rattle.model.specs.State.{Map, Staged, Pass, SyncState}
use Rattle.model.specs.Calls.{Effect, Notice}
use Rattle.model.specs.Maps.{when◌then◌else◌, by_name, any, filter, has, get, insert, remove, values, retain, is_empty, is_some, is_some_and}
use Rattle.model.specs.Formats.{event_f}
use Rattle.model.specs.Machine.{Machine, Run, refused, ok, ◌>>=◌, for_each, match◌none:◌some:◌, within, with_state, push, tell, in_pass, change_pass, set_records, set_cursor, set_pass, with_staged, with_observed, stage}
use Rattle.model.specs.Sync.{is_unread, replaces, put_record, remove_record, read_unread, ready, apply_one, apply_staged, apply_pass, read_observed, try_commit}
use Rattle.state.specs.Layout.{padded, field, name_slot, pass_of, no_pass}
use Rattle.state.specs.Setters.{with_records, with_cursor, with_pass, pass_changed}
use Rattle.state.specs.Contract.{state_length, Keeps, HasState, Reads, Edits}
use Rattle.state.specs.Values.{name_of}
use Rattle.state.proofs.Padded.{text_name_only}
use Rattle.state.proofs.Columns as columns
use Rattle.records.specs.Retaining.{with_seen_records}
use Rattle.versions.specs.Versions.{HasEvent}
use Rattle.pass_tables.proofs.Laws as pass-tables
use Rattle.staged.specs.Staging.{staged_of, staged_at, Meant, Inside, StagedAt}
use Rattle.staged.specs.declared.Staged.{Staged as Answer}
use Rattle.staged.specs.declared.Staged.TheVariants as answer
use Rattle.staged.proofs.Laws as staged
use Rattle.machine.specs.declared.Progress.{Progress}
use Rattle.machine.specs.Contract.{Does, Changes, Pushes}
use Rattle.machine.proofs.Runs as runs
use Rattle.observe.proofs.Each.{bind_assoc, bind_same, for_state}
use Rattle.passes.specs.Committing.{apply_at, apply_all, seen_kept, apply_open, stage_all, read_open, is_ready, commit_open}
use Rattle.passes.proofs.Changing as changing
use Rattle.passes.proofs.Walking as walking

-- ---- one entry

module _ (w q : List ℕ) (i : ℕ) (k : Answer) (K : HasState w) (N : Reads (λ s. name_slot (staged_at i s).0) w q) (R : StagedAt i w k) where
  named : (s : SyncState) → Keeps s w → name_of q ≡ (staged_at i s).0
  named s h = ap name_of (N.is s h) ∙ text_name_only (staged_at i s).0

  said : (s : SyncState) → Keeps s w → (j : Answer) → k ≡ j → Meant w j (staged_at i s).1
  said s h j e = subst (λ (x : Answer). Meant w x (staged_at i s).1) e (R.is s h)

  pub entry_has : (at : ℕ) → k ≡ answer.Present at → (at + 882 ≤ length w) × HasEvent w at
  unfolding padded
  entry_has at e =
      let m = said K.state K.keeps (answer.Present at) e in
      let x : ProviderEvent = m.0 in
      let r : at + 882 ≤ state_length = subst Inside e R.room in (
        (let l = K.keeps.long in omega arith),
        record {
          event = x;
          stands = record {
            ok = m.2;
            rest = zeros (882 - length (event_f.enc x)) ++ drop 882 (drop at w);
            is = sym (take-append-drop 882 (drop at w)) ∙ ap (λ (y : List ℕ). y ++ drop 882 (drop at w)) m.3 ∙ append_assoc (event_f.enc x) (zeros (882 - length (event_f.enc x))) (drop 882 (drop at w));
          };
        },
      )

  entry_by : {w' : List ℕ} {p r : Progress} → ((s : SyncState) → Keeps s w → (v : Staged) × ((staged_at i s).1 ≡ v) × Changes (apply_one (staged_at i s).0 v) w p r w') → Changes (apply_at i) w p r w'
  unfolding apply_at apply_staged
  entry_by {w'} {p} {r} f = record {
    does = λ o. for_state apply_staged (staged_at i) K
        (λ s h. let x = f s h in (subst (λ (v : Staged). Changes (apply_one (staged_at i s).0 v) w p r w') (sym x.1) x.2).does o);
  }

  pub entry_present : {w' : List ℕ} {p r : Progress} (at : ℕ) → k ≡ answer.Present at
      → ((e : ProviderEvent) → event_f.Ok e → take 882 (drop at w) ≡ field 882 event_f e → Changes (put_record (name_of q) e) w p r w') → Changes (apply_at i) w p r w'
  unfolding apply_one
  entry_present {w'} {p} {r} at e C = entry_by (λ s h.
      let m = said s h (answer.Present at) e in
      (Staged.Present m.0, m.1, subst (λ (n : ResourceId). Changes (put_record n m.0) w p r w') (named s h) (C m.0 m.2 m.3)))

  pub entry_unread : (p : Progress) → k ≡ answer.Unread → Changes (apply_at i) w p p w
  unfolding apply_one
  entry_unread p e = entry_by (λ s h. (Staged.Unread, said s h answer.Unread e, changing.no_change))

  pub entry_removed : {w' : List ℕ} (p : Progress) → k ≡ answer.Removed → Edits (λ s. with_records (remove by_name (name_of q) s.records) s) w w' → Changes (apply_at i) w p p w'
  unfolding apply_one remove_record set_records
  entry_removed {w'} p e E = entry_by (λ s h.
      (Staged.Removed, said s h answer.Removed e, subst (λ (n : ResourceId). Changes (λ m. ok (remove_record n m)) w p p w') (named s h) (changing.edits E)))

-- ---- all entries: they leave the pass alone, whatever it is

put_one : (r : ResourceId) (e : ProviderEvent) (o : Option Pass) (m : Machine) → put_record r e (set_pass o m) ≡ (put_record r e m >>= (λ n. ok (set_pass o n)))
unfolding put_record within set_records set_pass when◌then◌else◌ ◌>>=◌
put_one r e o m = go (match get by_name r m.state.records none: true some: (λ held. replaces e held)) (leb (length (insert by_name r e m.state.records)) m.limits.records)
  where
    T : Map ResourceId ProviderEvent
    T = insert by_name r e m.state.records

    go : (a b : Bool) → (when a then (when b then ok (set_records T (set_pass o m)) else refused 5) else ok (set_pass o m)) ≡ ((when a then (when b then ok (set_records T m) else refused 5) else ok m) >>= (λ n. ok (set_pass o n)))
    go true true = refl
    go true false = refl
    go false b = refl

apply_one_in : (r : ResourceId) (v : Staged) (o : Option Pass) (m : Machine) → apply_one r v (set_pass o m) ≡ (apply_one r v m >>= (λ n. ok (set_pass o n)))
unfolding apply_one remove_record set_records set_pass ◌>>=◌
apply_one_in r (Staged.Present e) o m = put_one r e o m
apply_one_in r Staged.Unread o m = refl
apply_one_in r Staged.Removed o m = refl

apply_in : (l : Map ResourceId Staged) (o : Option Pass) (m : Machine) → for_each apply_staged l (set_pass o m) ≡ (for_each apply_staged l m >>= (λ n. ok (set_pass o n)))
unfolding for_each apply_staged ◌>>=◌
apply_in [] o m = refl
apply_in (x ∷ l) o m =
    ap (λ (r : Run). r >>= for_each apply_staged l) (apply_one_in x.0 x.1 o m)
    ∙ bind_assoc (apply_one x.0 x.1 m) (λ n. ok (set_pass o n)) (for_each apply_staged l)
    ∙ bind_same (apply_one x.0 x.1 m) (λ n. for_each apply_staged l (set_pass o n)) (λ n. for_each apply_staged l n >>= (λ k. ok (set_pass o k))) (apply_in l o)
    ∙ sym (bind_assoc (apply_one x.0 x.1 m) (for_each apply_staged l) (λ k. ok (set_pass o k)))

abbrev entry_default : ResourceId × Staged
entry_default = ([], Staged.Unread)

abbrev pub Applying : List ℕ → Progress → List ℕ → Progress → ℕ → Type 0
Applying = walking.Walking staged_of entry_default apply_staged

apply_leaves : (x : ResourceId × Staged) (m : Machine) → walking.Leaves staged_of entry_default apply_staged x m
unfolding apply_staged set_pass
apply_leaves x m = record { mark = set_pass m.state.pass; same = apply_one_in x.0 x.1 m.state.pass m; list = λ n. refl }

pub apply_below : (w : List ℕ) (i count : ℕ) → HasState w → Reads (λ s. length (staged_of s)) w count → i < count → (i < get_or w 9221 0) × (i < 10)
apply_below w i count K R h =
    let c = columns.counted staged.staged_column K.state w K.keeps in
    let d = R.is K.state K.keeps in
    let l : i < get_or w 9221 0 = omega arith in
    (l, (staged.few w i K l).0)

pub apply_turn : {w₀ w w' : List ℕ} {p₀ p q : Progress} {i count : ℕ} → Applying w₀ p₀ w p i → Reads (λ s. length (staged_of s)) w count → i < count → Changes (apply_at i) w p q w' → Applying w₀ p₀ w' q (i + 1)
unfolding apply_at
apply_turn {i = i} W R h C = walking.walk_turn staged_of entry_default apply_staged W R h (λ m l. apply_leaves (staged_at i m.state) m) C

pub apply_end : {w₀ w : List ℕ} {p₀ p : Progress} {i count : ℕ} → Applying w₀ p₀ w p i → Reads (λ s. length (staged_of s)) w count → count ≤ i → Changes apply_all w₀ p₀ p w
unfolding apply_all
apply_end W R h = walking.walk_end staged_of entry_default apply_staged W R h

-- ---- what follows them

pub keeps_seen : {w w' : List ℕ} {v : Bool} → Reads (λ s. (pass_of s.pass).full) w v → v ≡ true → Edits with_seen_records w w' → Edits seen_kept w w'
unfolding seen_kept when◌then◌else◌
keeps_seen {w' = w'} R e E = record {
  makes = λ s h. subst (λ (b : Bool). Keeps (when b then with_seen_records s else s) w') (sym e ∙ R.is s h) (E.makes s h);
}

pub keeps_all : {w : List ℕ} {v : Bool} → Reads (λ s. (pass_of s.pass).full) w v → v ≡ false → Edits seen_kept w w
unfolding seen_kept when◌then◌else◌
keeps_all {w} R e = record {
  makes = λ s h. subst (λ (b : Bool). Keeps (when b then with_seen_records s else s) w) (sym e ∙ R.is s h) h;
}

-- the code's order of the last lines: the cursor is taken before the pass is closed
abbrev done_of : SyncState → SyncState
done_of s = with_cursor (pass_of s.pass).done s

abbrev finish : Machine → Run
finish n = push (Effect.Notify Notice.Synced) (with_state (with_pass None (done_of (seen_kept n.state))) n)

abbrev settle : Pass → Machine → Run
settle pass m = tell Notice.Synced (set_cursor pass.done (when pass.full then set_records (retain (λ resource e. has resource pass.seen) m.state.records) m else m))

finish_is : (o : Option Pass) (n : Machine) → finish (set_pass o n) ≡ settle (pass_of o) (set_pass None n)
unfolding seen_kept set_pass set_cursor set_records tell retain when◌then◌else◌
finish_is o n = go (pass_of o).full
  where
    go : (b : Bool)
        → push (Effect.Notify Notice.Synced) (with_state (with_pass None (done_of (when b then with_seen_records (with_pass o n.state) else with_pass o n.state))) n)
        ≡ push (Effect.Notify Notice.Synced) (set_cursor (pass_of o).done (when b then set_records (filter (λ e. has e.0 (pass_of o).seen) n.state.records) (set_pass None n) else set_pass None n))
    go true = refl
    go false = refl

commit_is : (m : Machine) → (apply_all m >>= finish) ≡ apply_open m
unfolding apply_all apply_open apply_pass set_pass ◌>>=◌
commit_is m =
    let o : Option Pass = m.state.pass in
    let R : Run = for_each apply_staged (pass_of o).staged m in
    walking.marked R (set_pass o) finish (apply_in (pass_of o).staged o m)
    ∙ bind_same R (λ n. finish (set_pass o n)) (λ n. settle (pass_of o) (set_pass None n)) (finish_is o)
    ∙ sym (ap (λ (r : Run). r >>= settle (pass_of o)) (apply_in (pass_of o).staged None m) ∙ bind_assoc R (λ n. ok (set_pass None n)) (settle (pass_of o)))

pub applied : {w o w₁ w₂ w₃ w₄ o₁ : List ℕ} {p q r : Progress} → Changes apply_all w p q w₁ → Edits seen_kept w₁ w₂ → Edits (λ s. with_cursor (pass_of s.pass).done s) w₂ w₃ → Edits (with_pass None) w₃ w₄
    → Pushes (Effect.Notify Notice.Synced) o q r o₁ → Does apply_open w o p r w₄ o₁
applied {o = o} {w₄ = w₄} C S U X P = runs.is apply_open commit_is (runs.next (C.does o) (runs.edit S (runs.edit U (runs.edit X (P.does w₄)))))

-- ---- what was observed is to be read

abbrev to_stage : ResourceId → Machine → Run
to_stage r = stage r Staged.Unread

abbrev observed_of : SyncState → List ResourceId
observed_of s = (pass_of s.pass).observed

-- a machine with another pass
abbrev at_pass : Option Pass → Machine → Machine
at_pass o m = with_state (with_pass o m.state) m

stage_in : (O : List ResourceId) (r : ResourceId) (m : Machine) → to_stage r (change_pass (with_observed O) m) ≡ (to_stage r m >>= (λ n. ok (change_pass (with_observed O) n)))
unfolding stage in_pass within change_pass set_pass match◌none:◌some:◌ when◌then◌else◌ ◌>>=◌ with_observed with_staged
stage_in O r m = go m.state.pass
  where
    go : (o : Option Pass) → to_stage r (change_pass (with_observed O) (at_pass o m)) ≡ (to_stage r (at_pass o m) >>= (λ n. ok (change_pass (with_observed O) n)))
    go None = refl
    go (Some p) = pick (leb (length (insert by_name r Staged.Unread p.staged)) m.limits.staged)
      where
        pick : (b : Bool)
            → (when b then ok (at_pass (Some (with_staged (insert by_name r Staged.Unread p.staged) (with_observed O p))) m) else refused 5)
            ≡ ((when b then ok (at_pass (Some (with_staged (insert by_name r Staged.Unread p.staged) p)) m) else refused 5) >>= (λ n. ok (change_pass (with_observed O) n)))
        pick true = refl
        pick false = refl

stage_each_in : (l O : List ResourceId) (m : Machine) → for_each to_stage l (change_pass (with_observed O) m) ≡ (for_each to_stage l m >>= (λ n. ok (change_pass (with_observed O) n)))
unfolding for_each ◌>>=◌
stage_each_in [] O m = refl
stage_each_in (x ∷ l) O m =
    ap (λ (r : Run). r >>= for_each to_stage l) (stage_in O x m)
    ∙ bind_assoc (to_stage x m) (λ n. ok (change_pass (with_observed O) n)) (for_each to_stage l)
    ∙ bind_same (to_stage x m) (λ n. for_each to_stage l (change_pass (with_observed O) n)) (λ n. for_each to_stage l n >>= (λ k. ok (change_pass (with_observed O) k))) (stage_each_in l O)
    ∙ sym (bind_assoc (to_stage x m) (for_each to_stage l) (λ k. ok (change_pass (with_observed O) k)))

abbrev pub Staging : List ℕ → Progress → List ℕ → Progress → ℕ → Type 0
Staging = walking.Walking observed_of [] to_stage

stage_leaves : (x : ResourceId) (m : Machine) → 0 < length (observed_of m.state) → walking.Leaves observed_of [] to_stage x m
unfolding stage in_pass within change_pass set_pass match◌none:◌some:◌ when◌then◌else◌ ◌>>=◌ pass_of no_pass with_observed with_staged
stage_leaves x m h = go m.state.pass h
  where
    go : (o : Option Pass) → 0 < length (pass_of o).observed → walking.Leaves observed_of [] to_stage x (at_pass o m)
    go None h = absurd (omega arith)
    go (Some p) h = record {
      mark = λ n. at_pass (Some (with_observed p.observed (pass_of n.state.pass))) n;
      same = pick (leb (length (insert by_name x Staged.Unread p.staged)) m.limits.staged);
      list = λ n. refl;
    }
      where
        pick : (b : Bool)
            → (when b then ok (at_pass (Some (with_staged (insert by_name x Staged.Unread p.staged) p)) m) else refused 5)
            ≡ ((when b then ok (at_pass (Some (with_staged (insert by_name x Staged.Unread p.staged) p)) m) else refused 5) >>= (λ n. ok (at_pass (Some (with_observed p.observed (pass_of n.state.pass))) n)))
        pick true = refl
        pick false = refl

pub stage_below : (w : List ℕ) (i count : ℕ) → HasState w → Reads (λ s. length (observed_of s)) w count → i < count → (i < get_or w 19439 0) × (i < 16)
stage_below w i count K R h =
    let c = pass-tables.counted pass-tables.observed_roster K.state w K.keeps in
    let d = R.is K.state K.keeps in
    let s = ((pass-tables.observed_roster).held K.state K.keeps.fits).small in
    (omega arith, omega arith)

pub stage_turn : {w₀ w w' : List ℕ} {p₀ p q : Progress} {i count : ℕ} (b : List ℕ) → Staging w₀ p₀ w p i → Reads (λ s. length (observed_of s)) w count → i < count
    → Reads (λ s. name_slot (get_or (observed_of s) i [])) w b → Changes (stage (name_of b) Staged.Unread) w p q w' → Staging w₀ p₀ w' q (i + 1)
stage_turn {w = w} {w'} {p = p} {q} {i} b W R h N C =
    walking.walk_turn observed_of [] to_stage W R h (λ m l. stage_leaves (get_or (observed_of m.state) i []) m (omega arith))
    (record {
      does = λ o. for_state to_stage (λ s. get_or (observed_of s) i []) W.state
          (λ s k. subst (λ (n : ResourceId). Does (to_stage n) w o p q w' o) (ap name_of (N.is s k) ∙ text_name_only (get_or (observed_of s) i [])) (C.does o));
    })

pub stage_end : {w₀ w : List ℕ} {p₀ p : Progress} {i count : ℕ} → Staging w₀ p₀ w p i → Reads (λ s. length (observed_of s)) w count → count ≤ i → Changes stage_all w₀ p₀ p w
unfolding stage_all
stage_end W R h = walking.walk_end observed_of [] to_stage W R h

observed_is : (m : Machine) → (stage_all m >>= (λ n. read_unread (with_state (pass_changed (with_observed []) n.state) n))) ≡ read_open m
unfolding stage_all read_open read_observed ◌>>=◌
observed_is m =
    let l : List ResourceId = observed_of m.state in
    bind_same (for_each to_stage l m) (λ n. read_unread (with_state (pass_changed (with_observed []) n.state) n)) (λ n. read_unread (change_pass (with_observed []) n)) (λ n. ap read_unread (changing.change_pass_is (with_observed []) n))
    ∙ sym (ap (λ (r : Run). r >>= read_unread) (stage_each_in l [] m) ∙ bind_ok (for_each to_stage l m))
  where
    bind_ok : (r : Run) → ((r >>= (λ n. ok (change_pass (with_observed []) n))) >>= read_unread) ≡ (r >>= (λ n. read_unread (change_pass (with_observed []) n)))
    bind_ok r = bind_assoc r (λ n. ok (change_pass (with_observed []) n)) read_unread

pub observed_read : {w o w₁ w₂ w₃ o₃ : List ℕ} {p q r : Progress} → Changes stage_all w p q w₁ → Edits (pass_changed (with_observed [])) w₁ w₂ → Does read_unread w₂ o q r w₃ o₃ → Does read_open w o p r w₃ o₃
observed_read {o = o} C E D = runs.is read_open observed_is (runs.next (C.does o) (runs.edit E D))

-- ---- whether there is something to commit

pub not_ready : {w : List ℕ} {v : Bool} → Reads (λ s. any is_unread (values (staged_of s))) w v → v ≡ true → Reads is_ready w false
unfolding is_ready
not_ready U e = record { is = λ s h. go (is_some (pass_of s.pass).done) (any is_unread (values (staged_of s))) (sym e ∙ U.is s h) }
  where
    go : (a b : Bool) → true ≡ b → false ≡ (a && not b)
    go true true z = refl
    go false true z = refl
    go a false z = absurd (true≢false z)

pub ready_done : {w : List ℕ} {v r : Bool} → Reads (λ s. any is_unread (values (staged_of s))) w v → v ≡ false → Reads (λ s. is_some (pass_of s.pass).done) w r → Reads is_ready w r
unfolding is_ready
ready_done U e D = record { is = λ s h. D.is s h ∙ go (is_some (pass_of s.pass).done) (any is_unread (values (staged_of s))) (sym e ∙ U.is s h) }
  where
    go : (a b : Bool) → false ≡ b → a ≡ (a && not b)
    go true false z = refl
    go false false z = refl
    go a true z = absurd (false≢true z)

empty_is : {A : Type 0} (l : List A) → length l ≡ 0 → true ≡ is_empty l
unfolding is_empty
empty_is [] e = refl
empty_is (x ∷ l) e = absurd (omega arith)

some_is : {A : Type 0} (l : List A) → (length l ≡ 0 → ⊥) → false ≡ is_empty l
unfolding is_empty
some_is [] e = absurd (e refl)
some_is (x ∷ l) e = refl

module _ {w o w' o' : List ℕ} {p q : Progress} {n : ℕ} (R : Reads (λ s. length (observed_of s)) w n) where
  pub commits : n ≡ 0 → Does apply_open w o p q w' o' → Does commit_open w o p q w' o'
  unfolding commit_open
  commits e D = runs.is commit_open (λ m. refl) (runs.taken {b = λ s. is_empty (observed_of s)} read_open (record { is = λ s h. empty_is (observed_of s) (sym (R.is s h) ∙ e) }) refl D)

  pub reads_on : (n ≡ 0 → ⊥) → Does read_open w o p q w' o' → Does commit_open w o p q w' o'
  unfolding commit_open
  reads_on e D = runs.is commit_open (λ m. refl) (runs.left {b = λ s. is_empty (observed_of s)} apply_open (record { is = λ s h. some_is (observed_of s) (λ z. e (R.is s h ∙ z)) }) refl D)

tried_is : (m : Machine) → (when is_ready m.state then commit_open m else ok m) ≡ try_commit m
unfolding is_ready commit_open apply_open read_open try_commit ready in_pass match◌none:◌some:◌ is_some is_some_and when◌then◌else◌ pass_of no_pass
tried_is m = go m.state.pass
  where
    go : (o : Option Pass)
        → (when is_some (pass_of o).done && not (any is_unread (values (pass_of o).staged)) then (when is_empty (pass_of o).observed then apply_pass (pass_of o) m else read_observed (pass_of o) m) else ok m)
        ≡ (when is_some_and (λ pass. is_some pass.done && not (any is_unread (values pass.staged))) o then (match o none: ok m some: (λ pass. when is_empty pass.observed then apply_pass pass m else read_observed pass m)) else ok m)
    go None = refl
    go (Some p) = refl

pub tries_it : {w o w' o' : List ℕ} {p q : Progress} {v : Bool} → Reads is_ready w v → v ≡ true → Does commit_open w o p q w' o' → Does try_commit w o p q w' o'
tries_it R e D = runs.is try_commit tried_is (runs.taken ok R e D)

pub leaves_it : {w o : List ℕ} {p : Progress} {v : Bool} → Reads is_ready w v → v ≡ false → Does try_commit w o p p w o
leaves_it R e = runs.is try_commit tried_is (runs.left commit_open R e runs.nothing)
