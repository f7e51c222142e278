-- The staged entries of the open pass: each law's premises are what the callees ensure. Assumes nothing.
use Rattle.std.specs.Prelude.{Option, Some, Ok, Err, eqb}
use Prim.Native.Nat.{ℕ, suc, ◌+◌, ◌-◌, ◌*◌, ◌≤◌, ◌<◌}
use native.Mathlib.Omega.{arith}
use mathlib.Core.Path.{◌≡◌, refl, sym, ap, ap₂, ◌∙◌, subst}
use mathlib.Core.List.{List, [], ◌∷◌, ◌++◌, append_assoc}
use mathlib.Core.Bool.{Bool, true, false}
use lib.ListN.{length, take, drop, get_or, length-append}
use lib.Seq.{take_at, drop_at, take_all, drop-append-add, get_or-take, get_or-drop}
use lib.Dec.{leb}
use Rattle.format.specs.Format.{via, enum, ◌∣◌, nothing}
use Rattle.spans.specs.Bytes.{zeros}
use Rattle.spans.specs.Compare.{order}
use Rattle.tables.specs.Table.{Table, Sized, enc_table, place, insert_slot, remove_slot, some_slot, against, is_equal}
use Rattle.tables.proofs.Laws as tables
use Rattle.lent.specs.Lent.{part, placed}
use Rattle.model.specs.Event.{Text, ProviderEvent}
use Rattle.model.specs.Seam.{ResourceId}
use Rattle.model.specs.State.{Map, Staged, Pass, SyncState}
use Rattle.model.specs.Limits.{document01}
use Rattle.model.specs.Maps.{by_name, any, map, get, insert, remove, values, is_some_and}
use Rattle.model.specs.Machine.{match◌none:◌some:◌, with_staged}
use Rattle.model.specs.Sync.{is_unread}
use Rattle.model.specs.Formats.{resource_id, event_f}
use Rattle.model.specs.SavedForm.{staged_f}
use Rattle.model.proofs.Tables as orders
use Rattle.state.specs.Layout.{padded, field, name_slot, staged_slot, pass_of}
use Rattle.state.specs.Setters.{with_pass, pass_changed}
use Rattle.state.specs.Contract.{state_length, Keeps, HasState, Reads, Edits, Tries}
use Rattle.state.specs.Values.{name_of, Named}
use Rattle.state.proofs.Orders.{name_order}
use Rattle.state.proofs.Widths.{event_within}
use Rattle.state.proofs.Padded.{length_name, length_field, text_name}
use Rattle.state.proofs.Regions.{staged_long}
use Rattle.state.proofs.Parts as parts
use Rattle.state.proofs.Ops as ops
use Rattle.state.proofs.Columns as columns
use Rattle.state.proofs.Columns.{Column}
use Rattle.pass_tables.proofs.Laws as pass
use Rattle.pass_tables.proofs.Laws.{Opened}
use Rattle.staged.specs.Staging.{staged_of, may_stage, with_stage, without_stage, staged_at, StagedAt}
use Rattle.staged.specs.declared.Staged.TheVariants as answer

abbrev own_key : Text → List ℕ
own_key name = name

pub staged_column : Column by_name resource_id staged_f staged_slot own_key 10 916 9221 9161 Opened staged_of (λ v. pass_changed (with_staged v))
unfolding document01
staged_column = record {
  part_is = parts.staged_part;
  put = λ s w v o h k. subst (λ (x : SyncState). Keeps x (placed 9221 9161 (enc_table 9161 (map staged_slot v)) w)) (pass.pass_some (with_staged v) s o.pass o.is) (parts.staged_put s w o.pass v o.is h k);
  held = λ s f. f.pass.staged;
  room = refl;
  inside = omega arith;
  wide = omega arith;
  long = staged_long;
  text_is = λ e. text_name e.0 (field 883 staged_f e.1);
  order_is = λ x j p q. name_order x j;
  laws = orders.name_order;
}

-- the entries of the open pass are those of the pass at hand
abbrev Rows : Type 0
Rows = Map ResourceId Staged

rows_of : (s : SyncState) (p : Pass) → s.pass ≡ Some p → staged_of s ≡ p.staged
unfolding pass_of
rows_of s p e = ap (λ (o : Option Pass). (pass_of o).staged) e

in_pass : (f : Rows → Rows) (s : SyncState) (p : Pass) → s.pass ≡ Some p → pass_changed (with_staged (f (staged_of s))) s ≡ pass_changed (λ p. with_staged (f p.staged) p) s
in_pass f s p e =
    sym (pass.pass_some (with_staged (f (staged_of s))) s p e) ∙ ap (λ (m : Rows). with_pass (Some (with_staged (f m) p)) s) (rows_of s p e) ∙ pass.pass_some (λ p. with_staged (f p.staged) p) s p e

in_limit : (name : Text) (v : Staged) (s : SyncState) (p : Pass) → s.pass ≡ Some p → leb (length (insert by_name name v (staged_of s))) 10 ≡ may_stage name v s
unfolding match◌none:◌some:◌
in_limit name v s p e =
    ap (λ (m : Rows). leb (length (insert by_name name v m)) 10) (rows_of s p e) ∙ sym (ap (λ (o : Option Pass). match o none: true some: (λ p. leb (length (insert by_name name v p.staged)) 10)) e)

-- ---- stage

pub stage_closed : (name : Text) (v : Staged) (w : List ℕ) {o : Bool} → pass.IsOpen w o → o ≡ false → Tries (may_stage name v) (with_stage name v) w true w
unfolding match◌none:◌some:◌
stage_closed name v w O z = record {
  is = λ s h. rw (pass.closed s w h O z);
  makes = λ s h y. subst (λ (x : SyncState). Keeps x w) (pass.pass_none (λ p. with_staged (insert by_name name v p.staged) p) s (pass.closed s w h O z)) h;
  stays = λ s h y. h;
}

staged_tries : (b slot w w' : List ℕ) (r : Bool) {o : Bool} → Named b → pass.IsOpen w o → o ≡ true
    → ((t : Table) → Sized 916 t → part 9221 9161 w ≡ enc_table 9161 t → length t ≤ 10
    → (r ≡ leb (length (insert_slot slot t)) 10) × (r ≡ true → w' ≡ placed 9221 9161 (enc_table 9161 (insert_slot slot t)) w) × (r ≡ false → w' ≡ w))
    → (v : Staged) → staged_f.Ok v → slot ≡ staged_slot (name_of b, v)
    → Tries (may_stage (name_of b) v) (with_stage (name_of b) v) w r w'
staged_tries b slot w w' r N O z g v ok e =
    let T = columns.inserted staged_column slot w w' r (name_of b) v N.ok ok e (λ s h. pass.opened s w h O z) g in
    record {
      is = λ s h. let o = pass.opened s w h O z in T.is s h ∙ in_limit (name_of b) v s o.pass o.is;
      makes = λ s h y. let o = pass.opened s w h O z in subst (λ (x : SyncState). Keeps x w') (in_pass (insert by_name (name_of b) v) s o.pass o.is) (T.makes s h y);
      stays = T.stays;
    }

-- a case behind the name, and an event behind it
case_and_event : (b event key slot : List ℕ) (case : ℕ) → length b ≡ 33 → key ≡ padded 34 (b ++ (case ∷ [])) → slot ≡ padded 916 (key ++ event) → slot ≡ b ++ padded 883 (case ∷ event)
case_and_event b event key slot case l e d =
    let n : length (b ++ (case ∷ [])) ≡ 34 = length-append b (case ∷ []) ∙ ap (λ (x : ℕ). x + 1) l in
    let f : key ++ event ≡ b ++ (case ∷ event) = ap (λ (x : List ℕ). x ++ event) (e ∙ ops.whole_slot 34 (b ++ (case ∷ [])) n) ∙ append_assoc b (case ∷ []) event in
    d ∙ ap (padded 916) f ∙ ops.behind_key 33 883 b (case ∷ event) l

pub case_tries : (b event key slot w w' : List ℕ) (case : ℕ) (r : Bool) {o : Bool} → Named b → pass.IsOpen w o → o ≡ true
    → key ≡ padded 34 (b ++ (case ∷ [])) → slot ≡ padded 916 (key ++ event)
    → ((t : Table) → Sized 916 t → part 9221 9161 w ≡ enc_table 9161 t → length t ≤ 10
    → (r ≡ leb (length (insert_slot slot t)) 10) × (r ≡ true → w' ≡ placed 9221 9161 (enc_table 9161 (insert_slot slot t)) w) × (r ≡ false → w' ≡ w))
    → (v : Staged) → staged_f.Ok v → case ∷ event ≡ staged_f.enc v
    → Tries (may_stage (name_of b) v) (with_stage (name_of b) v) w r w'
case_tries b event key slot w w' case r N O z p d g v ok e =
    staged_tries b slot w w' r N O z g v ok (case_and_event b event key slot case (ops.named_long b N) p d ∙ ap₂ (λ (x y : List ℕ). x ++ padded 883 y) N.is e)

pub event_ok : (e : ProviderEvent) → event_f.Ok e → (b : List ℕ) → b ≡ event_f.enc e → staged_f.Ok (Staged.Present e) × (0 ∷ b ≡ staged_f.enc (Staged.Present e))
unfolding staged_f via enum ◌∣◌
event_ok e ok b d = (ok, ap (λ (x : List ℕ). 0 ∷ x) d)

pub unread_ok : staged_f.Ok Staged.Unread × (1 ∷ [] ≡ staged_f.enc Staged.Unread)
unfolding staged_f via enum ◌∣◌ nothing
unread_ok = (tt, refl)

pub removed_ok : staged_f.Ok Staged.Removed × (2 ∷ [] ≡ staged_f.enc Staged.Removed)
unfolding staged_f via enum ◌∣◌ nothing
removed_ok = (tt, refl)

-- ---- unstage

pub unstaged : (b w w' : List ℕ) {o : Bool} → Named b → pass.IsOpen w o → o ≡ true
    → ((t : Table) → Sized 916 t → part 9221 9161 w ≡ enc_table 9161 t → w' ≡ placed 9221 9161 (enc_table 9161 (remove_slot b t)) w)
    → Edits (without_stage (name_of b)) w w'
unstaged b w w' N O z g =
    let T = columns.removed staged_column b w w' (name_of b) N.ok refl (λ s h. pass.opened s w h O z) g in
    record { makes = λ s h. let o = pass.opened s w h O z in subst (λ (x : SyncState). Keeps x w') (in_pass (remove by_name (name_of b)) s o.pass o.is) (T.makes s h) }

-- ---- the first byte of a value, and its event

abbrev Fit : ResourceId × Staged → Type 0
Fit e = resource_id.Ok e.0 × staged_f.Ok e.1

value_of : (e : ResourceId × Staged) → resource_id.Ok e.0 → drop 33 (staged_slot e) ≡ field 883 staged_f e.1
value_of e ok = drop_at (name_slot e.0) (field 883 staged_f e.1) 33 (length_name e.0 ok)

unread_byte : (v : Staged) → is_equal (order (take 1 (field 883 staged_f v)) (1 ∷ [])) ≡ is_unread v
unfolding is_unread staged_f via enum ◌∣◌ nothing padded
unread_byte (Staged.Present e) = refl
unread_byte Staged.Unread = refl
unread_byte Staged.Removed = refl

kind_byte : (v : Staged) → get_or (field 883 staged_f v) 0 0 ≡ get_or (staged_f.enc v) 0 0
unfolding staged_f via enum ◌∣◌ nothing padded
kind_byte (Staged.Present e) = refl
kind_byte Staged.Unread = refl
kind_byte Staged.Removed = refl

event_behind : (e : ProviderEvent) → drop 1 (field 883 staged_f (Staged.Present e)) ≡ field 882 event_f e
unfolding staged_f via enum ◌∣◌ padded
event_behind e =
    let n : 883 - suc (length (event_f.enc e)) ≡ 882 - length (event_f.enc e) = omega arith in
    ap (λ (m : ℕ). event_f.enc e ++ zeros m) n

-- byte o of a slot that stands at p
byte_there : (w slot : List ℕ) (p o : ℕ) → o < 916 → take 916 (drop p w) ≡ slot → get_or w (p + o) 0 ≡ get_or slot o 0
byte_there w slot p o l e = sym (get_or-drop p w o 0) ∙ sym (get_or-take 916 (drop p w) o 0 l) ∙ ap (λ (x : List ℕ). get_or x o 0) e

first_byte : (w : List ℕ) (p : ℕ) (e : ResourceId × Staged) → resource_id.Ok e.0 → take 916 (drop p w) ≡ staged_slot e → get_or w (p + 33) 0 ≡ get_or (field 883 staged_f e.1) 0 0
first_byte w p e ok h = byte_there w (staged_slot e) p 33 (omega arith) h ∙ sym (get_or-drop 33 (staged_slot e) 0 0) ∙ ap (λ (x : List ℕ). get_or x 0 0) (value_of e ok)

-- ---- whether something is to be read

pub some_unread : (w : List ℕ) (r : Bool) → ((t : Table) → Sized 916 t → part 9221 9161 w ≡ enc_table 9161 t → r ≡ some_slot (λ s. is_equal (against 33 (1 ∷ []) s)) t)
    → Reads (λ s. any is_unread (values (staged_of s))) w r
some_unread w r g =
    columns.some_row staged_column (λ s. is_equal (against 33 (1 ∷ []) s)) is_unread w r
    (λ e ok. ap (λ (x : List ℕ). is_equal (order (take 1 x) (1 ∷ []))) (value_of e ok.0) ∙ unread_byte e.1) g

kind_unread : (v : Staged) → eqb (get_or (field 883 staged_f v) 0 0) 1 ≡ is_unread v
unfolding is_unread staged_f via enum ◌∣◌ nothing padded
kind_unread (Staged.Present e) = refl
kind_unread Staged.Unread = refl
kind_unread Staged.Removed = refl

abbrev Unread : Text → SyncState → Bool
Unread name s = is_some_and is_unread (get by_name name (staged_of s))

pub listed_found : (b w : List ℕ) (p : ℕ) → Named b
    → ((t : Table) → Sized 916 t → part 9221 9161 w ≡ enc_table 9161 t → Ok p ≡ place 916 b t 1)
    → Reads (Unread (name_of b)) w (eqb (get_or w (9221 + p + 33) 0) 1)
unfolding is_some_and
listed_found b w p N g = record {
  is = λ s h.
      let H = columns.there staged_column b w (name_of b) p N.ok refl s h g in
      ap (λ (n : ℕ). eqb n 1) (first_byte w (9221 + p) H.e H.fits.0 H.bytes) ∙ kind_unread H.e.1 ∙ sym (ap (is_some_and is_unread) H.got);
}

pub listed_missing : (b w : List ℕ) (p : ℕ) → Named b
    → ((t : Table) → Sized 916 t → part 9221 9161 w ≡ enc_table 9161 t → Err p ≡ place 916 b t 1)
    → Reads (Unread (name_of b)) w false
unfolding is_some_and
listed_missing b w p N g = record { is = λ s h. sym (ap (is_some_and is_unread) (columns.not_there staged_column b w (name_of b) p N.ok refl s h g)) }

pub listed_room : (b w : List ℕ) (p : ℕ) → Named b → HasState w
    → ((t : Table) → Sized 916 t → part 9221 9161 w ≡ enc_table 9161 t → Ok p ≡ place 916 b t 1) → 9221 + p + 916 ≤ length w
listed_room b w p N K g = let l = K.keeps.long in omega (arith, (columns.there staged_column b w (name_of b) p N.ok refl K.state K.keeps g).room)

-- ---- entry i

pub few : (w : List ℕ) (i : ℕ) → HasState w → i < get_or w 9221 0 → (i < 10) × (length w ≡ state_length)
unfolding document01
few w i K l =
    let c = columns.counted staged_column K.state w K.keeps in
    let k = K.keeps.fits.pass.staged.small in
    (omega arith, K.keeps.long)

nth : (w : List ℕ) (i : ℕ) (s : SyncState) → Keeps s w → i < get_or w 9221 0 → (take 916 (drop (9221 + 1 + i * 916) w) ≡ staged_slot (staged_at i s)) × Fit (staged_at i s)
nth w i s h l =
    let c = columns.counted staged_column s w h in
    let u = columns.nth staged_column ([], Staged.Unread) i s w h (omega arith) in
    let n : 9221 + 1 + i * 916 ≡ 9221 + (1 + i * 916) = omega arith in
    (ap (λ (j : ℕ). take 916 (drop j w)) n ∙ u.0, u.2)

name_is : (w q : List ℕ) (i : ℕ) (s : SyncState) → Keeps s w → i < get_or w 9221 0 → q ≡ take 33 (drop (9221 + 1 + i * 916) w) → q ≡ name_slot (staged_at i s).0
name_is w q i s h l e =
    let u = nth w i s h l in
    let x : ResourceId × Staged = staged_at i s in
    let n : 9221 + 1 + i * 916 ≡ 9221 + 1 + i * 916 + 0 = omega arith in
    e ∙ ap (λ (j : ℕ). take 33 (drop j w)) n ∙ tables.field_of w 916 (9221 + 1 + i * 916) 0 33 (omega arith) ∙ ap (λ (y : List ℕ). take 33 y) u.0
    ∙ take_at (name_slot x.0) (field 883 staged_f x.1) 33 (length_name x.0 u.1.0)

pub staged_name : (w q : List ℕ) (i : ℕ) → HasState w → i < get_or w 9221 0 → q ≡ take 33 (drop (9221 + 1 + i * 916) w) → Reads (λ s. name_slot (staged_at i s).0) w q × Named q
staged_name w q i K l e = (
  record { is = λ s h. name_is w q i s h l e },
  (ops.slot_named q (staged_at i K.state).0 (nth w i K.state K.keeps l).1.0 (name_is w q i K.state K.keeps l e)).1,
)

present_ok : (v : Staged) (e : ProviderEvent) → staged_f.Ok v → v ≡ Staged.Present e → event_f.Ok e
unfolding staged_f via enum ◌∣◌
present_ok v e ok q = subst (λ (x : Staged). staged_f.Ok x) q ok

-- the case of a byte
case_of : ℕ → Staged → Type 0
case_of n v = (n ≡ 0 → (e : ProviderEvent) × (v ≡ Staged.Present e)) × (n ≡ 1 → v ≡ Staged.Unread) × ((n ≡ 0 → ⊥) → (n ≡ 1 → ⊥) → v ≡ Staged.Removed)

cases : (n : ℕ) (v : Staged) → n ≡ get_or (staged_f.enc v) 0 0 → case_of n v
unfolding staged_f via enum ◌∣◌ nothing case_of
cases n (Staged.Present x) e = (λ z. (x, refl), λ z. absurd (omega arith), λ y z. absurd (y e))
cases n Staged.Unread e = (λ z. absurd (omega arith), λ z. refl, λ y z. absurd (z e))
cases n Staged.Removed e = (λ z. absurd (omega arith), λ z. absurd (omega arith), λ y z. refl)

module _ (w : List ℕ) (i : ℕ) (K : HasState w) (l : i < get_or w 9221 0) where
  here : (s : SyncState) → Keeps s w → case_of (get_or w (9221 + 1 + i * 916 + 33) 0) (staged_at i s).1
  here s h =
      let u = nth w i s h l in
      cases _ (staged_at i s).1 (first_byte w (9221 + 1 + i * 916) (staged_at i s) u.1.0 u.0 ∙ kind_byte (staged_at i s).1)

  event_there : (s : SyncState) → Keeps s w → (e : ProviderEvent) → (staged_at i s).1 ≡ Staged.Present e → take 882 (drop (9221 + 1 + i * 916 + 33 + 1) w) ≡ field 882 event_f e
  event_there s h e q =
      let u = nth w i s h l in
      let x : ResourceId × Staged = staged_at i s in
      let n : 9221 + 1 + i * 916 + 33 + 1 ≡ 9221 + 1 + i * 916 + 34 = omega arith in
      ap (λ (j : ℕ). take 882 (drop j w)) n ∙ tables.field_of w 916 (9221 + 1 + i * 916) 34 882 (omega arith) ∙ ap (λ (y : List ℕ). take 882 (drop 34 y)) u.0
      ∙ ap (take 882) (drop_append_of (name_slot x.0) (field 883 staged_f x.1) (length_name x.0 u.1.0) ∙ ap (λ (v : Staged). drop 1 (field 883 staged_f v)) q ∙ event_behind e)
      ∙ take_all 882 (field 882 event_f e) (omega (arith, length_field event_within e (present_ok x.1 e u.1.1 q)))
    where
      drop_append_of : (a b : List ℕ) → length a ≡ 33 → drop 34 (a ++ b) ≡ drop 1 b
      drop_append_of a b l = ap (λ (n : ℕ). drop (n + 1) (a ++ b)) (sym l) ∙ drop-append-add a b 1

  pub entry_present : get_or w (9221 + 1 + i * 916 + 33) 0 ≡ 0 → StagedAt i w (answer.Present (9221 + 1 + i * 916 + 33 + 1))
  unfolding case_of
  entry_present z = record {
    is = λ s h. let p = (here s h).0 z in (p.0, p.1, present_ok (staged_at i s).1 p.0 (nth w i s h l).1.1 p.1, event_there s h p.0 p.1);
    room = let k = few w i K l in omega arith;
  }

  pub entry_unread : get_or w (9221 + 1 + i * 916 + 33) 0 ≡ 1 → StagedAt i w answer.Unread
  unfolding case_of
  entry_unread z = record { is = λ s h. (here s h).1 z; room = tt }

  pub entry_removed : (get_or w (9221 + 1 + i * 916 + 33) 0 ≡ 0 → ⊥) → (get_or w (9221 + 1 + i * 916 + 33) 0 ≡ 1 → ⊥) → StagedAt i w answer.Removed
  unfolding case_of
  entry_removed y z = record { is = λ s h. (here s h).2 y z; room = tt }
