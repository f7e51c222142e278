-- `put_record` and `observe`. Assumes nothing.
use Rattle.std.specs.Prelude.{Option, Some, None}
use Prim.Native.Nat.{ℕ, ◌+◌, ◌≤◌}
use native.Mathlib.Omega.{arith}
use mathlib.Core.Path.{◌≡◌, refl, sym, ap, ◌∙◌, subst}
use mathlib.Core.List.{List, [], append-nil}
use mathlib.Core.Bool.{Bool, true, false}
use lib.ListN.{length}
use lib.Dec.{leb}
use Rattle.model.specs.Event.{Text, ProviderEvent}
use Rattle.model.specs.Seam.{ResourceId, resource_of}
use Rattle.model.specs.State.{Pass, SyncState}
use Rattle.model.specs.Limits.{document01}
use Rattle.model.specs.Maps.{when◌then◌else◌, by_name, insert, remove, delete, is_some}
use Rattle.model.specs.Formats.{event_f}
use Rattle.model.specs.Machine.{Machine, Run, ok, ◌>>=◌, match◌none:◌some:◌, within, with_state, change_pass, set_pass, set_records, with_staged, with_seen, unstage, unsee, see, watch}
use Rattle.model.specs.Sync.{replaces, learn, put_record, remove_record, observe_event, observe_none, observe}
use Rattle.state.specs.Layout.{pass_of}
use Rattle.state.specs.Setters.{with_records, with_pass, pass_changed}
use Rattle.state.specs.Contract.{state_length, Keeps, HasState, Reads, Edits, Tries}
use Rattle.staged.specs.Staging.{without_stage}
use Rattle.staged.proofs.Bridge.{pass_done_is}
use Rattle.records.specs.Events.{IsEvent, RecordAt, RecordIs, FindsRecord}
use Rattle.versions.specs.Versions.{Stands, HasEvent, VersionOf}
use Rattle.versions.proofs.Laws as versions
use Rattle.machine.specs.declared.Progress.{Progress}
use Rattle.machine.specs.Contract.{Changes}
use Rattle.machine.specs.Steps.{tried_by}
use Rattle.machine.proofs.Runs as runs
use Rattle.machine.proofs.Steps as steps
use Rattle.observe.specs.Observing.{gives_way, see_or_watch, watch_unless_done}
use Rattle.observe.proofs.Each as each

-- ---- put_record

-- the record that was found
found_is : (r : Text) (w : List ℕ) (pl : Option ℕ) (at : ℕ) → FindsRecord r w pl → pl ≡ Some at → (s : SyncState) → Keeps s w → RecordAt r w s at
unfolding RecordIs
found_is r w pl at F e s h = subst (λ (x : Option ℕ). RecordIs r w s x) e (F.is s h)

pub held_stands : (r : Text) (w : List ℕ) (pl : Option ℕ) (at : ℕ) → HasState w → FindsRecord r w pl → pl ≡ Some at → HasEvent w (at + 33)
held_stands r w pl at K F e = let R = found_is r w pl at F e K.state K.keeps in record { event = R.event; stands = versions.stands_padded R.event w (at + 33) R.ok R.bytes }

pub held_room : (r : Text) (w : List ℕ) (pl : Option ℕ) (at : ℕ) → HasState w → FindsRecord r w pl → pl ≡ Some at → at + 33 ≤ state_length
held_room r w pl at K F e =
    let h = versions.event_room w (at + 33) (held_stands r w pl at K F e) in
    let l = K.keeps.long in
    omega arith

pub gives_found : (r : Text) (e : ProviderEvent) (w : List ℕ) (pl : Option ℕ) (at : ℕ) (a : Bool) (revision : List ℕ) (mapper : ℕ) → FindsRecord r w pl → pl ≡ Some at
    → ((h : ProviderEvent) → Stands h w (at + 33) → VersionOf h revision mapper) → ((h : ProviderEvent) → event_f.Ok h → VersionOf h revision mapper → a ≡ replaces e h) → Reads (gives_way r e) w a
unfolding match◌none:◌some:◌
gives_found r e w pl at a revision mapper F q f g = record {
  is = λ s h.
      let R = found_is r w pl at F q s h in
      g R.event R.ok (f R.event (versions.stands_padded R.event w (at + 33) R.ok R.bytes))
      ∙ sym (ap (λ (o : Option ProviderEvent). match o none: true some: (λ held. replaces e held)) R.got);
}

pub gives_missing : (r : Text) (e : ProviderEvent) (w : List ℕ) (pl : Option ℕ) → FindsRecord r w pl → pl ≡ None → Reads (gives_way r e) w true
unfolding match◌none:◌some:◌ RecordIs
gives_missing r e w pl F q = record {
  is = λ s h. sym (ap (λ (o : Option ProviderEvent). match o none: true some: (λ held. replaces e held)) (subst (λ (x : Option ℕ). RecordIs r w s x) q (F.is s h)));
}

-- the event at the front of its own bytes
pub stands_alone : (e : ProviderEvent) (b : List ℕ) → event_f.Ok e → b ≡ event_f.enc e → Stands e b 0
stands_alone e b k q = record { ok = k; rest = []; is = q ∙ sym (append-nil (event_f.enc e)) }

pub has_alone : (b : List ℕ) → IsEvent b → HasEvent b 0
has_alone b E = record { event = E.event; stands = stands_alone E.event b E.ok E.is }

abbrev insert_record : ResourceId → ProviderEvent → Machine → Run
insert_record r e m = within m.limits.records (insert by_name r e m.state.records) set_records m

put_is : (r : ResourceId) (e : ProviderEvent) (m : Machine) → (when gives_way r e m.state then insert_record r e m else ok m) ≡ put_record r e m
unfolding put_record
put_is r e m = refl

pub stored : (r : ResourceId) (e : ProviderEvent) {w w' : List ℕ} {v b : Bool} {p q : Progress} → Reads (gives_way r e) w v → v ≡ true
    → Tries (λ s. leb (length (insert by_name r e s.records)) 10) (λ s. with_records (insert by_name r e s.records) s) w b w' → q ≡ tried_by p b → Changes (put_record r e) w p q w'
unfolding within set_records document01
stored r e {p = p} R z T d = steps.changed d (record {
  does = λ o. runs.is (put_record r e) (put_is r e) (runs.taken ok R z ((steps.tries (insert_record r e) p T (λ m l h. rw l)).does o));
})

pub stays : (r : ResourceId) (e : ProviderEvent) {w : List ℕ} {v : Bool} (p : Progress) → Reads (gives_way r e) w v → v ≡ false → Changes (put_record r e) w p p w
stays r e p R z = record { does = λ o. runs.is (put_record r e) (put_is r e) (runs.left (insert_record r e) R z runs.nothing) }

-- ---- the pass's sets

change_is : (f : Pass → Pass) (m : Machine) → change_pass f m ≡ with_state (pass_changed f m.state) m
unfolding change_pass pass_changed match◌none:◌some:◌ set_pass
change_is f m = go m.state.pass
  where
    go : (o : Option Pass) → (match o none: m some: (λ pass. set_pass (Some (f pass)) m)) ≡ with_state (match o none: m.state some: (λ pass. with_pass (Some (f pass)) m.state)) m
    go None = refl
    go (Some p) = refl

pub unstage_is : (r : ResourceId) (m : Machine) → unstage r m ≡ with_state (without_stage r m.state) m
unfolding unstage
unstage_is r m = change_is (λ pass. with_staged (remove by_name r pass.staged) pass) m

pub unsee_is : (r : ResourceId) (m : Machine) → unsee r m ≡ with_state (pass_changed (λ p. with_seen (delete r p.seen) p) m.state) m
unfolding unsee
unsee_is r m = change_is (λ pass. with_seen (delete r pass.seen) pass) m

abbrev done_in : SyncState → Bool
done_in s = is_some (pass_of s.pass).done

marks_is : (r : ResourceId) (m : Machine) → (when done_in m.state then see r m else watch r m) ≡ see_or_watch r m
marks_is r m = ap (λ (b : Bool). when b then see r m else watch r m) (pass_done_is m)

pub marks_seen : (r : ResourceId) {w w' : List ℕ} {v : Bool} {p q : Progress} → Reads done_in w v → v ≡ true → Changes (see r) w p q w' → Changes (see_or_watch r) w p q w'
marks_seen r R z C = record { does = λ o. runs.is (see_or_watch r) (marks_is r) (runs.taken (watch r) R z (C.does o)) }

pub marks_watched : (r : ResourceId) {w w' : List ℕ} {v : Bool} {p q : Progress} → Reads done_in w v → v ≡ false → Changes (watch r) w p q w' → Changes (see_or_watch r) w p q w'
marks_watched r R z C = record { does = λ o. runs.is (see_or_watch r) (marks_is r) (runs.left (see r) R z (C.does o)) }

watches_is : (r : ResourceId) (m : Machine) → (when done_in m.state then ok m else watch r m) ≡ watch_unless_done r m
watches_is r m = ap (λ (b : Bool). when b then ok m else watch r m) (pass_done_is m)

pub watches_not : (r : ResourceId) {w : List ℕ} {v : Bool} (p : Progress) → Reads done_in w v → v ≡ true → Changes (watch_unless_done r) w p p w
watches_not r p R z = record { does = λ o. runs.is (watch_unless_done r) (watches_is r) (runs.taken (watch r) R z runs.nothing) }

pub watches : (r : ResourceId) {w w' : List ℕ} {v : Bool} {p q : Progress} → Reads done_in w v → v ≡ false → Changes (watch r) w p q w' → Changes (watch_unless_done r) w p q w'
watches r R z C = record { does = λ o. runs.is (watch_unless_done r) (watches_is r) (runs.left ok R z (C.does o)) }

-- ---- observe

abbrev out_of_stage : ResourceId → Machine → Machine
out_of_stage r m = with_state (without_stage r m.state) m

abbrev out_of_seen : ResourceId → Machine → Machine
out_of_seen r m = with_state (pass_changed (λ p. with_seen (delete r p.seen) p) m.state) m

event_is : (r : ResourceId) (e : ProviderEvent) (m : Machine)
    → (learn (resource_of e) m >>= (λ m. see_or_watch (resource_of e) (out_of_stage (resource_of e) (out_of_stage r m)) >>= put_record (resource_of e) e)) ≡ observe_event r e m
unfolding observe_event
event_is r e m = each.bind_same (learn (resource_of e) m) _ _ (λ m.
    ap (λ (x : Machine). see_or_watch (resource_of e) x >>= put_record (resource_of e) e) (sym (ap (unstage (resource_of e)) (unstage_is r m) ∙ unstage_is (resource_of e) (out_of_stage r m))))

pub observes_event : (r i : ResourceId) (e : ProviderEvent) {w w₁ w₂ w₃ w₄ w₅ : List ℕ} {p q s t : Progress} → i ≡ resource_of e → Changes (learn i) w p q w₁ → Edits (without_stage r) w₁ w₂
    → Edits (without_stage i) w₂ w₃ → Changes (see_or_watch i) w₃ q s w₄ → Changes (put_record i e) w₄ s t w₅ → Changes (observe_event r e) w p t w₅
observes_event r i e {w} {w₁} {w₂} {w₃} {w₄} {w₅} {p} {q} {s} {t} z = subst (λ (i : ResourceId). Changes (learn i) w p q w₁ → Edits (without_stage r) w₁ w₂ → Edits (without_stage i) w₂ w₃ → Changes (see_or_watch i) w₃ q s w₄ → Changes (put_record i e) w₄ s t w₅ → Changes (observe_event r e) w p t w₅) (sym z)
    (λ L E F M P. record {
      does = λ o. runs.is (observe_event r e) (event_is r e)
          (runs.next (L.does o) (runs.edit {g = λ m. see_or_watch (resource_of e) (out_of_stage (resource_of e) m) >>= put_record (resource_of e) e} E
          (runs.edit {g = λ m. see_or_watch (resource_of e) m >>= put_record (resource_of e) e} F (runs.next (M.does o) (P.does o)))));
    })

none_is : (r : ResourceId) (m : Machine)
    → (watch_unless_done r (out_of_seen r (out_of_stage r m)) >>= (λ m. ok (with_state (with_records (remove by_name r m.state.records) m.state) m))) ≡ observe_none r m
unfolding observe_none remove_record set_records
none_is r m = ap (λ (x : Machine). watch_unless_done r x >>= (λ m. ok (with_state (with_records (remove by_name r m.state.records) m.state) m)))
    (sym (ap (unsee r) (unstage_is r m) ∙ unsee_is r (out_of_stage r m)))

pub observes_none : (r : ResourceId) {w w₁ w₂ w₃ w₄ : List ℕ} {p q : Progress} → Edits (without_stage r) w w₁ → Edits (pass_changed (λ p. with_seen (delete r p.seen) p)) w₁ w₂
    → Changes (watch_unless_done r) w₂ p q w₃ → Edits (λ s. with_records (remove by_name r s.records) s) w₃ w₄ → Changes (observe_none r) w p q w₄
observes_none r E F C G = record {
  does = λ o. runs.is (observe_none r) (none_is r)
      (runs.edit {g = λ m. watch_unless_done r (out_of_seen r m) >>= (λ m. ok (with_state (with_records (remove by_name r m.state.records) m.state) m))} E
      (runs.edit {g = λ m. watch_unless_done r m >>= (λ m. ok (with_state (with_records (remove by_name r m.state.records) m.state) m))} F
      (runs.next (C.does o) (runs.last_edit G))));
}

pub observes_some : (r : ResourceId) (e : ProviderEvent) {w w₁ w₂ : List ℕ} {p q s : Progress} → Changes (learn r) w p q w₁ → Changes (observe_event r e) w₁ q s w₂ → Changes (observe r (Some e)) w p s w₂
unfolding observe match◌none:◌some:◌
observes_some r e L C = record { does = λ o. runs.is (observe r (Some e)) (λ m. refl) (runs.next (L.does o) (C.does o)) }

pub observes_gone : (r : ResourceId) {w w₁ w₂ : List ℕ} {p q s : Progress} → Changes (learn r) w p q w₁ → Changes (observe_none r) w₁ q s w₂ → Changes (observe r None) w p s w₂
unfolding observe match◌none:◌some:◌
observes_gone r L C = record { does = λ o. runs.is (observe r None) (λ m. refl) (runs.next (L.does o) (C.does o)) }

-- HasState after a Changes
pub still : {f : Machine → Run} {w w' : List ℕ} {p q : Progress} → Changes f w p q w' → HasState w → HasState w'
still C K = (C.does []).state K
