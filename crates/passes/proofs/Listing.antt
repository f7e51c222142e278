-- One change of a page: each law's premises are what the callees ensure. Assumes nothing.
use Rattle.std.specs.Prelude.{Option, Some, None}
use Prim.Native.Nat.{ℕ, ◌+◌, ◌-◌}
use mathlib.Core.Path.{◌≡◌, sym, ap, ◌∙◌, subst}
use mathlib.Core.List.{List, ◌++◌, append_assoc}
use mathlib.Core.Bool.{Bool, true, false}
use lib.ListN.{length, drop, take-append-drop}
use Rattle.format.specs.Format.{option, via, enum, ◌∣◌, ◌⊗◌}
use Rattle.spans.specs.Bytes.{zeros}
use Rattle.model.specs.Event.{Text, ProviderRevision, ProviderEvent}
use Rattle.model.specs.Seam.{RequestId, ResourceId, Change}
use Rattle.model.specs.State.{Staged, SyncState}
use Rattle.model.specs.Maps.{when◌then◌else◌, by_name, remove, get, is_some_and}
use Rattle.model.specs.Formats.{same, resource_id, short_text, event_f, change_f}
use Rattle.model.specs.Machine.{Machine, Run, ok, ◌>>=◌, with_staged, stage, unstage, see}
use Rattle.model.specs.Sync.{learn, doubtful, holds, staged_of, list_change}
use Rattle.frame.specs.Meaning.{text_in, option_event_at, meant_change}
use Rattle.frame.specs.declared.TextPart.{TextPart}
use Rattle.frame.specs.declared.Change as places
use Rattle.frame.specs.declared.Change.TheVariants as change
use Rattle.state.specs.Layout.{padded}
use Rattle.state.specs.Contract.{Reads, Edits, Tries}
use Rattle.state.specs.Values.{name_of}
use Rattle.records.specs.Events.{RecordAt, RecordIs, FindsRecord}
use Rattle.versions.specs.Versions.{Stands, VersionOf}
use Rattle.staged.specs.Staging.{may_stage, with_stage, without_stage}
use Rattle.machine.specs.declared.Progress.{Progress}
use Rattle.machine.specs.Contract.{Changes}
use Rattle.machine.specs.Steps.{tried_by}
use Rattle.machine.proofs.Steps as steps
use Rattle.observe.proofs.Reading as opened
use Rattle.observe.proofs.Refreshing.{doubts}
use Rattle.passes.specs.Reading.{list_found}
use Rattle.passes.proofs.Changing as changing

-- ---- what a change brought

pub stages : {w w' : List ℕ} {b : Bool} (p : Progress) {q : Progress} (r : ResourceId) (v : Staged) → Tries (may_stage r v) (with_stage r v) w b w' → q ≡ tried_by p b → Changes (stage r v) w p q w'
stages p r v T e = steps.changed e (opened.staged_tries p r v T)

pub found_nothing : {w w' : List ℕ} {p q : Progress} (r : ResourceId) (o : Option ProviderEvent) → o ≡ None → Changes (stage r Staged.Unread) w p q w' → Changes (stage r (staged_of o)) w p q w'
unfolding staged_of
found_nothing {w} {w'} {p} {q} r o e C = subst (λ (x : Option ProviderEvent). Changes (stage r (staged_of x)) w p q w') (sym e) C

pub found_event : {w w' : List ℕ} {p q : Progress} (r : ResourceId) (o : Option ProviderEvent) (e : ProviderEvent) → o ≡ Some e → Changes (stage r (Staged.Present e)) w p q w' → Changes (stage r (staged_of o)) w p q w'
unfolding staged_of
found_event {w} {w'} {p} {q} r o e d C = subst (λ (x : Option ProviderEvent). Changes (stage r (staged_of x)) w p q w') (sym d) C

-- ---- the record of a name

record_stands : {name : Text} {w : List ℕ} {s : SyncState} {p : ℕ} (R : RecordAt name w s p) → Stands R.event w (p + 33)
unfolding padded
record_stands {w = w} {p = p} R = record {
  ok = R.ok;
  rest = zeros (882 - length (event_f.enc R.event)) ++ drop 882 (drop (p + 33) w);
  is = sym (take-append-drop 882 (drop (p + 33) w)) ∙ ap (λ (x : List ℕ). x ++ drop 882 (drop (p + 33) w)) R.bytes ∙ append_assoc (event_f.enc R.event) (zeros (882 - length (event_f.enc R.event))) (drop 882 (drop (p + 33) w));
}

pub held_is : (name : Text) (rev : ProviderRevision) (w revision : List ℕ) (mapper p : ℕ) (r : Option ℕ) (v : Bool) → FindsRecord name w r → r ≡ Some p
    → ((e : ProviderEvent) → Stands e w (p + 33) → VersionOf e revision mapper)
    → ((h : ProviderEvent) → event_f.Ok h → VersionOf h revision mapper → v ≡ same (option short_text) h.revision (Some rev))
    → Reads (λ s. is_some_and (λ e. same (option short_text) e.revision (Some rev)) (get by_name name s.records)) w v
unfolding RecordIs is_some_and
held_is name rev w revision mapper p r v F e version has = record {
  is = λ s h.
      let R : RecordAt name w s p = subst (λ (x : Option ℕ). RecordIs name w s x) e (F.is s h) in
      has R.event R.ok (version R.event (record_stands R)) ∙ sym (ap (is_some_and (λ e. same (option short_text) e.revision (Some rev))) R.got);
}

pub not_held : (name : Text) (rev : ProviderRevision) (w : List ℕ) (r : Option ℕ) → FindsRecord name w r → r ≡ None
    → Reads (λ s. is_some_and (λ e. same (option short_text) e.revision (Some rev)) (get by_name name s.records)) w false
unfolding RecordIs is_some_and
not_held name rev w r F e = record {
  is = λ s h. sym (ap (is_some_and (λ e. same (option short_text) e.revision (Some rev))) (subst (λ (x : Option ℕ). RecordIs name w s x) e (F.is s h)));
}

-- ---- a change that is not doubtful

module _ {w w' : List ℕ} {p q : Progress} {v : Bool} (r : ResourceId) (t rev : ProviderRevision) (n : t ≡ rev) (event : Option ProviderEvent)
    (R : Reads (λ s. is_some_and (λ e. same (option short_text) e.revision (Some t)) (get by_name r s.records)) w v) where
  with_revision : Changes (list_found r t event) w p q w' → Changes (list_found r rev event) w p q w'
  with_revision C = subst (λ (x : ProviderRevision). Changes (list_found r x event) w p q w') n C

  pub held_not : v ≡ false → Changes (stage r (staged_of event)) w p q w' → Changes (list_found r rev event) w p q w'
  unfolding list_found holds
  held_not e C = with_revision (changing.if_false (λ m. ok (unstage r m)) R e C)

pub held_already : {w w' : List ℕ} {p : Progress} {v : Bool} (r : ResourceId) (t rev : ProviderRevision) → t ≡ rev → (event : Option ProviderEvent)
    → Reads (λ s. is_some_and (λ e. same (option short_text) e.revision (Some t)) (get by_name r s.records)) w v → v ≡ true → Edits (without_stage r) w w' → Changes (list_found r rev event) w p p w'
unfolding list_found holds unstage
held_already {w} {w'} {p} r t rev n event R e E =
    subst (λ (x : ProviderRevision). Changes (list_found r x event) w p p w') n
    (changing.if_true (stage r (staged_of event)) R e (changing.same_run (λ m. ok (unstage r m)) (λ m. ap ok (changing.change_pass_is (λ pass. with_staged (remove by_name r pass.staged) pass) m)) (changing.edits E)))

-- ---- a change

abbrev upsert_with : ResourceId → ProviderRevision → Option ProviderEvent → Bool → Machine → Run
upsert_with r rev event doubted m = learn r m >>= (λ m. see r m >>= (λ m. when doubted then stage r Staged.Unread m else list_found r rev event m))

abbrev remove_with : ResourceId → Bool → Machine → Run
remove_with r doubted m = learn r m >>= (λ m. stage r (when doubted then Staged.Unread else Staged.Removed) m)

module _ {w w₁ w₂ : List ℕ} {p q t : Progress} {v : Bool} (id : RequestId) (b : List ℕ) (r : ResourceId) (n : name_of b ≡ r) (D : Reads (doubts id (name_of b)) w v) (L : Changes (learn (name_of b)) w p q w₁) where
  module _ {w₃ : List ℕ} {s : Progress} (rev : ProviderRevision) (event : Option ProviderEvent) (S : Changes (see (name_of b)) w₁ q s w₂) where
    upserted : Changes (upsert_with (name_of b) rev event v) w p t w₃ → Changes (list_change id (Change.Upsert r rev event)) w p t w₃
    unfolding list_change doubtful list_found
    upserted C = subst (λ (x : ResourceId). Changes (list_change id (Change.Upsert x rev event)) w p t w₃) n (changing.on_reading (upsert_with (name_of b) rev event) D C)

    pub upsert_doubted : v ≡ true → Changes (stage (name_of b) Staged.Unread) w₂ s t w₃ → Changes (list_change id (Change.Upsert r rev event)) w p t w₃
    unfolding when◌then◌else◌
    upsert_doubted e C = upserted (changing.and_then L (changing.and_then S (subst (λ (x : Bool). Changes (λ m. when x then stage (name_of b) Staged.Unread m else list_found (name_of b) rev event m) w₂ s t w₃) (sym e) C)))

    pub upsert_found : v ≡ false → Changes (list_found (name_of b) rev event) w₂ s t w₃ → Changes (list_change id (Change.Upsert r rev event)) w p t w₃
    unfolding when◌then◌else◌
    upsert_found e C = upserted (changing.and_then L (changing.and_then S (subst (λ (x : Bool). Changes (λ m. when x then stage (name_of b) Staged.Unread m else list_found (name_of b) rev event m) w₂ s t w₃) (sym e) C)))

  removed : Changes (remove_with (name_of b) v) w p t w₂ → Changes (list_change id (Change.Remove r)) w p t w₂
  unfolding list_change doubtful
  removed C = subst (λ (x : ResourceId). Changes (list_change id (Change.Remove x)) w p t w₂) n (changing.on_reading (remove_with (name_of b)) D C)

  pub remove_doubted : v ≡ true → Changes (stage (name_of b) Staged.Unread) w₁ q t w₂ → Changes (list_change id (Change.Remove r)) w p t w₂
  unfolding when◌then◌else◌
  remove_doubted e C = removed (changing.and_then L (subst (λ (x : Bool). Changes (stage (name_of b) (when x then Staged.Unread else Staged.Removed)) w₁ q t w₂) (sym e) C))

  pub remove_sure : v ≡ false → Changes (stage (name_of b) Staged.Removed) w₁ q t w₂ → Changes (list_change id (Change.Remove r)) w p t w₂
  unfolding when◌then◌else◌
  remove_sure e C = removed (changing.and_then L (subst (λ (x : Bool). Changes (stage (name_of b) (when x then Staged.Unread else Staged.Removed)) w₁ q t w₂) (sym e) C))

-- the parts of a valid change are valid
pub upsert_ok : (s : List ℕ) (c : places.Change) (resource revision : TextPart) (event : ℕ) → c ≡ change.Upsert resource revision event → change_f.Ok (meant_change s c)
    → resource_id.Ok (text_in s resource) × short_text.Ok (text_in s revision) × (option event_f).Ok (option_event_at s event)
unfolding change_f via enum ◌∣◌ ◌⊗◌
upsert_ok s c resource revision event e k =
    let h = subst (λ (x : places.Change). change_f.Ok (meant_change s x)) e k in
    (h.0, h.1.0, h.1.1)

pub remove_ok : (s : List ℕ) (c : places.Change) (resource : TextPart) → c ≡ change.Remove resource → change_f.Ok (meant_change s c) → resource_id.Ok (text_in s resource)
unfolding change_f via enum ◌∣◌
remove_ok s c resource e k = subst (λ (x : places.Change). change_f.Ok (meant_change s x)) e k

pub change_is : {w w' : List ℕ} {p q : Progress} (id : RequestId) (s : List ℕ) (c d : places.Change) → c ≡ d → Changes (list_change id (meant_change s d)) w p q w' → Changes (list_change id (meant_change s c)) w p q w'
change_is {w} {w'} {p} {q} id s c d e C = subst (λ (x : places.Change). Changes (list_change id (meant_change s x)) w p q w') (sym e) C
