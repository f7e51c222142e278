-- Names and events that stand in bytes: what the functions that take them out answer. Assumes nothing.
use Rattle.std.specs.Prelude.{Option, Some, None}
use Rattle.format.proofs.Options.{Some-injective, None-ne-Some}
use Prim.Native.Nat.{ℕ}
use mathlib.Core.Path.{◌≡◌, sym, ap, ◌∙◌, subst}
use mathlib.Core.List.{List, [], ◌++◌, append_assoc}
use mathlib.Core.Bool.{Bool, true}
use lib.ListN.{drop}
use Rattle.format.specs.Format.{Got, option, via, ◌⊗◌, enum, ◌∣◌, below}
use Rattle.model.specs.Event.{Text, ProviderEvent}
use Rattle.model.specs.Seam.{ResourceId, resource_of}
use Rattle.model.specs.Formats.{resource_id, event_id, short_text, u32, tag, provider_f, ids_f, fields_f, event_f}
use Rattle.model.proofs.FormatsLaws.{resource_id_law}
use Rattle.model.specs.Sync.{observe}
use Rattle.model.proofs.ValidParts.{event_name}
use Rattle.frame.specs.Read.{value_of, value_at, kept, value_in, read_at, Means, Parted}
use Rattle.frame.specs.Meaning.{no_event, resource_at, part_in, event_at, option_event_at}
use Rattle.frame.specs.declared.Cursor.{Cursor}
use Rattle.frame.specs.declared.Part.{Part}
use Rattle.frame.proofs.Stood as stood
use Rattle.values.specs.Parts.{meant_listed}
use Rattle.values.specs.declared.Listed.{Listed}
use Rattle.values.specs.declared.Listed.TheVariants.{Nothing, Event}
use Rattle.records.specs.Events.{IsEvent}
use Rattle.machine.specs.declared.Progress.{Progress}
use Rattle.machine.specs.Contract.{Changes}

-- ---- an event's own name

rest_of : ProviderEvent → List ℕ
rest_of e = ((option event_id).enc e.ids.ical_uid ++ (option event_id).enc e.ids.series_id) ++ ((option short_text).enc e.revision ++ (u32.enc e.mapper_version ++ (fields_f.enc e.fields ++ tag.enc e.passthrough)))

behind : (e : ProviderEvent) → drop 1 (event_f.enc e) ≡ resource_id.enc (resource_of e) ++ rest_of e
unfolding rest_of event_f ids_f provider_f via ◌⊗◌ below
behind e = append_assoc (resource_id.enc (resource_of e)) ((option event_id).enc e.ids.ical_uid ++ (option event_id).enc e.ids.series_id)
    ((option short_text).enc e.revision ++ (u32.enc e.mapper_version ++ (fields_f.enc e.fields ++ tag.enc e.passthrough)))

id_read : (e : ProviderEvent) (b : List ℕ) → event_f.Ok e → b ≡ event_f.enc e → resource_at b 1 ≡ resource_of e
unfolding value_at
id_read e b k q = ap (λ (x : Got Text). value_of [] x) (ap (λ (x : List ℕ). resource_id.dec (drop 1 x)) q ∙ ap resource_id.dec (behind e) ∙ resource_id_law.writes (resource_of e) (event_name e k) (rest_of e))

pub id_fits : (b t : List ℕ) → IsEvent b → t ≡ resource_at b 1 → resource_id.Ok t
id_fits b t E q = subst (λ (x : Text). resource_id.Ok x) (sym (q ∙ id_read E.event b E.ok E.is)) (event_name E.event E.ok)

pub id_is : (b t : List ℕ) (n : Text) → t ≡ resource_at b 1 → n ≡ t → (e : ProviderEvent) → event_f.Ok e → b ≡ event_f.enc e → n ≡ resource_of e
id_is b t n q d e k r = d ∙ q ∙ id_read e b k r

-- ---- an event at a place of the frame

pub event_bytes : (s : List ℕ) (p : ℕ) (next : Cursor) (part : Part) (r : List ℕ) → Parted next part event_f s (record { at = p; ok = true }) → r ≡ part_in s part → event_f.Ok (event_at s p)
    → r ≡ event_f.enc (event_at s p)
event_bytes s p next part r P e k = e ∙ (ap (part_in s) P.is ∙ (stood.event_stands s p next P.place k).1)

-- ---- what a read found

pub found_is : (s : List ℕ) (p : ℕ) (next : Cursor) (v : Option ProviderEvent) → Means next v (option event_f) s (record { at = p; ok = true }) → (option event_f).Ok (option_event_at s p) → option_event_at s p ≡ v
unfolding value_at read_at
found_is s p next v M k =
    let o : next.ok ≡ true = (stood.option_event_stands s p next M.place k).0 in
    go ((option event_f).dec (drop p s)) (ap (λ (b : Bool). kept b v) (sym o) ∙ M.is)
  where
    go : (x : Got (Option ProviderEvent)) → kept true v ≡ value_in x → value_of (Some no_event) x ≡ v
    go None q = absurd (None-ne-Some v (sym q))
    go (Some r) q = Some-injective r.0 v (sym q)

option_ok : (e : ProviderEvent) → (option event_f).Ok (Some e) → event_f.Ok e
unfolding option via enum ◌∣◌
option_ok e k = k

module _ (s : List ℕ) (p : ℕ) {next : Cursor} {listed : Listed} (M : Means next (meant_listed s listed) (option event_f) s (record { at = p; ok = true })) (k : (option event_f).Ok (option_event_at s p)) where
  pub read_none : (r : ResourceId) {w w' : List ℕ} {a b : Progress} → listed ≡ Nothing → Changes (observe r None) w a b w' → Changes (observe r (option_event_at s p)) w a b w'
  read_none r {w} {w'} {a} {b} z C =
      let e : option_event_at s p ≡ None = found_is s p next (meant_listed s listed) M k ∙ ap (meant_listed s) z in
      subst (λ (x : Option ProviderEvent). Changes (observe r x) w a b w') (sym e) C

  some_is : (at : ℕ) → listed ≡ Event at → option_event_at s p ≡ Some (event_at s at)
  some_is at z = found_is s p next (meant_listed s listed) M k ∙ ap (meant_listed s) z

  pub read_ok : (at : ℕ) → listed ≡ Event at → event_f.Ok (event_at s at)
  read_ok at z = option_ok (event_at s at) (subst (λ (x : Option ProviderEvent). (option event_f).Ok x) (some_is at z) k)

  pub read_some : (r : ResourceId) (at : ℕ) {w w' : List ℕ} {a b : Progress} → listed ≡ Event at → Changes (observe r (Some (event_at s at))) w a b w' → Changes (observe r (option_event_at s p)) w a b w'
  read_some r at {w} {w'} {a} {b} z C = subst (λ (x : Option ProviderEvent). Changes (observe r x) w a b w') (sym (some_is at z)) C
