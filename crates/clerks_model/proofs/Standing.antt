-- The second brings in changes only where the first left the base standing, so what the first wrote unlike the base stands in the end. Assumes nothing.
use Rattle.std.specs.Prelude.{Some, None}
use Rattle.format.proofs.Options.{None-ne-Some, Some_inj}
use mathlib.Core.Path.{◌≡◌, refl, sym, ap, ◌∙◌}
use mathlib.Core.Bool.{Bool, true, false, true≢false}
use lib.Dec.{leb→le, T}
use Rattle.format.specs.Format.{option}
use Rattle.model.specs.Event.{Text, ProviderEvent}
use Rattle.model.specs.Maps.{same_text}
use Rattle.model.specs.Formats.{attendee_f, fields_f, event_f}
use Rattle.model.proofs.Tables.{same_self, same_true, and_left}
use Rattle.model.proofs.MergesFit.{merges_fit}
use Rattle.model.proofs.ValidParts.{event_fields}
use Rattle.clerks_model.specs.Frame.{Party}
use Rattle.clerks_model.specs.Units.{Unit, entry, rest_of, reply_of, Value, value}
use Rattle.clerks_model.specs.Writes.{after_first, after_both, few, accepted}
use Rattle.clerks_model.specs.Forcing.{Update}
use Rattle.clerks_model.specs.Claims.{Event, SecondOnlyWhereBaseStood}
use Rattle.clerks_model.proofs.Entries.{entry_merged, merge_entry, merge_apart}
use Rattle.clerks_model.proofs.OneEntry.{entry_ok, rest_moved, reply_moved}
use Rattle.clerks_model.proofs.UnitKinds.{Kind, a_field, a_rest, a_reply, kind_of, field_moved}

first_ok : (e : ProviderEvent) (p : Party) → event_f.Ok e → fields_f.Ok p.wanted → T (few (after_first e p)) → event_f.Ok (after_first e p)
unfolding few after_first
first_ok e p ok w t = (merges_fit e.fields p.wanted e p.role (event_fields e ok) w ok).event (leb→le _ _ t)

pub second_only_where_base_stood : SecondOnlyWhereBaseStood
unfolding value after_both after_first accepted
second_only_where_base_stood e p q u ev wp wq acc n = go u (kind_of u) n
  where
    m : ProviderEvent
    m = after_first e p

    ok : event_f.Ok m
    ok = first_ok e p ev.fits wp.fits (and_left (few (after_first e p)) (few (after_both e p q)) acc)

    okb : (key : Text) → (option attendee_f).Ok (entry key e.fields.attendees)
    okb key = entry_ok key e.fields (event_fields e ev.fits)

    okt : (key : Text) → (option attendee_f).Ok (entry key m.fields.attendees)
    okt key = entry_ok key m.fields (event_fields m ok)

    entry_is : (key : Text) → entry key (after_both e p q).fields.attendees ≡ entry_merged q.role key (entry key e.fields.attendees) (entry key q.wanted.attendees) (entry key m.fields.attendees)
    entry_is key = merge_entry e.fields q.wanted m q.role key wq.apart_addresses (merge_apart e.fields p.wanted e p.role wp.apart_addresses ev.apart_addresses)

    go : (u : Unit) → Kind u → (value u (after_both e p q).fields ≡ value u m.fields → ⊥) → value u m.fields ≡ value u e.fields
    go u (a_field u' f) n = field_moved f e.fields q.wanted m q.role n
    go u (a_rest key) n = rest_moved q.role key _ _ _ (okb key) (okt key) (λ h. n (ap rest_of (entry_is key) ∙ h))
    go u (a_reply key) n = reply_moved q.role key _ _ _ (okb key) (okt key) (λ h. n (ap reply_of (entry_is key) ∙ h))

-- ---- what the first wrote

-- values are compared byte by byte, so what can't differ is the same
stable : (a b : Value) → ((a ≡ b → ⊥) → ⊥) → a ≡ b
stable None None n = refl
stable None (Some b) n = absurd (n (λ e. None-ne-Some b e))
stable (Some a) None n = absurd (n (λ e. None-ne-Some a (sym e)))
stable (Some a) (Some b) n = go (same_text a b) refl
  where
    go : (c : Bool) → same_text a b ≡ c → Some a ≡ Some b
    go true e = ap Some (same_true a b e)
    go false e = absurd (n (λ h. true≢false (sym (same_self a) ∙ ap (same_text a) (Some_inj.0 h) ∙ e)))

pub stands_after : (e : ProviderEvent) (p q : Party) (u : Unit) (v : Value) → Event e → Update p.wanted → Update q.wanted → T (accepted e p q)
    → value u (after_first e p).fields ≡ v → (v ≡ value u e.fields → ⊥) → value u (after_both e p q).fields ≡ v
stands_after e p q u v ev wp wq acc is n =
    stable _ _ (λ differs. n (sym is ∙ second_only_where_base_stood e p q u ev wp wq acc (λ same. differs (same ∙ is))))
