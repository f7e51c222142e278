-- Two updates with unlike values of a unit, so that one is unlike the base. Assumes nothing.
use Rattle.std.specs.Prelude.{Option, Some, None}
use Rattle.format.proofs.Options.{None-ne-Some, Some_inj}
use Prim.Native.Nat.{ℕ, ◌≤◌}
use mathlib.Core.Path.{◌≡◌, refl, sym, ap, ◌∙◌, subst}
use mathlib.Core.List.{List, [], ◌∷◌}
use mathlib.Core.Bool.{Bool, true, false, not, ◌||◌, true≢false}
use lib.ListN.{length}
use lib.Dec.{T, lit<, lit≤}
use Rattle.format.specs.Utf8.{is_text, chars}
use Rattle.format.specs.Format.{All, option, via, ◌⊗◌, list, enum, ◌∣◌, nothing, below, number, text}
use Rattle.format.proofs.WholeLaws.{enc_injective}
use Rattle.model.specs.Event.{Attendee, AttendeeRole, Participation, EventStatus, Transparency, Visibility, NormalizedEvent}
use Rattle.model.specs.Limits.{max_attendees, max_text}
use Rattle.model.specs.Maps.{when◌then◌else◌, by_name, by, same_text, is_some}
use Rattle.model.specs.Formats.{tag, short_text, organizer_f, attendee_f, attendee_role_f, participation_f, status_f, transparency_f, visibility_f, fields_f}
use Rattle.model.specs.Merge.{rest, with_participation}
use Rattle.model.proofs.FormatsLaws.{attendee_f_law}
use Rattle.model.proofs.Tables.{same_self, same_true}
use Rattle.model.proofs.ValidParts.{none_ok, some_ok}
use Rattle.clerks_model.specs.Units.{Unit, by_kind, is_field, is_reply, folded, entry, rest_of, reply_of, Value, value}
use Rattle.clerks_model.specs.Forcing.{apart, Update, Given}
use Rattle.clerks_model.specs.Claims.{Proper, of_field, of_rest, of_reply}

-- ---- of a field

unfoldable pub plain : List Attendee → NormalizedEvent
plain l = record {
  title = None;
  times = 0;
  recurrence = None;
  organizer = None;
  attendees = l;
  location = None;
  description = None;
  status = EventStatus.Confirmed;
  transparency = Transparency.Opaque;
  visibility = Visibility.Default;
  reminders = 0;
}

unlike : NormalizedEvent
unlike = record {
  title = Some [];
  times = 1;
  recurrence = Some 0;
  organizer = Some (record { address = []; name = None });
  attendees = [];
  location = Some [];
  description = Some 0;
  status = EventStatus.Tentative;
  transparency = Transparency.Transparent;
  visibility = Visibility.Public;
  reminders = 1;
}

empty_ok : short_text.Ok []
unfolding text max_text is_text chars
empty_ok = (lit≤ tt, refl)

plain_ok : (l : List Attendee) → length l ≤ 8 → All attendee_f.Ok l → fields_f.Ok (plain l)
unfolding plain fields_f via ◌⊗◌ list status_f transparency_f visibility_f below max_attendees number
plain_ok l h a = (none_ok short_text, (lit< tt, (none_ok tag, (none_ok organizer_f, ((h, a), (none_ok short_text, (none_ok tag, (lit< tt, (lit< tt, (lit< tt, lit< tt))))))))))

unlike_ok : fields_f.Ok unlike
unfolding unlike fields_f via ◌⊗◌ list status_f transparency_f visibility_f below max_attendees number organizer_f
unlike_ok = (some_ok short_text [] empty_ok, (lit< tt, (some_ok tag 0 (lit< tt), (some_ok organizer_f _ (empty_ok, none_ok short_text), ((lit≤ tt, tt), (some_ok short_text [] empty_ok, (some_ok tag 0 (lit< tt), (lit< tt, (lit< tt, (lit< tt, lit< tt))))))))))

pub unlike_bytes : (a b : List ℕ) → same_text a b ≡ false → Some a ≡ Some b → ⊥
unlike_bytes a b f e = true≢false (sym (same_self a) ∙ ap (same_text a) (Some_inj.0 e) ∙ f)

decide : {P : Type 0} (a b : Value) → (a ≡ b → P) → ((a ≡ b → ⊥) → P) → P
decide None None f g = f refl
decide None (Some b) f g = g (λ e. None-ne-Some b e)
decide (Some a) None f g = g (λ e. None-ne-Some a (sym e))
decide {P} (Some a) (Some b) f g = go (same_text a b) refl
  where
    go : (c : Bool) → same_text a b ≡ c → P
    go true e = f (ap Some (same_true a b e))
    go false e = g (unlike_bytes a b e)

record Two (u : Unit) : Type 0 where
  one : NormalizedEvent
  two : NormalizedEvent
  one_ok : Update one
  two_ok : Update two
  differ : value u one ≡ value u two → ⊥
  one_there : T (is_some (value u one))
  two_there : T (is_some (value u two))

plain_update : (l : List Attendee) → length l ≤ 8 → All attendee_f.Ok l → T (apart l) → Update (plain l)
unfolding plain
plain_update l h a t = record { fits = plain_ok l h a; apart_addresses = t }

unlike_update : Update unlike
unfolding unlike apart
unlike_update = record { fits = unlike_ok; apart_addresses = tt }

from_plain : (u : Unit) → (value u (plain []) ≡ value u unlike → ⊥) → T (is_some (value u (plain []))) → T (is_some (value u unlike)) → Two u
unfolding apart
from_plain u d p q = record { one = plain []; two = unlike; one_ok = plain_update [] (lit≤ tt) tt tt; two_ok = unlike_update; differ = d; one_there = p; two_there = q }

two_fields : (u : Unit) → T (is_field u) → Two u
unfolding is_field by_kind apart value plain unlike is_some same_text by_name by option via enum ◌∣◌ nothing number text organizer_f ◌⊗◌ status_f transparency_f visibility_f below
two_fields (Unit.Rest key) t = absurd t
two_fields (Unit.Reply key) t = absurd t
two_fields Unit.Title t = from_plain _ (unlike_bytes _ _ refl) tt tt
two_fields Unit.Times t = from_plain _ (unlike_bytes _ _ refl) tt tt
two_fields Unit.Recurrence t = from_plain _ (unlike_bytes _ _ refl) tt tt
two_fields Unit.Organizer t = from_plain _ (unlike_bytes _ _ refl) tt tt
two_fields Unit.Location t = from_plain _ (unlike_bytes _ _ refl) tt tt
two_fields Unit.Description t = from_plain _ (unlike_bytes _ _ refl) tt tt
two_fields Unit.Status t = from_plain _ (unlike_bytes _ _ refl) tt tt
two_fields Unit.Transparency t = from_plain _ (unlike_bytes _ _ refl) tt tt
two_fields Unit.Visibility t = from_plain _ (unlike_bytes _ _ refl) tt tt
two_fields Unit.Reminders t = from_plain _ (unlike_bytes _ _ refl) tt tt

-- ---- of an entry

-- an entry with this role and reply
replaced : AttendeeRole → Participation → Attendee → Attendee
replaced r p a = record { address = a.address; name = a.name; role = r; participation = p; kind = a.kind }

pub participation_ok : (p : Participation) → participation_f.Ok p
unfolding participation_f via below
participation_ok Participation.NeedsAction = lit< tt
participation_ok Participation.Accepted = lit< tt
participation_ok Participation.Declined = lit< tt
participation_ok Participation.Tentative = lit< tt
participation_ok Participation.Delegated = lit< tt

required_ok : (p : Participation) (a : Attendee) → attendee_f.Ok a → attendee_f.Ok (replaced AttendeeRole.Required p a)
unfolding replaced attendee_f via ◌⊗◌ attendee_role_f below
required_ok p a h = (h.0, (h.1.0, (lit< tt, (participation_ok p, h.1.1.1.1))))

optional_ok : (p : Participation) (a : Attendee) → attendee_f.Ok a → attendee_f.Ok (replaced AttendeeRole.Optional p a)
unfolding replaced attendee_f via ◌⊗◌ attendee_role_f below
optional_ok p a h = (h.0, (h.1.0, (lit< tt, (participation_ok p, h.1.1.1.1))))

pub alone : (a x : Attendee) → folded x ≡ folded a → entry (folded a) (x ∷ []) ≡ Some x
unfolding entry when◌then◌else◌
alone a x e = rw (e, same_self (folded a)) refl

pub alone_update : (x : Attendee) → attendee_f.Ok x → Update (plain (x ∷ []))
unfolding apart entry is_some
alone_update x h = plain_update (x ∷ []) (lit≤ tt) (h, tt) tt

is_required : AttendeeRole → Bool
is_required AttendeeRole.Required = true
is_required AttendeeRole.Optional = false
is_required AttendeeRole.Chair = false
is_required AttendeeRole.NonParticipant = false

two_rests : (a : Attendee) → attendee_f.Ok a → Two (Unit.Rest (folded a))
unfolding value plain rest_of is_some replaced folded rest with_participation is_required
two_rests a h = record {
  one = plain (x ∷ []);
  two = plain (y ∷ []);
  one_ok = alone_update x (required_ok Participation.NeedsAction a h);
  two_ok = alone_update y (optional_ok Participation.NeedsAction a h);
  differ = λ e. differ (sym (ap rest_of (alone a x named_x)) ∙ e ∙ ap rest_of (alone a y named_y));
  one_there = subst (λ (v : Option Attendee). T (is_some (rest_of v))) (sym (alone a x named_x)) tt;
  two_there = subst (λ (v : Option Attendee). T (is_some (rest_of v))) (sym (alone a y named_y)) tt;
}
  where
    x : Attendee
    x = replaced AttendeeRole.Required Participation.NeedsAction a

    y : Attendee
    y = replaced AttendeeRole.Optional Participation.NeedsAction a

    named_x : folded x ≡ folded a
    named_x = refl

    named_y : folded y ≡ folded a
    named_y = refl

    differ : Some (attendee_f.enc (rest x)) ≡ Some (attendee_f.enc (rest y)) → ⊥
    differ e = true≢false (ap (λ (a : Attendee). is_required a.role)
        (enc_injective attendee_f_law (rest x) (rest y) (required_ok Participation.NeedsAction a h) (optional_ok Participation.NeedsAction a h) (Some_inj.0 e)))

two_replies : (a : Attendee) → attendee_f.Ok a → Two (Unit.Reply (folded a))
unfolding value plain reply_of is_some same_text by_name by participation_f via below replaced folded
two_replies a h = record {
  one = plain (x ∷ []);
  two = plain (y ∷ []);
  one_ok = alone_update x (required_ok Participation.NeedsAction a h);
  two_ok = alone_update y (required_ok Participation.Accepted a h);
  differ = λ e. unlike_bytes _ _ refl (sym (ap reply_of (alone a x named_x)) ∙ e ∙ ap reply_of (alone a y named_y));
  one_there = subst (λ (v : Option Attendee). T (is_some (reply_of v))) (sym (alone a x named_x)) tt;
  two_there = subst (λ (v : Option Attendee). T (is_some (reply_of v))) (sym (alone a y named_y)) tt;
}
  where
    x : Attendee
    x = replaced AttendeeRole.Required Participation.NeedsAction a

    y : Attendee
    y = replaced AttendeeRole.Required Participation.Accepted a

    named_x : folded x ≡ folded a
    named_x = refl

    named_y : folded y ≡ folded a
    named_y = refl

two_values : (u : Unit) → Proper u → Two u
two_values u (of_field u' t) = two_fields u t
two_values u (of_rest a h) = two_rests a h
two_values u (of_reply a h) = two_replies a h

-- a value that may be given, unlike the base
pub record Unlike (u : Unit) (base : Value) : Type 0 where
  pub v : Value
  pub given : Given u v
  pub there : T (is_some v)
  pub differs : v ≡ base → ⊥

pub unlike_value : (u : Unit) (base : Value) → Proper u → Unlike u base
unlike_value u base p = decide (value u t.one) base
    (λ e. record { v = value u t.two; given = record { in_update = t.two; update = t.two_ok; is = refl; there = or_there (value u t.two) t.two_there }; there = t.two_there; differs = λ f. t.differ (e ∙ sym f) })
    (λ n. record { v = value u t.one; given = record { in_update = t.one; update = t.one_ok; is = refl; there = or_there (value u t.one) t.one_there }; there = t.one_there; differs = n })
  where
    t : Two u
    t = two_values u p

    or_there : (v : Value) → T (is_some v) → T (is_some v || not (is_reply u))
    or_there v h = go (is_some v) h
      where
        go : (c : Bool) → T c → T (c || not (is_reply u))
        go true h = tt
        go false h = absurd h
