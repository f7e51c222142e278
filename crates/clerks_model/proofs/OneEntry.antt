-- One entry merged: where a unit of it moves, and what an owner or an attendee can write of it. Assumes nothing.
use Rattle.std.specs.Prelude.{Option, Some, None}
use mathlib.Core.Path.{◌≡◌, refl, sym, ap, ◌∙◌, subst}
use mathlib.Core.List.{List, [], ◌∷◌}
use mathlib.Core.Bool.{Bool, true, false, ◌&&◌, true≢false}
use lib.Dec.{T}
use Rattle.format.specs.Format.{All, option}
use Rattle.format.proofs.FormatLaws.{option_law}
use Rattle.format.proofs.WholeLaws.{enc_injective}
use Rattle.model.specs.Event.{Text, Attendee, NormalizedEvent}
use Rattle.model.specs.Parts.{Role, Field, FieldValue}
use Rattle.model.specs.Maps.{when◌then◌else◌, same_text, is_some}
use Rattle.model.specs.Formats.{attendee_f, participation_f, fields_f}
use Rattle.model.specs.Merge.{rest, with_participation, whole_entry, own_removed, own_reply, own_standing, own_entry, to_ascii_lowercase, is_own, is_owner}
use Rattle.model.proofs.FormatsLaws.{attendee_f_law}
use Rattle.model.proofs.MergeReports.{part_theirs, side_of}
use Rattle.model.proofs.ValidParts.{none_ok, some_ok}
use Rattle.clerks_model.specs.Units.{folded, entry, rest_of, reply_of, Value}
use Rattle.clerks_model.specs.Naming.{own_there}
use Rattle.clerks_model.proofs.Parts.{Part, stays, moves, same_bytes, part_is, part_moved, part_ok, part_owned, part_echo, reply_part}
use Rattle.clerks_model.proofs.FirstKeys.{first_key}
use Rattle.clerks_model.proofs.Entries.{entry_merged}

entry_fits : (key : Text) (l : List Attendee) → All attendee_f.Ok l → (option attendee_f).Ok (entry key l)
unfolding entry when◌then◌else◌
entry_fits key [] h = none_ok attendee_f
entry_fits key (a ∷ l) h = elim (same_text (folded a) key) as (λ c. (option attendee_f).Ok (when c then Some a else entry key l))
    [ true ↦ some_ok attendee_f a h.0 | false ↦ entry_fits key l h.1 ]

pub entry_ok : (key : Text) (w : NormalizedEvent) → fields_f.Ok w → (option attendee_f).Ok (entry key w.attendees)
entry_ok key w h = entry_fits key w.attendees (side_of w h).attendees

-- ---- where a unit of it moves, the base stood

-- the writer's own: the rest of it stays
pub standing_rest : (b o t : Attendee) → rest_of (own_standing b o t).value ≡ rest_of (Some t)
unfolding own_standing rest_of rest with_participation
standing_rest b o t =
    rw (part_theirs attendee_f (λ r. FieldValue.Attendee (Some r)) Field.Attendees (Some t.address) (rest b) (rest o) (rest t)).value refl

-- and its reply moves only where the base stood
standing_reply : (b o t : Attendee) → (reply_of (own_standing b o t).value ≡ reply_of (Some t) → ⊥) → reply_of (Some t) ≡ reply_of (Some b)
unfolding own_standing reply_of with_participation
standing_reply b o t n = ap Some (part_moved participation_f b.participation o.participation t.participation _
    (part_is participation_f _ _ _ true b.participation o.participation t.participation) (λ e. n (ap Some (ap participation_f.enc (reply_part b o t) ∙ e))))

whole_moved : {X : Type 0} (g : Option Attendee → X) (b o t v : Option Attendee) → (option attendee_f).Ok b → (option attendee_f).Ok t
    → Part (option attendee_f) b o t v → (g v ≡ g t → ⊥) → g t ≡ g b
whole_moved g b o t v okb okt stays n = absurd (n refl)
whole_moved g b o t v okb okt (moves e) n = ap g (enc_injective (option_law attendee_f_law) t b okt okb (same_bytes (option attendee_f) t b e))

-- a unit g of an entry that moves in the writer's own entry only where the base stood
module _ (g : Option Attendee → Value) (standing : (b o t : Attendee) → (g (own_standing b o t).value ≡ g (Some t) → ⊥) → g (Some t) ≡ g (Some b)) where
  entry_moved : (role : Role) (key : Text) (b o t : Option Attendee) → (option attendee_f).Ok b → (option attendee_f).Ok t
      → (g (entry_merged role key b o t) ≡ g t → ⊥) → g t ≡ g b
  unfolding entry_merged when◌then◌else◌ whole_entry own_entry own_removed
  entry_moved role key b o t p q n = go (is_own role (first_key key)) n
    where
      whole : (owned : Bool) (b o t : Option Attendee) → (option attendee_f).Ok b → (option attendee_f).Ok t → (g (whole_entry owned b o t).value ≡ g t → ⊥) → g t ≡ g b
      whole owned b o t p q n = whole_moved g b o t _ p q (part_is (option attendee_f) FieldValue.Attendee Field.Attendees _ owned b o t) n

      own : (b o t : Option Attendee) → (option attendee_f).Ok b → (option attendee_f).Ok t → (g (own_entry b o t).value ≡ g t → ⊥) → g t ≡ g b
      own None o t p q n = whole false None o t p q n
      own (Some b) None t p q n = whole false (Some b) None t p q n
      own (Some b) (Some o) None p q n = absurd (n refl)
      own (Some b) (Some o) (Some t) p q n = standing b o t n

      go : (c : Bool) → (g (when c then own_entry b o t else whole_entry (is_owner role) b o t).value ≡ g t → ⊥) → g t ≡ g b
      go true n = own b o t p q n
      go false n = whole (is_owner role) b o t p q n

pub rest_moved : (role : Role) (key : Text) (b o t : Option Attendee) → (option attendee_f).Ok b → (option attendee_f).Ok t
    → (rest_of (entry_merged role key b o t) ≡ rest_of t → ⊥) → rest_of t ≡ rest_of b
rest_moved = entry_moved rest_of (λ b o t n. absurd (n (standing_rest b o t)))

pub reply_moved : (role : Role) (key : Text) (b o t : Option Attendee) → (option attendee_f).Ok b → (option attendee_f).Ok t
    → (reply_of (entry_merged role key b o t) ≡ reply_of t → ⊥) → reply_of t ≡ reply_of b
reply_moved = entry_moved reply_of standing_reply

-- ---- an owner

pub owner_entry : (key : Text) (b o : Option Attendee) → (option attendee_f).Ok b → (option attendee_f).Ok o → entry_merged Role.Owner key b o b ≡ o
unfolding entry_merged is_own is_owner when◌then◌else◌ whole_entry
owner_entry key b o p q =
    enc_injective (option_law attendee_f_law) _ o (part_ok (option attendee_f) b o b _ (part_is (option attendee_f) FieldValue.Attendee Field.Attendees _ true b o b) q p) q
    (part_owned (option attendee_f) FieldValue.Attendee Field.Attendees _ b o b refl)

-- ---- an attendee

pub reply_owned : (b o : Attendee) → participation_f.enc (own_reply b o b).value ≡ participation_f.enc o.participation
reply_owned b o = ap participation_f.enc (reply_part b o b) ∙ part_owned participation_f _ _ _ b.participation o.participation b.participation refl

-- own_there, taken apart
pub record Own (address key : Text) (b : Option Attendee) : Type 0 where
  pub own : same_text (to_ascii_lowercase address) key ≡ true
  pub there : T (is_some b)

pub own_of : (address key : Text) (e : NormalizedEvent) → own_there (Role.Attendee address) e key ≡ true → Own address key (entry key e.attendees)
unfolding own_there
own_of address key e h = go (same_text (to_ascii_lowercase address) key) refl h
  where
    go : (c : Bool) → same_text (to_ascii_lowercase address) key ≡ c → (c && is_some (entry key e.attendees)) ≡ true → Own address key (entry key e.attendees)
    go true g h = record { own = g; there = rw h tt }
    go false g h = absurd (true≢false (sym h))

-- the reply that it gives in its own entry is the one that results
pub own_writes : (address key : Text) (b o : Option Attendee) (v : Value) → Own address key b → reply_of o ≡ v → T (is_some v)
    → reply_of (entry_merged (Role.Attendee address) key b o b) ≡ v
unfolding entry_merged is_own when◌then◌else◌ own_entry own_standing reply_of with_participation is_some
own_writes address key b o v w e s =
    ap (λ (c : Bool). reply_of (when c then own_entry b o b else whole_entry (is_owner (Role.Attendee address)) b o b).value) w.own ∙ go b w.there o e
  where
    go : (b : Option Attendee) → T (is_some b) → (o : Option Attendee) → reply_of o ≡ v → reply_of (own_entry b o b).value ≡ v
    go None t o e = absurd t
    go (Some b) t None e = absurd (subst (λ (v : Value). T (is_some v)) (sym e) s)
    go (Some b) t (Some o) e = ap Some (reply_owned b o) ∙ e

whole_kept : (b o t : Option Attendee) → (whole_entry false b o t).value ≡ t
unfolding whole_entry
whole_kept b o t = (part_theirs (option attendee_f) FieldValue.Attendee Field.Attendees _ b o t).value

-- an entry that is not its own, or not there
pub entry_kept : (address key : Text) (b o : Option Attendee) → (same_text (to_ascii_lowercase address) key && is_some b) ≡ false
    → entry_merged (Role.Attendee address) key b o b ≡ b
unfolding entry_merged is_own when◌then◌else◌ is_owner own_entry is_some
entry_kept address key b o h = go (same_text (to_ascii_lowercase address) key) refl h
  where
    own : (b : Option Attendee) → is_some b ≡ false → (own_entry b o b).value ≡ b
    own None e = whole_kept None o None
    own (Some b) e = absurd (true≢false e)

    go : (c : Bool) → same_text (to_ascii_lowercase address) key ≡ c → (c && is_some b) ≡ false
        → (when same_text (to_ascii_lowercase address) key then own_entry b o b else whole_entry false b o b).value ≡ b
    go true g h = ap (λ (c : Bool). (when c then own_entry b o b else whole_entry false b o b).value) g ∙ own b h
    go false g h = ap (λ (c : Bool). (when c then own_entry b o b else whole_entry false b o b).value) g ∙ whole_kept b o b

-- the rest of every entry
pub attendee_rest : (address key : Text) (b o t : Option Attendee) → rest_of (entry_merged (Role.Attendee address) key b o t) ≡ rest_of t
unfolding entry_merged when◌then◌else◌ own_entry own_removed is_owner
attendee_rest address key b o t = elim (is_own (Role.Attendee address) (first_key key)) as (λ c. rest_of (when c then own_entry b o t else whole_entry false b o t).value ≡ rest_of t)
    [ true ↦ own b o t | false ↦ ap rest_of (whole_kept b o t) ]
  where
    own : (b o t : Option Attendee) → rest_of (own_entry b o t).value ≡ rest_of t
    own None o t = ap rest_of (whole_kept None o t)
    own (Some b) None t = ap rest_of (whole_kept (Some b) None t)
    own (Some b) (Some o) None = refl
    own (Some b) (Some o) (Some t) = standing_rest b o t

-- ---- where ours is the base, theirs stays

whole_echo : (owned : Bool) (b t : Option Attendee) → (whole_entry owned b b t).value ≡ t
unfolding whole_entry
whole_echo owned b t = part_echo (option attendee_f) FieldValue.Attendee Field.Attendees _ owned b t

pub entry_echo : (role : Role) (key : Text) (b t : Option Attendee) → entry_merged role key b b t ≡ t
unfolding entry_merged when◌then◌else◌ own_entry own_removed own_standing rest with_participation
entry_echo role key b t = elim (is_own role (first_key key)) as (λ c. (when c then own_entry b b t else whole_entry (is_owner role) b b t).value ≡ t)
    [ true ↦ own b t | false ↦ whole_echo (is_owner role) b t ]
  where
    back : (a : Attendee) → with_participation a.participation (rest a) ≡ a
    back a = refl

    own : (b t : Option Attendee) → (own_entry b b t).value ≡ t
    own None t = whole_echo false None t
    own (Some b) None = refl
    own (Some b) (Some t) =
        rw (
          (part_theirs attendee_f (λ r. FieldValue.Attendee (Some r)) Field.Attendees (Some t.address) (rest b) (rest b) (rest t)).value,
          reply_part b b t ∙ part_echo participation_f _ _ _ true b.participation t.participation,
        ) (ap Some (back t))
