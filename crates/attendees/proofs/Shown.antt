-- The address shown for encoded entries is the one that the merge shows for the entries. Assumes nothing.
use Rattle.std.specs.Prelude.{Option, Some, None}
use Prim.Native.Nat.{ℕ, ◌<◌}
use native.Mathlib.Omega.{arith}
use mathlib.Core.Path.{◌≡◌, refl, ap, ◌∙◌}
use mathlib.Core.List.{List, [], ◌∷◌, ◌++◌}
use lib.ListN.{length}
use borrow.Author.Tests.{lt-ltb}
use Rattle.format.specs.Format.{below, option, text, ◌⊗◌, via}
use Rattle.model.specs.Event.{Attendee}
use Rattle.model.specs.Shapes.{attendee_role_from, participation_from, kind_from}
use Rattle.model.specs.Formats.{short_text, attendee_role_f, participation_f, kind_f, attendee_f}
use Rattle.model.specs.Merge.{display_address}
use Rattle.model.proofs.FormatsLaws.{short_text_law}
use Rattle.model.proofs.ValidParts.{ok_some}
use Rattle.frame.specs.Read.{value_at, value_of}
use Rattle.attendees.specs.Entries.{address_of, shown_address, entry_enc, Shown}

-- the address of an entry's bytes
pub address_enc : (a : Attendee) → attendee_f.Ok a → address_of (attendee_f.enc a) ≡ a.address
unfolding address_of value_at attendee_f via ◌⊗◌
address_enc a ok = ap (value_of []) (short_text_law.writes a.address ok.0 _)

address_none : address_of [] ≡ []
unfolding address_of value_at text
address_none = refl

-- an entry has bytes
pub enc_cons : (a : Attendee) → attendee_f.enc a
    ≡ length a.address ∷ (a.address ++ ((option short_text).enc a.name ++ (attendee_role_from a.role ∷ participation_from a.participation ∷ kind_from a.kind ∷ [])))
unfolding attendee_f attendee_role_f participation_f kind_f via ◌⊗◌ below text
enc_cons a = refl

pub present : (a : Attendee) → 0 < length (attendee_f.enc a)
present a = rw (enc_cons a) (omega arith)

pub shown_enc : (x y z : Option Attendee) → (option attendee_f).Ok x → (option attendee_f).Ok y → (option attendee_f).Ok z
    → shown_address (entry_enc x) (entry_enc y) (entry_enc z) ≡ display_address x y z
unfolding shown_address display_address
shown_enc x y (Some t) p q r = rw (lt-ltb 0 (length (attendee_f.enc t)) (present t)) (address_enc t (ok_some attendee_f t r))
shown_enc x (Some o) None p q r = rw (lt-ltb 0 (length (attendee_f.enc o)) (present o)) (address_enc o (ok_some attendee_f o q))
shown_enc (Some b) None None p q r = address_enc b (ok_some attendee_f b p)
shown_enc None None None p q r = address_none

pub shown : (b o t r : List ℕ) → r ≡ shown_address b o t → Shown b o t r
shown b o t r e = record { bytes = e; means = λ x y z p q w f g h. e ∙ (rw (f, g, h) (shown_enc x y z p q w)) }
