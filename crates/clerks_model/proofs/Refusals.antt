-- The refusals: their order, and their numbers. Assumes nothing.
use Rattle.std.specs.Prelude.{Option, Some, None}
use Prim.Native.Nat.{◌<◌}
use native.Mathlib.Omega.{arith}
use mathlib.Core.Path.{◌≡◌, refl, ap, ◌∙◌}
use mathlib.Core.Logic.{◌⊎◌, inl, inr}
use mathlib.Core.Bool.{Bool, true, false, not, ◌&&◌}
use Rattle.format.specs.Format.{whole_of}
use Rattle.model.specs.Maps.{when◌then◌else◌}
use Rattle.model.specs.Formats.{Bytes}
use Rattle.clerks_model.specs.Frame.{Clerks, clerks_f}
use Rattle.clerks_model.specs.Writes.{accepted}
use Rattle.clerks_model.specs.Answer.{Answer, no_frame, address_twice, too_many, all_apart, both_accepted, judged, answered, two_clerks}
use Rattle.clerks_model.specs.Claims.{RefusedInOrder}

-- ---- their order

module _ (frame : Bytes) where
  judged_is : (c : Clerks) → whole_of clerks_f frame ≡ Some c → two_clerks frame ≡ judged c
  unfolding two_clerks answered
  judged_is c h = ap answered h

  too_many_is : (c : Clerks) → all_apart c ≡ true → ((accepted c.event c.one c.two ≡ false) ⊎ (accepted c.event c.two c.one ≡ false)) → judged c ≡ Answer.Refused too_many
  unfolding judged both_accepted when◌then◌else◌
  too_many_is c a (inl e) = rw (a, e)
  too_many_is c a (inr e) = rw (a, e) (go (accepted c.event c.one c.two) _)
    where
      go : (b : Bool) (x : Answer) → (when not (b && false) then Answer.Refused too_many else x) ≡ Answer.Refused too_many
      go true x = refl
      go false x = refl

  twice_is : (c : Clerks) → all_apart c ≡ false → judged c ≡ Answer.Refused address_twice
  unfolding judged when◌then◌else◌
  twice_is c e = rw e

  no_frame_is : whole_of clerks_f frame ≡ None → two_clerks frame ≡ Answer.Refused no_frame
  unfolding two_clerks answered
  no_frame_is h = ap answered h

pub refused_in_order : RefusedInOrder
refused_in_order frame = record {
  first = no_frame_is frame;
  then = λ c h e. judged_is frame c h ∙ twice_is frame c e;
  last = λ c h a e. judged_is frame c h ∙ too_many_is frame c a e;
}

-- ---- their numbers

-- a refusal's number is not 0, and has two digits at most
abbrev pub Coded : Answer → Type 0
Coded (Answer.Refused n) = (0 < n) × (n < 100)
Coded (Answer.Lines a b) = Unit {0}

judged_coded : (c : Clerks) → Coded (judged c)
unfolding judged when◌then◌else◌
judged_coded c = go (all_apart c) (both_accepted c) _ _
  where
    go : (apart both : Bool) (a b : Bytes) → Coded (when not apart then Answer.Refused address_twice else (when not both then Answer.Refused too_many else Answer.Lines a b))
    go false both a b = (omega arith, omega arith)
    go true false a b = (omega arith, omega arith)
    go true true a b = tt

answered_coded : (o : Option Clerks) → Coded (answered o)
unfolding answered
answered_coded None = (omega arith, omega arith)
answered_coded (Some c) = judged_coded c

pub coded : (frame : Bytes) → Coded (two_clerks frame)
unfolding two_clerks
coded frame = answered_coded _
