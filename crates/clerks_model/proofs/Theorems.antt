-- Change request 10/13: the theorems of specs/Claims.antt. Assumes nothing.
use mathlib.Core.Path.{◌≡◌, refl, sym}
use mathlib.Core.Bool.{Bool, true, false, not, ◌&&◌, true≢false}
use Rattle.model.specs.Maps.{when◌then◌else◌}
use Rattle.clerks_model.specs.Naming.{Named, named, may_change, saved_by}
use Rattle.clerks_model.specs.Claims.{Names, first_can, second_can, nobody_can, NamedRightly, FirstOwnerForces, SecondOnlyWhereBaseStood, ClerksExact, UnitsProper, UnitsBounded, FirstWriteFew, RefusedInOrder}
use Rattle.clerks_model.proofs.Standing as Standing
use Rattle.clerks_model.proofs.Forced as Forced
use Rattle.clerks_model.proofs.Counting as Counting
use Rattle.clerks_model.proofs.Unforced as Unforced
use Rattle.clerks_model.proofs.Frames as Frames
use Rattle.clerks_model.proofs.Refusals as Refusals

and_not : (a b : Bool) → (a && not b) ≡ true → (a ≡ true) × (b ≡ false)
and_not true false e = (refl, refl)
and_not true true e = absurd (true≢false (sym e))
and_not false b e = absurd (true≢false (sym e))

pub named_rightly : NamedRightly
unfolding named when◌then◌else◌
named_rightly e first second u ev p = go (may_change first e.fields u) refl (may_change second e.fields u && not (saved_by first e.fields u)) refl
  where
    go : (a : Bool) → may_change first e.fields u ≡ a → (b : Bool) → (may_change second e.fields u && not (saved_by first e.fields u)) ≡ b
        → Names e first second u (when a then Named.First else (when b then Named.Second else Named.Nobody))
    go true f b g = first_can (Forced.first_can e first second u ev f)
    go false f true g =
        let h = and_not (may_change second e.fields u) (saved_by first e.fields u) g in
        second_can (Unforced.first_cannot e first second u ev p f) (Forced.second_can e first second u ev f h.0 h.1)
    go false f false g = nobody_can (Unforced.first_cannot e first second u ev p f) (Unforced.nobody_else e first second u ev p f g)

pub first_owner_forces : FirstOwnerForces
first_owner_forces = Forced.first_owner_forces

pub second_only_where_base_stood : SecondOnlyWhereBaseStood
second_only_where_base_stood = Standing.second_only_where_base_stood

pub clerks_exact : ClerksExact
clerks_exact = Frames.clerks_exact

pub units_proper : UnitsProper
units_proper = Frames.units_proper

pub units_bounded : UnitsBounded
units_bounded = Frames.units_bounded

pub first_write_few : FirstWriteFew
first_write_few = Counting.first_write_few

pub refused_in_order : RefusedInOrder
refused_in_order = Refusals.refused_in_order
