-- What is answered to a frame, by what the functions below `judge` found. Assumes nothing.
use Rattle.std.specs.Prelude.{Option, Some, None}
use Prim.Native.Nat.{ℕ}
use mathlib.Core.Path.{◌≡◌, refl, sym, ap, ◌∙◌, subst}
use mathlib.Core.List.{List}
use mathlib.Core.Bool.{Bool, true, false, not, true≢false}
use lib.ListN.{length}
use lib.Dec.{T}
use Rattle.format.specs.Format.{whole_of}
use Rattle.model.specs.Maps.{when◌then◌else◌}
use Rattle.clerks_model.specs.Frame.{clerks_f}
use Rattle.clerks_model.specs.Frame as model
use Rattle.clerks_model.specs.Writes.{accepted}
use Rattle.clerks_model.specs.Answer.{Answer, line, party_one, party_two, all_apart, both_accepted, judged, answered, two_clerks}
use Rattle.clerks_bytes.specs.Frames.{Holds, Read, Reads}
use Rattle.clerks_bytes.specs.Writes.{line_bytes, work_bytes, AnyExceeds, WritesLine}
use Rattle.clerks_bytes.specs.Returned.{Filled, Fills}
use Rattle.clerks_bytes.specs.declared.Told.{Told}
use Rattle.clerks_bytes.proofs.EntryLaws.{so, not_so}
use Rattle.clerks_bytes.proofs.WriteLaws.{both, lent_one, lent_two}
use Rattle.clerks_bytes.specs.declared.frames.Clerks.{Clerks}

-- ---- the frame

abbrev no : ℕ → Told
no n = record { code = n; one = 0; two = 0 }

pub fills_no_frame : (frame : List ℕ) (c : Clerks) (one two : List ℕ) (r : Told) → Reads frame c → c.ok ≡ false → r ≡ no 3 → Fills frame one two one two r
unfolding two_clerks answered
fills_no_frame frame c one two r R e t = go (whole_of clerks_f frame) R
  where
    go : (x : Option model.Clerks) → Read frame c x → Filled (answered x) one two one two r
    go None R = (t, refl, refl)
    go (Some v) R = absurd (true≢false (sym R.0 ∙ e))

-- what a frame that is read holds
record Held (frame : List ℕ) (c : Clerks) : Type 0 where
  v : model.Clerks
  is : whole_of clerks_f frame ≡ Some v
  holds : Holds frame c v

held : (frame : List ℕ) (c : Clerks) → Reads frame c → c.ok ≡ true → Held frame c
held frame c R e = go (whole_of clerks_f frame) refl R
  where
    go : (x : Option model.Clerks) → whole_of clerks_f frame ≡ x → Read frame c x → Held frame c
    go None h R = absurd (true≢false (sym e ∙ R))
    go (Some v) h R = record { v = v; is = h; holds = R.1 }

-- ---- a frame that holds two clerks

module _ (frame : List ℕ) (c : Clerks) (R : Reads frame c) (ok : c.ok ≡ true) (d : Bool) (twice : (v : model.Clerks) → Holds frame c v → d ≡ not (all_apart v)) where
  h : Held frame c
  h = held frame c R ok

  answer : two_clerks frame ≡ judged h.v
  unfolding two_clerks answered
  answer = ap answered h.is

  pub fills_twice : (one two : List ℕ) (r : Told) → d ≡ true → r ≡ no 10 → Fills frame one two one two r
  unfolding judged when◌then◌else◌
  fills_twice one two r e t =
      let j : judged h.v ≡ Answer.Refused 10 = rw (not_so (all_apart h.v) (twice h.v h.holds) e) in
      subst (λ (x : Answer). Filled x one two one two r) (sym (answer ∙ j)) (t, refl, refl)

  module _ (e : d ≡ false) (work work' : List ℕ) (long : length work ≡ work_bytes) (m : Bool) (A : AnyExceeds frame c work work' m) where
    all : all_apart h.v ≡ true
    all = so (all_apart h.v) (twice h.v h.holds) e

    all_so : T (all_apart h.v)
    all_so = rw all tt

    many : m ≡ not (both_accepted h.v)
    many = A.is h.v h.holds all_so long

    pub fills_too_many : (one two : List ℕ) (r : Told) → m ≡ true → r ≡ no 6 → Fills frame one two one two r
    unfolding judged when◌then◌else◌
    fills_too_many one two r f t =
        let j : judged h.v ≡ Answer.Refused 6 = rw (all, not_so (both_accepted h.v) many f) in
        subst (λ (x : Answer). Filled x one two one two r) (sym (answer ∙ j)) (t, refl, refl)

    module _ (f : m ≡ false) where
      orders : T (accepted h.v.event h.v.one h.v.two) × T (accepted h.v.event h.v.two h.v.one)
      unfolding both_accepted
      orders =
          let b : both_accepted h.v ≡ true = so (both_accepted h.v) many f in
          both (accepted h.v.event h.v.one h.v.two) (accepted h.v.event h.v.two h.v.one) (subst (λ (x : Bool). T x) (sym b) tt)

      pub fills_lines : (one two one' two' work₁ work₂ : List ℕ) (a b : ℕ) → length one ≡ line_bytes → length two ≡ line_bytes
          → WritesLine frame c c.one c.two one one' work' work₁ a → WritesLine frame c c.two c.one two two' work₁ work₂ b
          → Fills frame one two one' two' (record { code = 0; one = a; two = b })
      unfolding judged when◌then◌else◌
      fills_lines one two one' two' work₁ work₂ a b l k X Y =
          let j : judged h.v ≡ Answer.Lines (line h.v (party_one h.v) (party_two h.v)) (line h.v (party_two h.v) (party_one h.v)) =
          rw (all, so (both_accepted h.v) many f) in
          subst (λ (x : Answer). Filled x one two one' two' (record { code = 0; one = a; two = b })) (sym (answer ∙ j)) (
            refl,
            X.is h.v (party_one h.v) (party_two h.v) h.holds all_so (lent_one h.holds all_so work' (A.long ∙ long)) h.holds.two orders.0 l,
            Y.is h.v (party_two h.v) (party_one h.v) h.holds all_so (lent_two h.holds all_so work₁ (X.long ∙ A.long ∙ long)) h.holds.one orders.1 k,
          )
