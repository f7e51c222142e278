use Rattle.std.proofs.Common.{refl, List, ℕ}
use Rattle.regions.specs.Inside.{FullIn, FromIn, StagedIn, SeenIn, ObservedIn, DoneIn}
use Rattle.regions.proofs.Tells.{Tells, told, and_then, and_else}
use Rattle.regions.proofs.pass.open_in.Goals as goal
use Rattle.regions.proofs.pass.open_in.Goals.{then-full_in, else-full_in, then-from_in, else-from_in, then-staged_in, else-staged_in, then-seen_in, else-seen_in}

-- the first regions, so many of them
abbrev First2 : List ℕ → Type 0
First2 b = FullIn b × FromIn b

abbrev First3 : List ℕ → Type 0
First3 b = First2 b × StagedIn b

abbrev First4 : List ℕ → Type 0
First4 b = First3 b × SeenIn b

abbrev First5 : List ℕ → Type 0
First5 b = First4 b × ObservedIn b

abbrev First6 : List ℕ → Type 0
First6 b = First5 b × DoneIn b

pub returns-then-observed_in : goal.returns-then-observed_in
returns-then-observed_in c =
    let t2 : Tells c.if-full_in.value (First2 c.args.state.now) =
    elim c.if-full_in.branch [ then-full_in w ↦ and_then (told c.full_in.ensures) w.if-full_in.true (told w.from_in.ensures) w.value-is | else-full_in w ↦ and_else (told c.full_in.ensures) w.if-full_in.false w.value-is ] in
    let t3 : Tells c.if-from_in.value (First3 c.args.state.now) =
    elim c.if-from_in.branch [ then-from_in w ↦ and_then t2 w.if-from_in.true (told w.staged_in.ensures) w.value-is | else-from_in w ↦ and_else t2 w.if-from_in.false w.value-is ] in
    let t4 : Tells c.if-staged_in.value (First4 c.args.state.now) =
    elim c.if-staged_in.branch [ then-staged_in w ↦ and_then t3 w.if-staged_in.true (told w.seen_in.ensures) w.value-is | else-staged_in w ↦ and_else t3 w.if-staged_in.false w.value-is ] in
    let t5 : Tells c.if-seen_in.value (First5 c.args.state.now) =
    elim c.if-seen_in.branch [ then-seen_in w ↦ and_then t4 w.if-seen_in.true (told w.observed_in.ensures) w.value-is | else-seen_in w ↦ and_else t4 w.if-seen_in.false w.value-is ] in
    let all : Tells _ (First6 c.args.state.now) = and_then t5 c.if-observed_in.true (told c.done_in.ensures) refl in
    (λ y. let p = all.yes y in record { full = p.0.0.0.0.0; from = p.0.0.0.0.1; staged = p.0.0.0.1; seen = p.0.0.1; observed = p.0.1; done = p.1 }, λ O. all.no (((((O.full, O.from), O.staged), O.seen), O.observed), O.done))

pub returns-else-observed_in : goal.returns-else-observed_in
returns-else-observed_in c =
    let t2 : Tells c.if-full_in.value (First2 c.args.state.now) =
    elim c.if-full_in.branch [ then-full_in w ↦ and_then (told c.full_in.ensures) w.if-full_in.true (told w.from_in.ensures) w.value-is | else-full_in w ↦ and_else (told c.full_in.ensures) w.if-full_in.false w.value-is ] in
    let t3 : Tells c.if-from_in.value (First3 c.args.state.now) =
    elim c.if-from_in.branch [ then-from_in w ↦ and_then t2 w.if-from_in.true (told w.staged_in.ensures) w.value-is | else-from_in w ↦ and_else t2 w.if-from_in.false w.value-is ] in
    let t4 : Tells c.if-staged_in.value (First4 c.args.state.now) =
    elim c.if-staged_in.branch [ then-staged_in w ↦ and_then t3 w.if-staged_in.true (told w.seen_in.ensures) w.value-is | else-staged_in w ↦ and_else t3 w.if-staged_in.false w.value-is ] in
    let t5 : Tells c.if-seen_in.value (First5 c.args.state.now) =
    elim c.if-seen_in.branch [ then-seen_in w ↦ and_then t4 w.if-seen_in.true (told w.observed_in.ensures) w.value-is | else-seen_in w ↦ and_else t4 w.if-seen_in.false w.value-is ] in
    let all : Tells _ (First6 c.args.state.now) = and_else t5 c.if-observed_in.false refl in
    (λ y. let p = all.yes y in record { full = p.0.0.0.0.0; from = p.0.0.0.0.1; staged = p.0.0.0.1; seen = p.0.0.1; observed = p.0.1; done = p.1 }, λ O. all.no (((((O.full, O.from), O.staged), O.seen), O.observed), O.done))
