use Rattle.std.proofs.Common.{refl, List, ℕ}
use Rattle.regions.specs.Inside.{RecordsIn, CursorIn, PassIn, FlightsIn, NextIn, LearnedIn, LearnedAllIn, NowIn, AliasesIn}
use Rattle.regions.proofs.Tells.{Tells, told, and_then, and_else}
use Rattle.regions.proofs.others.others_in.Goals as goal
use Rattle.regions.proofs.others.others_in.Goals.{then-records_in, else-records_in, then-cursor_in, else-cursor_in, then-pass_in, else-pass_in, then-flights_in, else-flights_in, then-next_request_in, else-next_request_in, then-learned_in, else-learned_in, then-learned_all_in, else-learned_all_in}

-- the first regions, so many of them
abbrev First2 : List ℕ → Type 0
First2 b = RecordsIn b × CursorIn b

abbrev First3 : List ℕ → Type 0
First3 b = First2 b × PassIn b

abbrev First4 : List ℕ → Type 0
First4 b = First3 b × FlightsIn b

abbrev First5 : List ℕ → Type 0
First5 b = First4 b × NextIn b

abbrev First6 : List ℕ → Type 0
First6 b = First5 b × LearnedIn b

abbrev First7 : List ℕ → Type 0
First7 b = First6 b × LearnedAllIn b

abbrev First8 : List ℕ → Type 0
First8 b = First7 b × NowIn b

abbrev First9 : List ℕ → Type 0
First9 b = First8 b × AliasesIn b

pub returns-then-now_in : goal.returns-then-now_in
returns-then-now_in c =
    let t2 : Tells c.if-records_in.value (First2 c.args.state.now) =
    elim c.if-records_in.branch [ then-records_in w ↦ and_then (told c.records_in.ensures) w.if-records_in.true (told w.cursor_in.ensures) w.value-is | else-records_in w ↦ and_else (told c.records_in.ensures) w.if-records_in.false w.value-is ] in
    let t3 : Tells c.if-cursor_in.value (First3 c.args.state.now) =
    elim c.if-cursor_in.branch [ then-cursor_in w ↦ and_then t2 w.if-cursor_in.true (told w.pass_in.ensures) w.value-is | else-cursor_in w ↦ and_else t2 w.if-cursor_in.false w.value-is ] in
    let t4 : Tells c.if-pass_in.value (First4 c.args.state.now) =
    elim c.if-pass_in.branch [ then-pass_in w ↦ and_then t3 w.if-pass_in.true (told w.flights_in.ensures) w.value-is | else-pass_in w ↦ and_else t3 w.if-pass_in.false w.value-is ] in
    let t5 : Tells c.if-flights_in.value (First5 c.args.state.now) =
    elim c.if-flights_in.branch [ then-flights_in w ↦ and_then t4 w.if-flights_in.true (told w.next_request_in.ensures) w.value-is | else-flights_in w ↦ and_else t4 w.if-flights_in.false w.value-is ] in
    let t6 : Tells c.if-next_request_in.value (First6 c.args.state.now) =
    elim c.if-next_request_in.branch [ then-next_request_in w ↦ and_then t5 w.if-next_request_in.true (told w.learned_in.ensures) w.value-is | else-next_request_in w ↦ and_else t5 w.if-next_request_in.false w.value-is ] in
    let t7 : Tells c.if-learned_in.value (First7 c.args.state.now) =
    elim c.if-learned_in.branch [ then-learned_in w ↦ and_then t6 w.if-learned_in.true (told w.learned_all_in.ensures) w.value-is | else-learned_in w ↦ and_else t6 w.if-learned_in.false w.value-is ] in
    let t8 : Tells c.if-learned_all_in.value (First8 c.args.state.now) =
    elim c.if-learned_all_in.branch [ then-learned_all_in w ↦ and_then t7 w.if-learned_all_in.true (told w.now_in.ensures) w.value-is | else-learned_all_in w ↦ and_else t7 w.if-learned_all_in.false w.value-is ] in
    let all : Tells _ (First9 c.args.state.now) = and_then t8 c.if-now_in.true (told c.aliases_in.ensures) refl in
    (λ y. let p = all.yes y in record { records = p.0.0.0.0.0.0.0.0; cursor = p.0.0.0.0.0.0.0.1; pass = p.0.0.0.0.0.0.1; in_flight = p.0.0.0.0.0.1; next_request = p.0.0.0.0.1; learned = p.0.0.0.1; learned_all = p.0.0.1; now = p.0.1; aliases = p.1 }, λ O. all.no ((((((((O.records, O.cursor), O.pass), O.in_flight), O.next_request), O.learned), O.learned_all), O.now), O.aliases))

pub returns-else-now_in : goal.returns-else-now_in
returns-else-now_in c =
    let t2 : Tells c.if-records_in.value (First2 c.args.state.now) =
    elim c.if-records_in.branch [ then-records_in w ↦ and_then (told c.records_in.ensures) w.if-records_in.true (told w.cursor_in.ensures) w.value-is | else-records_in w ↦ and_else (told c.records_in.ensures) w.if-records_in.false w.value-is ] in
    let t3 : Tells c.if-cursor_in.value (First3 c.args.state.now) =
    elim c.if-cursor_in.branch [ then-cursor_in w ↦ and_then t2 w.if-cursor_in.true (told w.pass_in.ensures) w.value-is | else-cursor_in w ↦ and_else t2 w.if-cursor_in.false w.value-is ] in
    let t4 : Tells c.if-pass_in.value (First4 c.args.state.now) =
    elim c.if-pass_in.branch [ then-pass_in w ↦ and_then t3 w.if-pass_in.true (told w.flights_in.ensures) w.value-is | else-pass_in w ↦ and_else t3 w.if-pass_in.false w.value-is ] in
    let t5 : Tells c.if-flights_in.value (First5 c.args.state.now) =
    elim c.if-flights_in.branch [ then-flights_in w ↦ and_then t4 w.if-flights_in.true (told w.next_request_in.ensures) w.value-is | else-flights_in w ↦ and_else t4 w.if-flights_in.false w.value-is ] in
    let t6 : Tells c.if-next_request_in.value (First6 c.args.state.now) =
    elim c.if-next_request_in.branch [ then-next_request_in w ↦ and_then t5 w.if-next_request_in.true (told w.learned_in.ensures) w.value-is | else-next_request_in w ↦ and_else t5 w.if-next_request_in.false w.value-is ] in
    let t7 : Tells c.if-learned_in.value (First7 c.args.state.now) =
    elim c.if-learned_in.branch [ then-learned_in w ↦ and_then t6 w.if-learned_in.true (told w.learned_all_in.ensures) w.value-is | else-learned_in w ↦ and_else t6 w.if-learned_in.false w.value-is ] in
    let t8 : Tells c.if-learned_all_in.value (First8 c.args.state.now) =
    elim c.if-learned_all_in.branch [ then-learned_all_in w ↦ and_then t7 w.if-learned_all_in.true (told w.now_in.ensures) w.value-is | else-learned_all_in w ↦ and_else t7 w.if-learned_all_in.false w.value-is ] in
    let all : Tells _ (First9 c.args.state.now) = and_else t8 c.if-now_in.false refl in
    (λ y. let p = all.yes y in record { records = p.0.0.0.0.0.0.0.0; cursor = p.0.0.0.0.0.0.0.1; pass = p.0.0.0.0.0.0.1; in_flight = p.0.0.0.0.0.1; next_request = p.0.0.0.0.1; learned = p.0.0.0.1; learned_all = p.0.0.1; now = p.0.1; aliases = p.1 }, λ O. all.no ((((((((O.records, O.cursor), O.pass), O.in_flight), O.next_request), O.learned), O.learned_all), O.now), O.aliases))
