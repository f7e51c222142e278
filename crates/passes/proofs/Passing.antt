-- Passes opened, gone on with and given up: each law's premises are what the callees ensure. Assumes nothing.
use Rattle.std.specs.Prelude.{Some, None}
use Prim.Native.Nat.{ℕ, ◌+◌, ◌≤◌}
use native.Mathlib.Omega.{arith}
use mathlib.Core.Path.{◌≡◌, refl, sym, ap, ◌∙◌, subst}
use mathlib.Core.List.{List}
use mathlib.Core.Bool.{Bool, true, false, not}
use lib.ListN.{length}
use lib.Dec.{leb, eqb}
use Rattle.format.specs.Format.{via, enum, ◌∣◌}
use Rattle.format.specs.Format.{text as textFormat}
use Rattle.model.specs.Event.{Text}
use Rattle.model.specs.Seam.{ListFrom, Request, Next, Outcome}
use Rattle.model.specs.State as model
use Rattle.model.specs.State.{SyncState}
use Rattle.model.specs.Calls.{Effect, Notice}
use Rattle.model.specs.Limits.{max_text}
use Rattle.model.specs.Maps.{when◌then◌else◌, by_number, insert, filter, retain}
use Rattle.model.specs.Formats.{short_text, next_f}
use Rattle.model.specs.Machine.{Machine, Run, refused, ok, ◌>>=◌, within, with_state, push, tell, request, set_pass, set_cursor, set_in_flight, set_next_request, set_learned_all, with_from, with_done}
use Rattle.model.specs.Sync.{describe, is_pass_read, is_of_pass, drop_in_flight, new_pass, start_pass, restart_pass, abandon_pass, pass_full, after_page}
use Rattle.frame.specs.Meaning.{text_in}
use Rattle.frame.specs.declared.TextPart.{TextPart}
use Rattle.values.specs.Parts.{meant_next}
use Rattle.values.specs.declared.Next as places
use Rattle.values.specs.declared.Next.TheVariants as next
use Rattle.effects.specs.Told.{Told}
use Rattle.pens.specs.declared.Pen.{Pen}
use Rattle.state.specs.Layout.{pass_of}
use Rattle.state.specs.Setters.{with_pass, with_cursor, with_in_flight, with_learned_all, pass_changed}
use Rattle.state.specs.Contract.{Keeps, HasState, Reads, Edits}
use Rattle.staged.proofs.Bridge.{pass_full_is}
use Rattle.machine.specs.declared.Progress.{Progress}
use Rattle.machine.specs.Contract.{Does, Changes, Pushes}
use Rattle.machine.specs.Steps.{pen_of, sent_by, reserve}
use Rattle.machine.proofs.Runs as runs
use Rattle.machine.proofs.Steps as steps
use Rattle.passes.specs.Reading.{request_from}
use Rattle.passes.proofs.Changing as changing
use Rattle.observe.proofs.Observing as observing

-- ---- a request for a page

pub short_enough : (t : Text) → short_text.Ok t → length t ≤ 255
unfolding textFormat max_text
short_enough t k = let h = k.0 in omega arith

abbrev push_from : ℕ → Machine → Run
push_from id m = push (Effect.Request id (Request.List (pass_of m.state.pass).from)) m

reserve_keeps : (id : ℕ) (m : Machine) → (reserve model.Purpose.List m >>= push_from id) ≡ (reserve model.Purpose.List m >>= push (Effect.Request id (Request.List (pass_of m.state.pass).from)))
unfolding reserve within when◌then◌else◌ ◌>>=◌ set_in_flight set_next_request
reserve_keeps id m = go (eqb m.state.next_request 18446744073709551615) (leb (length (insert by_number m.state.next_request model.Purpose.List m.state.in_flight)) m.limits.in_flight)
  where
    M : Machine
    M = set_in_flight (insert by_number m.state.next_request model.Purpose.List m.state.in_flight) (set_next_request (m.state.next_request + 1) m)

    go : (a b : Bool) → ((when a then refused 4 else (when b then ok M else refused 5)) >>= push_from id) ≡ ((when a then refused 4 else (when b then ok M else refused 5)) >>= push (Effect.Request id (Request.List (pass_of m.state.pass).from)))
    go true b = refl
    go false true = refl
    go false false = refl

pub asked_from : {w o w₁ o₁ : List ℕ} {p q r : Progress} {x y : Pen} (id : ℕ) → HasState w → Reads (λ s. s.next_request) w id → Changes (reserve model.Purpose.List) w p q w₁ → x ≡ pen_of q
    → ((s : SyncState) → Keeps s w₁ → Told (Effect.Request id (Request.List (pass_of s.pass).from)) o o₁ x y) → r ≡ sent_by q y → Does request_from w o p r w₁ o₁
unfolding request_from
asked_from {w} {o} {w₁} {o₁} {p} {q} {r} {x} {y} id K R C a T b =
    let K₁ : HasState w₁ = observing.still C K in
    let P : Does (push_from id) w₁ o q r w₁ o₁ = record {
      run = λ z m h. ((steps.told a (T m.state h.keeps) b).does w₁).run z m h;
      stays = ((steps.told a (T K₁.state K₁.keeps) b).does w₁).stays;
      state = λ h. h;
    } in
    runs.is_held request_from (λ m h.
    ap (λ (k : ℕ). reserve model.Purpose.List m >>= push_from k) (R.is m.state h.keeps)
    ∙ reserve_keeps m.state.next_request m ∙ steps.request_is model.Purpose.List (Request.List (pass_of m.state.pass).from) m)
    (runs.next (C.does o) P)

-- ---- opened, opened again, given up

pub started : {w o w₁ w₂ o₂ : List ℕ} {p q : Progress} → Edits (λ s. with_pass (Some (new_pass s.cursor)) s) w w₁ → Does request_from w₁ o p q w₂ o₂ → Does start_pass w o p q w₂ o₂
unfolding start_pass request_from set_pass pass_of new_pass
started E D = runs.is start_pass (λ m. refl) (runs.edit E D)

pub restarted : {w o w₁ w₂ w₃ o₃ : List ℕ} {p q : Progress} → Edits (λ s. with_in_flight (filter (λ e. not (is_pass_read e.1)) s.in_flight) s) w w₁ → Edits (with_cursor None) w₁ w₂
    → Does start_pass w₂ o p q w₃ o₃ → Does restart_pass w o p q w₃ o₃
unfolding restart_pass drop_in_flight retain set_in_flight set_cursor
restarted E F D = runs.is restart_pass (λ m. refl) (runs.edit E (runs.edit F D))

pub abandoned : {w o w₁ w₂ o₂ : List ℕ} {p q : Progress} (outcome : Outcome) → Edits (with_pass None) w w₁ → Edits (λ s. with_in_flight (filter (λ e. not (is_of_pass e.1)) s.in_flight) s) w₁ w₂
    → Pushes (Effect.Notify (Notice.ListingFailed (describe outcome))) o p q o₂ → Does (abandon_pass outcome) w o p q w₂ o₂
unfolding abandon_pass drop_in_flight retain set_in_flight set_pass tell
abandoned {w₂ = w₂} outcome E F P = runs.is (abandon_pass outcome) (λ m. refl) (runs.edit E (runs.edit F (P.does w₂)))

-- ---- what follows a page

pub more_of : {w o w₁ w₂ o₂ : List ℕ} {p q : Progress} (c : Text) → Edits (pass_changed (with_from (ListFrom.Continue c))) w w₁ → Does (request model.Purpose.List (Request.List (ListFrom.Continue c))) w₁ o p q w₂ o₂
    → Does (after_page (Next.More c)) w o p q w₂ o₂
unfolding after_page
more_of c E D = runs.is (after_page (Next.More c)) (λ m. ap (request model.Purpose.List (Request.List (ListFrom.Continue c))) (changing.change_pass_is (with_from (ListFrom.Continue c)) m)) (runs.edit E D)

abbrev all_learned : Machine → Run
all_learned m = ok (when pass_full m then set_learned_all m.state.next_request m else m)

module _ {w w₁ : List ℕ} {p : Progress} {v : Bool} (c : Text) (E : Edits (pass_changed (with_done (Some c))) w w₁) (F : Reads (λ s. (pass_of s.pass).full) w₁ v) where
  done_by : {w₂ : List ℕ} → Changes (λ m. when (pass_of m.state.pass).full then ok (with_state (with_learned_all m.state.next_request m.state) m) else ok m) w₁ p p w₂ → Changes (after_page (Next.Done c)) w p p w₂
  unfolding after_page set_learned_all when◌then◌else◌
  done_by {w₂} C =
      changing.same_run (after_page (Next.Done c)) (λ m. ap all_learned (changing.change_pass_is (with_done (Some c)) m))
      (changing.after_edit E (changing.same_run all_learned (λ m. go m (pass_full_is m)) C))
    where
      pick : (b : Bool) (m n : Machine) → (when b then ok m else ok n) ≡ ok (when b then m else n)
      pick true m n = refl
      pick false m n = refl

      go : (m : Machine) → (pass_of m.state.pass).full ≡ pass_full m → (when (pass_of m.state.pass).full then ok (with_state (with_learned_all m.state.next_request m.state) m) else ok m) ≡ all_learned m
      go m e = ap (λ (b : Bool). when b then ok (with_state (with_learned_all m.state.next_request m.state) m) else ok m) e ∙ pick (pass_full m) (with_state (with_learned_all m.state.next_request m.state) m) m

  pub done_full : {w₂ : List ℕ} (n : ℕ) → v ≡ true → Reads (λ s. s.next_request) w₁ n → Edits (with_learned_all n) w₁ w₂ → Changes (after_page (Next.Done c)) w p p w₂
  done_full {w₂} n e N L = done_by (changing.if_true ok F e (changing.edits (record { makes = λ s h. subst (λ (k : ℕ). Keeps (with_learned_all k s) w₂) (N.is s h) (L.makes s h) })))

  pub done_part : v ≡ false → Changes (after_page (Next.Done c)) w p p w₁
  done_part e = done_by (changing.if_false (λ m. ok (with_state (with_learned_all m.state.next_request m.state) m)) F e changing.no_change)

module _ {w o w' o' : List ℕ} {p q : Progress} (s : List ℕ) (n : places.Next) (cursor : TextPart) (t : Text) (e : t ≡ text_in s cursor) where
  pub after_more : n ≡ next.More cursor → Does (after_page (Next.More t)) w o p q w' o' → Does (after_page (meant_next s n)) w o p q w' o'
  after_more f D = subst (λ (x : Next). Does (after_page x) w o p q w' o') (ap Next.More e ∙ sym (ap (meant_next s) f)) D

  pub after_done : n ≡ next.Done cursor → Does (after_page (Next.Done t)) w o p q w' o' → Does (after_page (meant_next s n)) w o p q w' o'
  after_done f D = subst (λ (x : Next). Does (after_page x) w o p q w' o') (ap Next.Done e ∙ sym (ap (meant_next s) f)) D

module _ (s : List ℕ) (n : places.Next) (cursor : TextPart) (t : Text) (e : t ≡ text_in s cursor) where
  pub more_ok : n ≡ next.More cursor → next_f.Ok (meant_next s n) → short_text.Ok t
  unfolding next_f via enum ◌∣◌
  more_ok f k = subst (λ (x : Text). short_text.Ok x) (sym e) (subst (λ (x : places.Next). next_f.Ok (meant_next s x)) f k)

  pub done_ok : n ≡ next.Done cursor → next_f.Ok (meant_next s n) → short_text.Ok t
  unfolding next_f via enum ◌∣◌
  done_ok f k = subst (λ (x : Text). short_text.Ok x) (sym e) (subst (λ (x : places.Next). next_f.Ok (meant_next s x)) f k)
