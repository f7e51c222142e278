-- What the returns of enter, reply and resume cite: each is the definitions' answer to its use. Assumes nothing.
use Rattle.std.specs.Prelude.{Option, Some, None, Result, Ok, Err, position}
use Prim.Native.Nat.{ℕ, ◌+◌, ◌-◌, ◌≤◌, ◌<◌}
use native.Mathlib.Omega.{arith}
use mathlib.Core.Path.{◌≡◌, refl, ap}
use mathlib.Core.Bool.{true}
use mathlib.Core.List.{List, [], ◌∷◌, ◌++◌}
use lib.ListN.{length, set, take, drop}
use lib.Dec.{leb}
use borrow.Author.Tests.{le-leb, lt-leb}
use Rattle.model.specs.Maps.{when◌then◌else◌}
use Rattle.sender_turns.specs.Sender.{Use, Answer, Sender, mills, calls, lane_size, lane, with_lane, with_out, freed, grant_all, mill_of, take_use, used, sender_after}
use Rattle.sender_turns.specs.Laid.{lane_of, no_call, laid_out, told_as, Says, Answers}
use Rattle.sender_turns.specs.Steps.{Granting, Grants, count_at}
use Rattle.sender_turns.specs.declared.Lane.{Lane}
use Rattle.sender_turns.specs.declared.Call.{Call as CallStruct}
use Rattle.sender_turns.specs.declared.Sender.{Sender as SenderStruct}
use Rattle.sender_turns.specs.declared.Refusal.{Refusal}
use Rattle.sender_turns.specs.declared.Refusal.TheVariants.{NoSuchMill, LaneFull}
use Rattle.sender_turns.proofs.LaidLaws.{less_at, lane_in, lane_is, out_of, count_is, laid_lane, laid_less}
use Rattle.sender_turns.proofs.StepLaws.{is_call, idle_is, freed_found, freed_nothing}
use Rattle.sender_turns.proofs.Settled.{ready_of, ready_enter, ready_reply, idle, idle_resume, one_enter, one_reply}

pub no_mill : (u : Use) (self : SenderStruct) (r : Result (Option CallStruct) Refusal) → mills ≤ mill_of u → r ≡ Err NoSuchMill → Answers u self self r
unfolding used when◌then◌else◌ told_as sender_after
no_mill u self r h f = record { is = λ s w e. rw (le-leb mills (mill_of u) h, f) (record { told = refl; leaves = e }) }

-- what is granted after a change is the answer
done : (s t : Sender) {left : SenderStruct} {r : Option CallStruct} → Granting t left r → Says s (Answer.Done (grant_all t)) left (Ok r)
unfolding told_as sender_after
done s t g = record { told = ap Ok g.told; leaves = g.leaves }

-- ---- enter

module _ (at mill number : ℕ) (self : SenderStruct) (same : at ≡ mill) (h : mill < mills) where
  pub lane_full : lane_size ≤ count_at at self → Answers (Use.Enter mill number) self self (Err LaneFull)
  unfolding used mill_of take_use when◌then◌else◌ told_as sender_after
  lane_full k = record {
    is = λ s w e.
        let full : leb lane_size (length (lane mill s.lanes)) ≡ true = le-leb lane_size (length (lane mill s.lanes)) (omega (arith, count_is s mill e, rw same at k)) in
        rw (lt-leb mills mill h, full) (record { told = refl; leaves = e });
  }

  pub enters : (more : Lane) (left : SenderStruct) (r : Option CallStruct) → count_at at self < lane_size → ((l : List ℕ) → lane_in at self ≡ lane_of l → more ≡ lane_of (l ++ number ∷ []))
      → Grants (record { lanes = set self.lanes at more; calls = self.calls; out = self.out; turn = self.turn }) left r → Answers (Use.Enter mill number) self left (Ok r)
  unfolding used mill_of take_use when◌then◌else◌
  enters more left r k m g = record {
    is = λ s w e.
        let l : List ℕ = lane mill s.lanes in
        let short : length l < lane_size = omega (arith, count_is s mill e, rw same at k) in
        let here : more ≡ lane_of (l ++ number ∷ []) = m l (rw same (lane_is s mill e (ready_of s w) h)) in
        rw (lt-leb mills mill h, lt-leb lane_size (length l) short)
        (done s (with_lane mill (l ++ number ∷ []) s)
        (g.is (with_lane mill (l ++ number ∷ []) s) (ready_enter s mill number w short) (one_enter s mill number w) (rw same (laid_lane s mill (l ++ number ∷ []) e here))));
  }

-- ---- reply

module _ (mill number : ℕ) (self : SenderStruct) (h : mill < mills) where
  pub replies_none : None ≡ position (is_call (record { mill = mill; number = number })) (take self.out self.calls) → Answers (Use.Reply mill number) self self (Ok None)
  unfolding used mill_of take_use when◌then◌else◌ with_out
  replies_none f = record {
    is = λ s w e.
        rw (lt-leb mills mill h, freed_nothing self (record { mill = mill; number = number }) s e f) (done s s (idle_is s e (idle s w)));
  }

  pub replies : (at : ℕ) (fewer : List CallStruct) (left : SenderStruct) (r : Option CallStruct) → Some at ≡ position (is_call (record { mill = mill; number = number })) (take self.out self.calls)
      → fewer ≡ less_at at self.calls no_call → Grants (record { lanes = self.lanes; calls = fewer; out = self.out - 1; turn = self.turn }) left r → Answers (Use.Reply mill number) self left (Ok r)
  unfolding used mill_of take_use when◌then◌else◌
  replies at fewer left r f l g = record {
    is = λ s w e.
        let k = freed_found self (record { mill = mill; number = number }) s e at f in
        rw (lt-leb mills mill h)
        (done s (with_out (freed (mill, number) s.out) s)
        (g.is (with_out (freed (mill, number) s.out) s) (ready_reply s (mill, number) w) (one_reply s (mill, number) w) (rw k.1 (laid_less s at e (ready_of s w) k.0 l))));
  }

-- ---- resume

pub resumes_at : (at mill : ℕ) (self : SenderStruct) (emptied : Lane) → at ≡ mill → mill < mills → emptied ≡ lane_of []
    → Answers (Use.Resume mill) self (record { lanes = set self.lanes at emptied; calls = self.calls; out = self.out; turn = self.turn }) (Ok None)
unfolding used mill_of take_use when◌then◌else◌
resumes_at at mill self emptied same h l = record {
  is = λ s w e.
      rw (same, lt-leb mills mill h) (done s (with_lane mill [] s) (idle_is (with_lane mill [] s) (laid_lane s mill [] e l) (idle_resume s mill w)));
}
