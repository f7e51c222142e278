-- Laws of a use's frame and of the answer's text: each law's premises are what the callees ensure. Assumes nothing.
use Rattle.std.specs.Prelude.{Option, Some, None, Result, Ok, Err}
use Prim.Native.Nat.{ℕ, suc, ◌+◌, ◌^◌, ◌≤◌, ◌<◌}
use native.Mathlib.Omega.{arith}
use mathlib.Core.Path.{◌≡◌, refl, sym, ap, ◌∙◌}
use mathlib.Core.List.{List, [], ◌∷◌, ◌++◌, append-nil}
use mathlib.Core.Logic.{inl, inr}
use lib.ListN.{length, take, drop, get_or, length-append}
use lib.Seq.{take_all}
use Rattle.format.specs.Format.{Lawful, via, enum, ◌⊗◌, ◌∣◌, below, number, big_endian, whole_of}
use Rattle.format.proofs.FormatLaws.{pair_law, via_law, enum_law, case_law, no_case_law, below_law, number_law}
use Rattle.format.proofs.WholeLaws.{whole_enc, whole_dec}
use Rattle.model.specs.Machine.{match◌none:◌some:◌}
use Rattle.model.specs.Formats.{u64}
use Rattle.lines.specs.Lines.{digits, frame_of, Puts}
use Rattle.lines.proofs.Laws.{length_digits, puts_then, puts_taken}
use Rattle.numbers.specs.Big.{from_be, to_be}
use Rattle.numbers.proofs.Laws.{Bytes, from_bound, to_from}
use Rattle.sender_bytes.proofs.StructLaws.{to_digits}
use Rattle.sender_turns.specs.Sender.{Use}
use Rattle.sender_turns.specs.declared.Call.{Call as CallStruct}
use Rattle.sender_bytes.specs.Bytes.{number_bytes, call_bytes, Returned, grant_told, refused}
use Rattle.sender_bytes.specs.Read.{granted_by, Uses}
use Rattle.sender_bytes.specs.declared.Refusal.{Refusal as BytesRefusal}
use Rattle.sender_lines.specs.Answers.{UseCases, use_to, use_from, mill_f, use_f, answered, line, grant_text, reply, after_line}
use Rattle.sender_lines.specs.Promises.{number_of, code_of, grant_of, Takes, text_bytes, Replies}
use Rattle.sender_lines.specs.declared.Refusal.{Refusal}
use Rattle.sender_lines.specs.declared.Refusal.TheVariants.{NoUse, Use as UseOf}

-- ---- a use's frame

use_there : (u : Use) → use_to (use_from u) ≡ u
use_there (Use.Enter mill number) = refl
use_there (Use.Reply mill number) = refl
use_there (Use.Resume mill) = refl

use_back : (c : UseCases) → use_from (use_to c) ≡ c
use_back (inl c) = refl
use_back (inr (inl c)) = refl
use_back (inr (inr (inl mill))) = refl
use_back (inr (inr (inr x))) = absurd x

pub use_f_law : Lawful use_f
unfolding use_f mill_f
use_f_law =
    let call = pair_law (below_law 256) (number_law number_bytes) in
    via_law (enum_law (case_law call (case_law call (case_law (below_law 256) no_case_law)))) use_to use_from use_there (λ c ok. use_back c)

-- bytes that are no use's are no use
no_use : (s : List ℕ) → ((u : Use) → s ≡ use_f.enc u → ⊥) → None ≡ whole_of use_f s
no_use s n = go (whole_of use_f s) refl
  where
    go : (o : Option Use) → whole_of use_f s ≡ o → None ≡ whole_of use_f s
    go None e = sym e
    go (Some u) e = absurd (n u (whole_enc use_f_law s u e).1)

module _ (s : List ℕ) where
  wrong_length : (length s ≡ 1 + call_bytes → ⊥) → (length s ≡ 2 → ⊥) → (u : Use) → s ≡ use_f.enc u → ⊥
  unfolding use_f mill_f via enum ◌∣◌ ◌⊗◌ below number
  wrong_length call mill (Use.Enter m n) e = call (ap length e)
  wrong_length call mill (Use.Reply m n) e = call (ap length e)
  wrong_length call mill (Use.Resume m) e = mill (ap length e)

  pub neither : (length s ≡ 1 + call_bytes → ⊥) → (length s ≡ 2 → ⊥) → None ≡ whole_of use_f s
  neither call mill = no_use s (wrong_length call mill)

  wrong_call : length s ≡ 1 + call_bytes → (get_or s 0 0 ≡ 0 → ⊥) → (get_or s 0 0 ≡ 1 → ⊥) → (u : Use) → s ≡ use_f.enc u → ⊥
  unfolding use_f mill_f via enum ◌∣◌ ◌⊗◌ below number
  wrong_call l enter reply (Use.Enter m n) e = enter (ap (λ (b : List ℕ). get_or b 0 0) e)
  wrong_call l enter reply (Use.Reply m n) e = reply (ap (λ (b : List ℕ). get_or b 0 0) e)
  wrong_call l enter reply (Use.Resume m) e = let k : length s ≡ 2 = ap length e in omega arith

  pub other_call : length s ≡ 1 + call_bytes → (get_or s 0 0 ≡ 0 → ⊥) → (get_or s 0 0 ≡ 1 → ⊥) → None ≡ whole_of use_f s
  other_call l enter reply = no_use s (wrong_call l enter reply)

  wrong_mill : length s ≡ 2 → (get_or s 0 0 ≡ 2 → ⊥) → (u : Use) → s ≡ use_f.enc u → ⊥
  unfolding use_f mill_f via enum ◌∣◌ ◌⊗◌ below number
  wrong_mill l resume (Use.Enter m n) e = let k : length s ≡ 1 + call_bytes = ap length e in omega arith
  wrong_mill l resume (Use.Reply m n) e = let k : length s ≡ 1 + call_bytes = ap length e in omega arith
  wrong_mill l resume (Use.Resume m) e = resume (ap (λ (b : List ℕ). get_or b 0 0) e)

  pub other_mill : length s ≡ 2 → (get_or s 0 0 ≡ 2 → ⊥) → None ≡ whole_of use_f s
  other_mill l resume = no_use s (wrong_mill l resume)

-- ---- the number of eight bytes

number_small : (s : List ℕ) → length s ≡ number_bytes → Bytes s → from_be 0 s < 256 ^ number_bytes
number_small s l b = let h = from_bound 0 s 0 b (omega arith) in rw l at h

number_read : (s : List ℕ) → length s ≡ number_bytes → Bytes s → big_endian number_bytes (from_be 0 s) ≡ s
number_read s l b = sym (to_digits number_bytes (from_be 0 s)) ∙ to_from number_bytes s l b

-- ---- the frames that are uses

call_ok : (case mill : ℕ) (s : List ℕ) → length s ≡ number_bytes → Bytes s → (n : ℕ) → n ≡ from_be 0 (take number_bytes s) → (n < 256 ^ number_bytes) × (case ∷ mill ∷ s ≡ case ∷ mill ∷ big_endian number_bytes n)
call_ok case mill s l b n e =
    let f : n ≡ from_be 0 s = e ∙ ap (from_be 0) (take_all number_bytes s (omega arith)) in
    rw f (number_small s l b, ap (λ (t : List ℕ). case ∷ mill ∷ t) (sym (number_read s l b)))

pub enters : (s : List ℕ) (n : ℕ) → length s ≡ 1 + call_bytes → Bytes s → n ≡ from_be 0 (take number_bytes (drop 2 s)) → get_or s 0 0 ≡ 0 → Some (Use.Enter (get_or s 1 0) n) ≡ whole_of use_f s
unfolding use_f mill_f via enum ◌∣◌ ◌⊗◌ below number
enters [] n l b e f = absurd (omega arith)
enters (x ∷ []) n l b e f = absurd (omega arith)
enters (x ∷ mill ∷ s) n l b e f =
    let c = call_ok x mill s (omega arith) (λ i. b (suc (suc i))) n e in
    sym (whole_dec use_f_law (x ∷ mill ∷ s) (Use.Enter mill n) (b 1, c.0) (c.1 ∙ ap (λ (k : ℕ). k ∷ mill ∷ big_endian number_bytes n) f))

pub replies : (s : List ℕ) (n : ℕ) → length s ≡ 1 + call_bytes → Bytes s → n ≡ from_be 0 (take number_bytes (drop 2 s)) → get_or s 0 0 ≡ 1 → Some (Use.Reply (get_or s 1 0) n) ≡ whole_of use_f s
unfolding use_f mill_f via enum ◌∣◌ ◌⊗◌ below number
replies [] n l b e f = absurd (omega arith)
replies (x ∷ []) n l b e f = absurd (omega arith)
replies (x ∷ mill ∷ s) n l b e f =
    let c = call_ok x mill s (omega arith) (λ i. b (suc (suc i))) n e in
    sym (whole_dec use_f_law (x ∷ mill ∷ s) (Use.Reply mill n) (b 1, c.0) (c.1 ∙ ap (λ (k : ℕ). k ∷ mill ∷ big_endian number_bytes n) f))

pub resumes : (s : List ℕ) → length s ≡ 2 → Bytes s → get_or s 0 0 ≡ 2 → Some (Use.Resume (get_or s 1 0)) ≡ whole_of use_f s
unfolding use_f mill_f via enum ◌∣◌ ◌⊗◌ below number
resumes [] l b e = absurd (omega arith)
resumes (x ∷ []) l b e = absurd (omega arith)
resumes (x ∷ y ∷ z ∷ s) l b e = absurd (omega arith)
resumes (x ∷ y ∷ []) l b e = sym (whole_dec use_f_law (x ∷ y ∷ []) (Use.Resume y) (b 1) (ap (λ (n : ℕ). n ∷ y ∷ []) e))

-- ---- the answer's text

line_long : (s : List ℕ) → length (line s) ≡ length s + length s + 1
line_long s = length-append (digits s) (10 ∷ []) ∙ ap (λ (n : ℕ). n + 1) (length_digits s)

-- an answer's own line takes seven bytes
pub head_place : (x y z : ℕ) {text text' : List ℕ} {at : ℕ} → Puts (line (x ∷ y ∷ z ∷ [])) text text' 0 at → at ≡ 7
head_place x y z P =
    let h = line_long (x ∷ y ∷ z ∷ []) in
    let p = P.place in
    omega arith

pub puts_call : (mill n : ℕ) (s : List ℕ) {text text' : List ℕ} {at r : ℕ} → s ≡ mill ∷ (to_be number_bytes n ++ []) → Puts (line s) text text' at r → Puts (line (mill ∷ u64.enc n)) text text' at r
unfolding number
puts_call mill n s e P =
    let f : s ≡ mill ∷ big_endian number_bytes n = e ∙ ap (λ (t : List ℕ). mill ∷ t) (append-nil (to_be number_bytes n) ∙ to_digits number_bytes n) in
    rw f at P

module _ (text text' : List ℕ) (r : ℕ) (room : text_bytes ≤ length text) (same : length text' ≡ length text) where
  pub tells_grant : (told : Result (Option CallStruct) Refusal) (granted : Option CallStruct) (call : CallStruct) (mid : List ℕ) (at : ℕ) → told ≡ Ok granted → granted ≡ Some call → Puts (line (0 ∷ 0 ∷ 1 ∷ [])) text mid 0 at → Puts (line (call.mill ∷ u64.enc call.number)) mid text' at r
      → (r ≤ length text') × (take r text' ≡ grant_text (code_of told) (grant_told (grant_of told)))
  unfolding grant_text number
  tells_grant told granted call mid at e f P Q =
      let h = line_long (0 ∷ 0 ∷ 1 ∷ []) in
      let k = line_long (call.mill ∷ big_endian number_bytes call.number) in
      let p = P.place in
      let q = Q.place in
      let l = length-append (line (0 ∷ 0 ∷ 1 ∷ [])) (line (call.mill ∷ big_endian number_bytes call.number)) in
      rw (e, f) (omega arith, puts_taken (puts_then P Q (omega arith)) (omega arith))

  tells : (code : ℕ) → Puts (line (code ∷ 0 ∷ 0 ∷ [])) text text' 0 r → (r ≤ length text') × (take r text' ≡ grant_text code (grant_told None))
  unfolding grant_text
  tells code P =
      let h = line_long (code ∷ 0 ∷ 0 ∷ []) in
      let p = P.place in
      (omega arith, puts_taken P (omega arith))

  pub tells_none : (told : Result (Option CallStruct) Refusal) (granted : Option CallStruct) → told ≡ Ok granted → granted ≡ None → Puts (line (0 ∷ 0 ∷ 0 ∷ [])) text text' 0 r
      → (r ≤ length text') × (take r text' ≡ grant_text (code_of told) (grant_told (grant_of told)))
  tells_none told granted e f P = rw (e, f) (tells 0 P)

  pub tells_refusal : (told : Result (Option CallStruct) Refusal) (why : Refusal) (code : ℕ) → told ≡ Err why → code ≡ number_of why → Puts (line (code ∷ 0 ∷ 0 ∷ [])) text text' 0 r
      → (r ≤ length text') × (take r text' ≡ grant_text (code_of told) (grant_told (grant_of told)))
  tells_refusal told why code e f P = rw (e, ← f) (tells code P)

-- ---- a line

module _ (frame sender : List ℕ) where
  pub takes_none : None ≡ whole_of use_f frame → Takes frame sender sender (Err NoUse)
  unfolding answered match◌none:◌some:◌ refused
  takes_none e = record { is = rw (← e) }

  pub takes_done : (u : Use) (sender' : List ℕ) (granted : Option CallStruct) → Some u ≡ whole_of use_f frame → Uses u sender sender' (granted_by (Ok granted)) → Takes frame sender sender' (Ok granted)
  unfolding answered match◌none:◌some:◌ granted_by
  takes_done u sender' granted e U = record { is = rw (← e) U.is }

  pub takes_refused : (u : Use) (sender' : List ℕ) (e : BytesRefusal) (r : Result (Option CallStruct) Refusal) → Some u ≡ whole_of use_f frame → Uses u sender sender' (granted_by (Err e)) → r ≡ Err (UseOf e)
      → Takes frame sender sender' r
  unfolding answered match◌none:◌some:◌ granted_by
  takes_refused u sender' e r f U g = record { is = rw (← f, g) U.is }

pub answers : {line sender sender' frame text' : List ℕ} {n : ℕ} {r : Result (Option CallStruct) Refusal} → frame ≡ frame_of line → Takes frame sender sender' r
    → (n ≤ length text') × (take n text' ≡ grant_text (code_of r) (grant_told (grant_of r))) → Replies line sender sender' text' n
unfolding reply after_line
answers {sender = sender} e T h =
    let g = T.is ∙ ap (answered sender) e in
    record { fits = h.0; says = h.1 ∙ ap (λ (x : Returned). grant_text x.code x.grant) g; goes_on = ap (λ (x : Returned). x.bytes) g }
