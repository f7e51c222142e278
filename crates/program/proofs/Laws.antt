-- Laws of the program's text. Assumes nothing.
use Prim.Native.Nat.{ℕ, zero, suc, ◌+◌, ◌*◌, ◌-◌, ◌/◌, ◌%◌, ◌^◌, ◌≤◌, ◌<◌}
use native.Mathlib.Omega.{arith}
use mathlib.Core.Path.{◌≡◌, refl, sym, ap, ap₂, ◌∙◌, subst}
use mathlib.Core.Bool.{true}
use mathlib.Core.List.{List, [], ◌∷◌, ◌++◌, append_assoc, append-nil}
use lib.ListN.{length, take, drop, length-append, length-drop}
use lib.Seq.{take_at, drop_at, take_all, length-take-le, take-append-add, drop-append_seam, take-append_seam}
use Rattle.format.specs.Format.{All, via, enum, big_endian}
use Rattle.frame.specs.Read.{skips}
use Rattle.frame.specs.declared.Cursor.{Cursor}
use Rattle.frame.proofs.Spans.{skips_written}
use Rattle.lines.specs.Lines.{digits, Puts}
use Rattle.lines.proofs.Laws.{length_digits, puts_none, puts_then, puts_taken}
use Rattle.effects.proofs.Pushed.{enc_more}
use Rattle.model.specs.Calls.{Effect}
use Rattle.model.specs.Formats.{Bytes, effect_f, enc_effects}
use Rattle.model.proofs.Bytes.{enc_append}
use Rattle.model.proofs.FormatsLaws.{effect_f_law}
use Rattle.program.specs.Program.{line, answer_bytes, effect_lines}
use Rattle.program.specs.Answers.{Effects, Lists, Answers}

-- ---- lists of effects

lines_append : (xs ys : List Effect) → effect_lines (xs ++ ys) ≡ effect_lines xs ++ effect_lines ys
unfolding effect_lines
lines_append [] ys = refl
lines_append (x ∷ xs) ys = ap (λ (t : Bytes). line (effect_f.enc x) ++ t) (lines_append xs ys) ∙ sym (append_assoc (line (effect_f.enc x)) (effect_lines xs) (effect_lines ys))

enc_one : (e : Effect) (es : List Effect) → enc_effects (e ∷ es) ≡ effect_f.enc e ++ enc_effects es
unfolding enc_effects
enc_one e es = refl

all_right : (xs ys : List Effect) → All effect_f.Ok (xs ++ ys) → All effect_f.Ok ys
all_right [] ys h = h
all_right (x ∷ xs) ys h = all_right xs ys h.1

-- an effect takes a byte at least
enc_some : (e : Effect) → 1 ≤ length (effect_f.enc e)
unfolding effect_f via enum
enc_some e = omega arith

-- ---- the effects' lines, some of them written

pub record Going (es : List Effect) (text text' : Bytes) (at from next count : ℕ) : Type 0 where
  pub done : List Effect
  pub rest : List Effect
  pub split : es ≡ done ++ rest
  pub here : from ≡ length (enc_effects done)
  pub puts : Puts (effect_lines done) text text' at next
  pub counted : count ≡ length done

pub going_start : (es : List Effect) (text : Bytes) (at : ℕ) → Going es text text at 0 at 0
unfolding enc_effects effect_lines
going_start es text at = record { done = []; rest = es; split = refl; here = refl; puts = puts_none text at; counted = refl }

-- the effect at a place
pub record Next (effects : Bytes) (from end : ℕ) : Type 0 where
  pub more : from < end
  pub within : end ≤ length effects

pub line_long : (s : Bytes) → length (line s) ≡ length s + length s + 1
line_long s = length-append (digits s) (10 ∷ []) ∙ ap (λ (n : ℕ). n + 1) (length_digits s)

module _ {effects text text' : Bytes} {at from next count : ℕ} (E : Effects effects) (G : Going E.es text text' at from next count) where
  whole : effects ≡ enc_effects G.done ++ enc_effects G.rest
  whole = E.is ∙ ap enc_effects G.split ∙ enc_append G.done G.rest

  left_long : length effects ≡ from + length (enc_effects G.rest)
  left_long = ap length whole ∙ length-append (enc_effects G.done) (enc_effects G.rest) ∙ ap (λ (n : ℕ). n + length (enc_effects G.rest)) (sym G.here)

  -- ---- one effect more

  module _ (e : Effect) (es : List Effect) (is : G.rest ≡ e ∷ es) (end : ℕ) (E₁ : end ≡ (skips effect_f effects (record { at = from; ok = true })).at) where
    cut : effects ≡ enc_effects G.done ++ (effect_f.enc e ++ enc_effects es)
    cut = whole ∙ ap (λ (t : Bytes). enc_effects G.done ++ t) (ap enc_effects is ∙ enc_one e es)

    valid : effect_f.Ok e
    valid = (subst (λ (l : List Effect). All effect_f.Ok l) is (all_right G.done G.rest (subst (λ (l : List Effect). All effect_f.Ok l) G.split E.ok))).0

    end_is : end ≡ from + length (effect_f.enc e)
    end_is =
        let w : skips effect_f effects (record { at = from; ok = true }) ≡ record { at = from + length (effect_f.enc e); ok = true } =
        rw (cut, G.here) (skips_written effect_f_law (enc_effects G.done) e (enc_effects es) valid) in
        E₁ ∙ ap (λ (c : Cursor). c.at) w

    part_is : take (end - from) (drop from effects) ≡ effect_f.enc e
    part_is =
        let n : length (effect_f.enc e) ≡ end - from = let k = end_is in omega arith in
        ap (take (end - from)) (ap (drop from) cut ∙ drop_at (enc_effects G.done) (effect_f.enc e ++ enc_effects es) from (sym G.here))
        ∙ take_at (effect_f.enc e) (enc_effects es) (end - from) n

    next_is : Next effects from end
    next_is =
        let k = end_is in
        let s = enc_some e in
        let l = left_long in
        let f : length (enc_effects G.rest) ≡ length (effect_f.enc e) + length (enc_effects es) = ap length (ap enc_effects is ∙ enc_one e es) ∙ length-append (effect_f.enc e) (enc_effects es) in
        record { more = omega arith; within = omega arith }

    turn_is : {text'' : Bytes} {next' : ℕ} → next ≤ length text → Puts (line (take (end - from) (drop from effects))) text' text'' next next' → Going E.es text text'' at end next' (count + 1)
    unfolding effect_lines
    turn_is {text'' = text''} {next' = next'} r P =
        let p = G.puts.place in
        let d = G.done in
        let n = G.counted in
        let q : Puts (effect_lines d ++ line (effect_f.enc e)) text text'' at next' = puts_then G.puts (rw part_is at P) (omega arith) in
        let w : effect_lines (d ++ (e ∷ [])) ≡ effect_lines d ++ line (effect_f.enc e) = lines_append d (e ∷ []) ∙ ap (λ (t : Bytes). effect_lines d ++ t) (append-nil (line (effect_f.enc e))) in
        record {
          done = d ++ (e ∷ []);
          rest = es;
          split = G.split ∙ ap (λ (l : List Effect). d ++ l) is ∙ sym (append_assoc d (e ∷ []) es);
          here = end_is ∙ ap (λ (k : ℕ). k + length (effect_f.enc e)) G.here ∙ sym (ap length (enc_more d e) ∙ length-append (enc_effects d) (effect_f.enc e));
          puts = rw w q;
          counted = simp length-append (omega arith);
        }

  -- ---- the effect at a place, and the end

  module _ (end : ℕ) (E₁ : end ≡ (skips effect_f effects (record { at = from; ok = true })).at) (h : from < length effects) where
    pub next_there : Next effects from end
    unfolding enc_effects
    next_there = go G.rest refl
      where
        go : (r : List Effect) → G.rest ≡ r → Next effects from end
        go [] e = absurd (let l = rw e at left_long in omega arith)
        go (x ∷ xs) e = next_is x xs e end E₁

    pub turn : (text'' : Bytes) (next' : ℕ) → next ≤ length text → Puts (line (take (end - from) (drop from effects))) text' text'' next next' → Going E.es text text'' at end next' (count + 1)
    unfolding enc_effects
    turn text'' next' r P = go G.rest refl
      where
        go : (r : List Effect) → G.rest ≡ r → Going E.es text text'' at end next' (count + 1)
        go [] e = absurd (let l = rw e at left_long in omega arith)
        go (x ∷ xs) e = turn_is x xs e end E₁ r P

  pub going_ends : length effects ≤ from → next ≤ length text → Lists E.es text text' at (record { next = next; count = count })
  going_ends h k = go G.rest refl
    where
      go : (r : List Effect) → G.rest ≡ r → Lists E.es text text' at (record { next = next; count = count })
      go [] e =
          let d : E.es ≡ G.done = G.split ∙ ap (λ (l : List Effect). G.done ++ l) e ∙ append-nil G.done in
          record { puts = rw d G.puts; count = rw d G.counted; within = k }
      go (x ∷ xs) e =
          let l : length effects ≡ from + length (effect_f.enc x ++ enc_effects xs) = left_long ∙ ap (λ (t : Bytes). from + length t) (ap enc_effects e ∙ enc_one x xs) in
          let k = length-append (effect_f.enc x) (enc_effects xs) in
          let s = enc_some x in
          absurd (omega arith)

-- ---- the answer

pub head_is : (code count high low : ℕ) → high ≡ count / 256 % 256 → low ≡ count % 256 → code ∷ high ∷ low ∷ [] ≡ answer_bytes code count
head_is code count high low h l =
    let e : low ≡ count / 1 % 256 = omega arith in
    ap₂ (λ (x y : ℕ). code ∷ x ∷ y ∷ []) h e

-- the room that a line of an effect takes
pub line_room : (effects : Bytes) (from end next next' : ℕ) → Next effects from end → {text text' : Bytes} → Puts (line (take (end - from) (drop from effects))) text text' next next' → next' ≡ next + (end - from + (end - from) + 1)
line_room effects from end next next' N P =
    let p = P.place in
    let m = N.more in
    let w = N.within in
    let d = length-drop from effects in
    let t : length (take (end - from) (drop from effects)) ≡ end - from = length-take-le (end - from) (drop from effects) (omega arith) in
    let l = line_long (take (end - from) (drop from effects)) in
    omega arith

module _ (code : ℕ) (effects text text₁ text₂ : Bytes) (next count end : ℕ) (E : Effects effects) (L : Lists E.es text text₁ 7 (record { next = next; count = count }))
    (P : Puts (line (answer_bytes code count)) text₁ text₂ 0 end) (same : length text₁ ≡ length text) (same₂ : length text₂ ≡ length text₁) where
  pub answers : Answers code E.es text₂ next
  answers =
      let h : length (line (answer_bytes code count)) ≡ 7 = line_long (answer_bytes code count) in
      let n = L.puts.place in
      let room = L.within in
      let e = P.place in
      let seven : end ≡ 7 = omega arith in
      let ls : Bytes = effect_lines E.es in
      let head : Bytes = line (answer_bytes code count) in
      let d : drop end text₁ ≡ ls ++ drop next text =
      ap₂ (λ (k : ℕ) (x : Bytes). drop k x) seven L.puts.is ∙ drop_at (take 7 text) (ls ++ drop next text) 7 (length-take-le 7 text (omega arith)) in
      let w : text₂ ≡ (head ++ ls) ++ drop next text = P.is ∙ ap (λ (x : Bytes). head ++ x) d ∙ sym (append_assoc head ls (drop next text)) in
      let l : length (head ++ ls) ≡ next = length-append head ls ∙ ap (λ (k : ℕ). k + length ls) h ∙ sym n in
      record {
        fits = omega arith;
        is = ap (take next) w ∙ take_at (head ++ ls) (drop next text) next l ∙ ap (λ (k : ℕ). line (answer_bytes code k) ++ ls) L.count;
      }
