-- Line after line: what is held is that after the lines that were handed out. Assumes nothing.
use Rattle.std.specs.Prelude.{Some, length, take}
use Rattle.std.proofs.lemmas.Bool.{true≢false}
use Prim.Native.Nat.{ℕ, zero, suc, ◌+◌}
use native.Mathlib.Omega.{arith}
use mathlib.Core.Path.{◌≡◌, refl, sym, ap, ap₂, ◌∙◌}
use mathlib.Core.Bool.{Bool, true, false}
use mathlib.Core.List.{List, [], ◌∷◌, ◌++◌, append-nil, append_assoc}
use Rattle.input.specs.Input.{next_line, handed_out, Splits}
use Rattle.input.specs.Served.{after_lines, Served}
use Rattle.input.specs.Ready.{left_of, Hands}
use Rattle.input.specs.declared.source.Lines.{Lines}
use Rattle.input.proofs.Laws.{nothing_left}

after_append : (after_line : List ℕ → List ℕ → List ℕ) (held : List ℕ) (lines : List (List ℕ)) (l : List ℕ) → after_lines after_line held (lines ++ (l ∷ [])) ≡ after_line (after_lines after_line held lines) l
unfolding after_lines
after_append after_line held [] l = refl
after_append after_line held (x ∷ lines) l = after_append after_line (after_line held x) lines l

-- lines were handed out and answered, and then `left` is left of the chunk, whatever comes behind it
pub record Reading (after_line : List ℕ → List ℕ → List ℕ) (limit : ℕ) (held₀ held left : List ℕ) : Type 0 where
  pub calls : ℕ
  pub chunks : List (List ℕ)
  pub lines : List (List ℕ)
  pub hands : (m : ℕ) (more : List (List ℕ)) → handed_out limit (calls + m) (chunks ++ more) ≡ lines ++ handed_out limit m (left ∷ more)
  pub goes_on : held ≡ after_lines after_line held₀ lines

nothing_handed : (limit m : ℕ) (more : List (List ℕ)) → handed_out limit m more ≡ handed_out limit m ([] ∷ more)
unfolding handed_out
nothing_handed limit zero more = refl
nothing_handed limit (suc m) more = rw (nothing_left limit [] more (omega arith))

pub reading_start : {after_line : List ℕ → List ℕ → List ℕ} (limit : ℕ) (held left : List ℕ) → left ≡ [] → Reading after_line limit held held left
unfolding after_lines
reading_start limit held left e = record {
  calls = 0;
  chunks = [];
  lines = [];
  hands = λ m more. let z : 0 + m ≡ m = omega arith in rw (z, e) (nothing_handed limit m more);
  goes_on = refl;
}

pub reading_served : {after_line : List ℕ → List ℕ → List ℕ} {limit : ℕ} {held₀ held left : List ℕ} → Reading after_line limit held₀ held left → Served after_line limit held₀ held
unfolding handed_out
reading_served {after_line = after_line} {limit = limit} {held₀ = held₀} R =
    let z : R.calls + 0 ≡ R.calls = omega arith in
    let h : handed_out limit R.calls R.chunks ≡ R.lines = ap₂ (λ (n : ℕ) (cs : List (List ℕ)). handed_out limit n cs) (sym z) (sym (append-nil R.chunks)) ∙ R.hands 0 [] ∙ append-nil R.lines in
    record { calls = R.calls; chunks = R.chunks; is = R.goes_on ∙ ap (after_lines after_line held₀) (sym h) }

handed_line : (limit m : ℕ) (chunks rest : List (List ℕ)) (l : List ℕ) → next_line limit [] chunks ≡ record { line = l; whole = true; rest = rest } → handed_out limit (suc m) chunks ≡ l ∷ handed_out limit m rest
unfolding handed_out
handed_line limit m chunks rest l e = rw e

module _ {after_line : List ℕ → List ℕ → List ℕ} {limit : ℕ} {held₀ held held' left : List ℕ} (l left' : List ℕ) (R : Reading after_line limit held₀ held left) (e : held' ≡ after_line held l) where
  held_is : held' ≡ after_lines after_line held₀ (R.lines ++ (l ∷ []))
  held_is = e ∙ ap (λ (x : List ℕ). after_line x l) R.goes_on ∙ sym (after_append after_line held₀ R.lines l)

  reading_next : Splits limit [] left true false l left' → Reading after_line limit held₀ held' left'
  reading_next S = record {
    calls = R.calls + 1;
    chunks = R.chunks ++ S.chunks;
    lines = R.lines ++ (l ∷ []);
    hands = λ m more.
        let n : R.calls + 1 + m ≡ R.calls + suc m = omega arith in
        ap₂ (λ (k : ℕ) (cs : List (List ℕ)). handed_out limit k cs) n (append_assoc R.chunks S.chunks more) ∙ R.hands (suc m) (S.chunks ++ more)
        ∙ ap (λ (x : List (List ℕ)). R.lines ++ x) (handed_line limit m (left ∷ (S.chunks ++ more)) (left' ∷ more) l (S.is more)) ∙ sym (append_assoc R.lines (l ∷ []) (handed_out limit m (left' ∷ more)));
    goes_on = held_is;
  }

  served_last : Splits limit [] left true true l left' → Served after_line limit held₀ held'
  unfolding handed_out
  served_last S =
      let h : handed_out limit (R.calls + 1) (R.chunks ++ S.chunks) ≡ R.lines ++ (l ∷ []) = R.hands 1 S.chunks ∙ ap (λ (x : List (List ℕ)). R.lines ++ x) (handed_line limit 0 (left ∷ S.chunks) [] l S.is) in
      record { calls = R.calls + 1; chunks = R.chunks ++ S.chunks; is = held_is ∙ ap (after_lines after_line held₀) (sym h) }

-- ---- what is held while the lines are handed out, one after the other

pub record Serves (after_line : List ℕ → List ℕ → List ℕ) (limit : ℕ) (held₀ held : List ℕ) (lines : Lines) : Type 0 where
  pub going : lines.ended ≡ false → Reading after_line limit held₀ held (left_of lines)
  pub done : lines.ended ≡ true → Served after_line limit held₀ held

pub serves_start : {after_line : List ℕ → List ℕ → List ℕ} (limit : ℕ) (held : List ℕ) (lines : Lines) → lines.ended ≡ false → left_of lines ≡ [] → Serves after_line limit held held lines
serves_start limit held lines d e = record { going = λ _. reading_start limit held (left_of lines) e; done = λ t. absurd (true≢false (sym t ∙ d)) }

pub serves_end : {after_line : List ℕ → List ℕ → List ℕ} {limit : ℕ} {held₀ held : List ℕ} (lines : Lines) → Serves after_line limit held₀ held lines → Served after_line limit held₀ held
serves_end {after_line = after_line} {limit = limit} {held₀ = held₀} {held = held} lines S =
    elim lines.ended as (λ b. lines.ended ≡ b → Served after_line limit held₀ held) [ true ↦ S.done | false ↦ λ e. reading_served (S.going e) ] refl

-- a line was read and answered
pub serves_line : {after_line : List ℕ → List ℕ → List ℕ} (limit : ℕ) (held₀ held held' line : List ℕ) (before after : Lines) (have : ℕ) → Serves after_line limit held₀ held before → limit ≡ length line
    → Hands before after line (Some have) → held' ≡ after_line held (take have line) → Serves after_line limit held₀ held' after
serves_line {after_line = after_line} limit held₀ held held' line before after have S k H e =
    elim before.ended as (λ b. before.ended ≡ b → Serves after_line limit held₀ held' after) [ true ↦ λ d. cc (H.over d).0 | false ↦ λ d. go (H.splits d) (S.going d) after.ended refl ] refl
  where
    held_so : held' ≡ after_line held H.line
    held_so = e ∙ ap (after_line held) (sym H.is.1)

    go : Splits (length line) [] (left_of before) true after.ended H.line (left_of after) → Reading after_line limit held₀ held (left_of before) → (b : Bool) → after.ended ≡ b → Serves after_line limit held₀ held' after
    go P R true b = record { going = λ t. absurd (true≢false (sym b ∙ t)); done = λ _. served_last H.line (left_of after) R held_so (rw (← k, b) at P) }
    go P R false b = record { going = λ _. reading_next H.line (left_of after) R held_so (rw (← k, b) at P); done = λ t. absurd (true≢false (sym t ∙ b)) }
