-- What the functions of this crate cite: each law's premises are what the callees ensure. Assumes nothing.
use Rattle.std.specs.Prelude.{Some, None}
use Rattle.std.proofs.lemmas.Bool.{true≢false}
use Prim.Native.Nat.{ℕ, zero, suc, ◌+◌, ◌-◌, ◌≤◌, ◌<◌}
use native.Mathlib.Omega.{arith}
use mathlib.Core.Path.{◌≡◌, refl, sym, ap, ap₂, ◌∙◌}
use mathlib.Core.Bool.{Bool, true, false, not}
use mathlib.Core.List.{List, [], ◌∷◌, ◌++◌, append-nil, append_assoc}
use lib.ListN.{length, take, drop, length-drop, drop_of_length-le}
use lib.Seq.{take_all, take-nil, drop-drop, length-take-le}
use lib.Dec.{ltb}
use borrow.Author.Tests.{lt-ltb, le-ltb, ltb-false}
use Rattle.lines.specs.Lines.{line_length}
use Rattle.input.specs.Input.{Taken, taken, is_empty, next_line, Reached, Splits}
use Rattle.input.specs.Ready.{Takes, Reads, Hands, between, left_of}
use Rattle.input.specs.declared.chunks.Input.{Input}
use Rattle.input.specs.declared.source.Lines.{Lines}

-- ---- a step in what is left of a chunk

taken_by : (limit : ℕ) (kept chunk line left : List ℕ) (whole : Bool) (stop : ℕ) → stop ≡ line_length chunk → line ≡ take limit (kept ++ take stop chunk) → whole ≡ ltb stop (length chunk)
    → left ≡ drop (suc stop) chunk → ◌≡◌ {A = Taken} (record { line = line; whole = whole; left = left }) (taken limit kept chunk)
unfolding taken
taken_by limit kept chunk line left whole stop e l w r = rw (← e, l, w, r)

drop_take : (k n : ℕ) (s : List ℕ) → drop k (take n s) ≡ take (n - k) (drop k s)
drop_take zero n s = let e : n - 0 ≡ n = omega arith in rw e
drop_take (suc k) zero s = let e : 0 - suc k ≡ 0 = omega arith in rw e
drop_take (suc k) (suc n) [] = sym (take-nil (suc n - suc k))
drop_take (suc k) (suc n) (b ∷ s) = let e : suc n - suc k ≡ n - k = omega arith in drop_take k n s ∙ rw e

take_short : (n : ℕ) (s : List ℕ) → length (take n s) ≤ n
take_short zero s = omega arith
take_short (suc n) [] = omega arith
take_short (suc n) (b ∷ s) = let h = take_short n s in omega arith

zero_plus : (n : ℕ) → 0 + n ≡ n
zero_plus n = omega arith

module _ (chunk line line' : List ℕ) (at end have kept stop : ℕ) (a : at ≤ end) (within : end ≤ length chunk)
    (s : stop ≡ 0 + line_length (drop 0 (between at end chunk))) (k : kept ≤ length line)
    (l : take kept line' ≡ take (length line) (take have line ++ take stop (between at end chunk))) where
  stop_is : stop ≡ line_length (between at end chunk)
  stop_is = s ∙ zero_plus (line_length (between at end chunk))

  left_long : length (between at end chunk) ≡ end - at
  left_long = length-take-le (end - at) (drop at chunk) (let d = length-drop at chunk in omega arith)

  pub takes_on : stop ≡ length (between at end chunk) → Takes chunk line line' at end have (record { at = end; end = end; have = kept; whole = false; ended = false })
  takes_on e =
      let none : end - end ≡ 0 = omega arith in
      let w : false ≡ ltb stop (length (between at end chunk)) = sym (le-ltb stop (length (between at end chunk)) (omega arith)) in
      let r : between end end chunk ≡ drop (suc stop) (between at end chunk) = ap (λ (n : ℕ). take n (drop end chunk)) none ∙ sym (drop_of_length-le (between at end chunk) {i = suc stop} (omega arith)) in
      record {
        ready = record { left = omega arith; within = within; kept = k };
        going = refl;
        is = taken_by (length line) (take have line) (between at end chunk) (take kept line') (between end end chunk) false stop stop_is l w r;
      }

  pub takes_whole : stop < length (between at end chunk) → Takes chunk line line' at end have (record { at = at + stop + 1; end = end; have = kept; whole = true; ended = false })
  takes_whole h =
      let m = left_long in
      let n : end - (at + stop + 1) ≡ end - at - suc stop = omega arith in
      let o : at + stop + 1 ≡ at + suc stop = omega arith in
      let r : between (at + stop + 1) end chunk ≡ drop (suc stop) (between at end chunk) =
      ap₂ (λ (x y : ℕ). take x (drop y chunk)) n o ∙ ap (take (end - at - suc stop)) (sym (drop-drop (suc stop) at chunk)) ∙ sym (drop_take (suc stop) (end - at) (drop at chunk)) in
      record {
        ready = record { left = omega arith; within = within; kept = k };
        going = refl;
        is = taken_by (length line) (take have line) (between at end chunk) (take kept line') (between (at + stop + 1) end chunk) true stop stop_is l (sym (lt-ltb stop (length (between at end chunk)) h)) r;
      }

-- ---- steps of a call

module _ (limit : ℕ) (kept chunk : List ℕ) (chunks : List (List ℕ)) where
  pub step_whole : (taken limit kept chunk).whole ≡ true
      → next_line limit kept (chunk ∷ chunks) ≡ record { line = (taken limit kept chunk).line; whole = true; rest = (taken limit kept chunk).left ∷ chunks }
  unfolding next_line
  step_whole e = rw e

  pub step_on : (taken limit kept chunk).whole ≡ false → next_line limit kept (chunk ∷ chunks) ≡ next_line limit (taken limit kept chunk).line chunks
  unfolding next_line
  step_on e = rw e

-- a chunk of which nothing is left
pub nothing_left : (limit : ℕ) (kept : List ℕ) (chunks : List (List ℕ)) → length kept ≤ limit → next_line limit kept ([] ∷ chunks) ≡ next_line limit kept chunks
unfolding taken line_length
nothing_left limit kept chunks h =
    step_on limit kept [] chunks refl ∙ ap (λ (k : List ℕ). next_line limit k chunks) (ap (take limit) (append-nil kept) ∙ take_all limit kept h)

-- ---- how far a call has come

pub splits_start : (limit : ℕ) (left : List ℕ) → Splits limit [] left false false [] left
splits_start limit left = record { chunks = []; is = λ more. refl }

-- a chunk more was read
pub splits_read : {limit : ℕ} {kept chunk line left : List ℕ} (whole ended : Bool) → length kept ≤ limit → Splits limit kept chunk whole ended line left → Splits limit kept [] whole ended line left
splits_read {limit = limit} {kept = kept} {chunk = chunk} {line = line} {left = left} whole ended h S = record { chunks = chunk ∷ S.chunks; is = go whole ended S.is }
  where
    go : (w e : Bool) → Reached w e limit kept (chunk ∷ S.chunks) line left → Reached w e limit kept ([] ∷ (chunk ∷ S.chunks)) line left
    go true true r = nothing_left limit kept (chunk ∷ S.chunks) h ∙ r
    go false true r = nothing_left limit kept (chunk ∷ S.chunks) h ∙ r
    go true false r = λ more. nothing_left limit kept ((chunk ∷ S.chunks) ++ more) h ∙ r more
    go false false r = λ more. nothing_left limit kept ((chunk ∷ S.chunks) ++ more) h ∙ r more

-- and then on
pub splits_then : {limit : ℕ} {kept left mid rest line left' : List ℕ} (whole ended : Bool) → Splits limit kept left false false mid rest → Splits limit mid rest whole ended line left' → Splits limit kept left whole ended line left'
splits_then {limit = limit} {kept = kept} {left = left} {mid = mid} {rest = rest} {line = line} {left' = left'} whole ended S R = record { chunks = S.chunks ++ R.chunks; is = go whole ended R.is }
  where
    onwards : (more : List (List ℕ)) → next_line limit kept (left ∷ ((S.chunks ++ R.chunks) ++ more)) ≡ next_line limit mid (rest ∷ (R.chunks ++ more))
    onwards more = ap (λ (x : List (List ℕ)). next_line limit kept (left ∷ x)) (append_assoc S.chunks R.chunks more) ∙ S.is (R.chunks ++ more)

    go : (w e : Bool) → Reached w e limit mid (rest ∷ R.chunks) line left' → Reached w e limit kept (left ∷ (S.chunks ++ R.chunks)) line left'
    go true true r = S.is R.chunks ∙ r
    go false true r = S.is R.chunks ∙ r
    go true false r = λ more. onwards more ∙ r more
    go false false r = λ more. onwards more ∙ r more

none_left : (limit : ℕ) (kept left : List ℕ) → (taken limit kept left).whole ≡ false → (taken limit kept left).left ≡ []
unfolding taken
none_left limit kept left h = drop_of_length-le left {i = suc (line_length left)} (let k = ltb-false (line_length left) (length left) h in omega arith)

line_short : (limit : ℕ) (kept left : List ℕ) → length (taken limit kept left).line ≤ limit
unfolding taken
line_short limit kept left = take_short limit (kept ++ take (line_length left) left)

-- a step is a call that has come so far
pub splits_taken : {limit : ℕ} {kept left line left' : List ℕ} (whole : Bool) → ◌≡◌ {A = Taken} (record { line = line; whole = whole; left = left' }) (taken limit kept left) → Splits limit kept left whole false line left'
splits_taken {limit = limit} {kept = kept} {left = left} {line = line} {left' = left'} whole e = record { chunks = []; is = go whole (ap (λ (t : Taken). t.whole) e) }
  where
    line_is : line ≡ (taken limit kept left).line
    line_is = ap (λ (t : Taken). t.line) e

    left_is : left' ≡ (taken limit kept left).left
    left_is = ap (λ (t : Taken). t.left) e

    go : (w : Bool) → w ≡ (taken limit kept left).whole → Reached w false limit kept (left ∷ []) line left'
    go true h = λ more. step_whole limit kept left more (sym h) ∙ rw (line_is, left_is)
    go false h = λ more.
        step_on limit kept left more (sym h) ∙ ap (λ (x : List ℕ). next_line limit x more) (sym line_is)
        ∙ sym (ap (λ (x : List ℕ). next_line limit line (x ∷ more)) (left_is ∙ none_left limit kept left (sym h)) ∙ nothing_left limit line more (let k = line_short limit kept left in let m = ap length line_is in omega arith))

-- ---- what the functions promise

pub reads_taken : {chunk line line' : List ℕ} {at end have : ℕ} {r : Input} → length line' ≡ length line → Takes chunk line line' at end have r → Reads (take have line) (between at end chunk) chunk line' r
reads_taken {chunk = chunk} {line = line} {line' = line'} {at = at} {end = end} {have = have} {r = r} e T = record {
  ready = record { left = T.ready.left; within = T.ready.within; kept = rw e T.ready.kept };
  splits = rw (e, T.going) (splits_taken r.whole T.is);
}

-- nothing was left, and a chunk was read
pub reads_more : (chunk line : List ℕ) (at end have : ℕ) {left chunk' line' : List ℕ} {r : Input} → end ≤ at → have ≤ length line → length line' ≡ length line
    → Reads (take have line) left chunk' line' r → Reads (take have line) (between at end chunk) chunk' line' r
reads_more chunk line at end have {r = r} h k s R =
    let e : end - at ≡ 0 = omega arith in
    let l = length-take-le have line k in
    record { ready = R.ready; splits = rw e (splits_read r.whole r.ended (omega arith) R.splits) }

not_empty : (n : ℕ) (s : List ℕ) → n ≤ length s → ltb 0 n ≡ not (is_empty (take n s))
not_empty zero s h = refl
not_empty (suc n) [] h = absurd (omega arith)
not_empty (suc n) (b ∷ s) h = lt-ltb 0 (suc n) (omega arith)

-- nothing was left, and the input ends
pub reads_end : (chunk chunk' line : List ℕ) (at end have : ℕ) (whole : Bool) → end ≤ at → have ≤ length line → whole ≡ ltb 0 have
    → Reads (take have line) (between at end chunk) chunk' line (record { at = 0; end = 0; have = have; whole = whole; ended = true })
unfolding next_line
reads_end chunk chunk' line at end have whole h k w =
    let e : end - at ≡ 0 = omega arith in
    let l = length-take-le have line k in
    record {
      ready = record { left = omega arith; within = omega arith; kept = k };
      splits = record { chunks = []; is = rw (e, w, not_empty have line k) (nothing_left (length line) (take have line) [] (omega arith)) };
    }

pub reads_start : (chunk line : List ℕ) (at end : ℕ) → at ≤ end → end ≤ length chunk → Reads [] (between at end chunk) chunk line (record { at = at; end = end; have = 0; whole = false; ended = false })
reads_start chunk line at end h k = record { ready = record { left = h; within = k; kept = omega arith }; splits = splits_start (length line) (between at end chunk) }

pub reads_then : {left chunk line chunk' line' : List ℕ} (p : Input) {r : Input} → length line' ≡ length line → p.whole ≡ false → p.ended ≡ false → Reads [] left chunk line p
    → Reads (take p.have line) (between p.at p.end chunk) chunk' line' r → Reads [] left chunk' line' r
reads_then {left = left} {chunk = chunk} {line = line} p {r = r} e w d P R = record {
  ready = R.ready;
  splits = splits_then r.whole r.ended (rw (← e, w, d) at P.splits) R.splits;
}

-- ---- what a call hands out

pub hands_over : (before : Lines) (line : List ℕ) → before.ended ≡ true → Hands before before line None
hands_over before line d = record { line = []; is = tt; over = λ e. (refl, refl); splits = λ e. absurd (true≢false (sym d ∙ e)) }

-- what is read of the chunk that is held, and what is left of it
module _ {before after : Lines} {chunk' line' : List ℕ} {p : Input} (d : before.ended ≡ false) (R : Reads [] (left_of before) chunk' line' p) (a : left_of after ≡ between p.at p.end chunk') (e : after.ended ≡ p.ended) where
  pub hands_line : p.whole ≡ true → Hands before after line' (Some p.have)
  hands_line w = record { line = take p.have line'; is = (R.ready.kept, refl); over = λ t. absurd (true≢false (sym t ∙ d)); splits = λ _. rw (a, e, ← w) R.splits }

  pub hands_none : p.whole ≡ false → Hands before after line' None
  hands_none w = record { line = take p.have line'; is = tt; over = λ t. absurd (true≢false (sym t ∙ d)); splits = λ _. rw (a, e, ← w) R.splits }
