-- The regions of a pass: zeros where none is open, and a pass that fits behind the byte 1. Assumes nothing.
use Rattle.std.specs.Prelude.{Option, Some, None}
use Prim.Native.Nat.{ℕ, ◌+◌, ◌-◌, ◌≤◌}
use native.Mathlib.Omega.{arith}
use mathlib.Core.Path.{◌≡◌, refl, sym, ap, ◌∙◌}
use mathlib.Core.List.{List, [], ◌∷◌}
use mathlib.Core.Bool.{Bool, true, false}
use lib.ListN.{length, take, get_or, length-replicate, replicate-append-replicate}
use lib.Seq.{drop-cons, take_at, drop_at}
use Rattle.format.specs.Format.{bool, option, via, below}
use Rattle.spans.specs.Bytes.{zeros, all_zero}
use Rattle.spans.proofs.Laws.{more_zeros}
use Rattle.tables.specs.Table.{Table, flat, cut_at}
use Rattle.tables.proofs.Laws as tables
use Rattle.lent.specs.Lent.{part}
use Rattle.model.specs.State.{Pass}
use Rattle.model.specs.Limits.{document01}
use Rattle.model.specs.Maps.{map, is_some}
use Rattle.model.specs.Formats.{short_text, list_from_f}
use Rattle.state.specs.Layout.{padded, field, region, name_slot, staged_slot, pass_of, no_pass}
use Rattle.state.specs.Contract.{state_length}
use Rattle.state.proofs.Fresh.{no_text, no_flag, from_start, no_pass_fits}
use Rattle.regions.specs.Inside.{OpenIn, PassIn}

-- ---- runs of zeros

zeros_split : (o k m : ℕ) → part o k (zeros (o + (k + m))) ≡ zeros k
zeros_split o k m =
    ap (part o k) (sym (replicate-append-replicate o (k + m) 0))
    ∙ ap (take k) (drop_at (zeros o) (zeros (k + m)) o (length-replicate o 0))
    ∙ ap (take k) (sym (replicate-append-replicate k m 0))
    ∙ take_at (zeros k) (zeros m) k (length-replicate k 0)

zeros_part : (n o k : ℕ) → o + k ≤ n → part o k (zeros n) ≡ zeros k
zeros_part n o k h =
    let e : n ≡ o + (k + (n - o - k)) = omega arith in
    ap (λ (j : ℕ). part o k (zeros j)) e ∙ zeros_split o k (n - o - k)

-- ---- the bytes of `no_pass`

a_flag : field 1 bool true ≡ 1 ∷ []
unfolding bool via below padded
a_flag = refl

no_staged : region document01.staged 916 (map staged_slot []) ≡ zeros 9161
unfolding document01 map
no_staged = tables.empty_zeros 9161 (omega arith)

no_seen : region document01.seen 33 (map name_slot []) ≡ zeros 1057
unfolding document01 map
no_seen = tables.empty_zeros 1057 (omega arith)

no_observed : region document01.observed 33 (map name_slot []) ≡ zeros 529
unfolding document01 map
no_observed = tables.empty_zeros 529 (omega arith)

-- ---- the open byte

bool_ok : (b : Bool) → bool.Ok b
unfolding bool via below
bool_ok true = omega arith
bool_ok false = omega arith

same_byte : (x y : ℕ) → ◌≡◌ {A = List ℕ} (x ∷ []) (y ∷ []) → x ≡ y
same_byte x y e = cc

module _ (b : List ℕ) (l : length b ≡ state_length) where
  open_byte : part 9185 1 b ≡ get_or b 9185 0 ∷ []
  open_byte = ap (take 1) (drop-cons b 9185 0 (omega arith))

  shut_byte : (p : Option Pass) → part 9185 1 b ≡ field 1 bool (is_some p) → (get_or b 9185 0 ≡ 1 → ⊥) → (get_or b 9185 0 ≡ 0) × (p ≡ None)
  unfolding is_some
  shut_byte None e h = (same_byte (get_or b 9185 0) 0 (sym open_byte ∙ e ∙ no_flag), refl)
  shut_byte (Some p) e h = absurd (h (same_byte (get_or b 9185 0) 1 (sym open_byte ∙ e ∙ a_flag)))

  -- the byte is 0 or 1
  pub no_other : PassIn b → (get_or b 9185 0 ≡ 0 → ⊥) → (get_or b 9185 0 ≡ 1 → ⊥) → ⊥
  no_other P h k = h (shut_byte P.pass P.is_open k).0

  -- ---- no pass

  module _ (z : all_zero (part 9185 10817 b) ≡ true) where
    all_zeros : part 9185 10817 b ≡ zeros 10817
    all_zeros = tables.all_zero_is (part 9185 10817 b) z ∙ ap zeros (tables.part_length b 9185 10817 (omega arith))

    zeros_at : (o k : ℕ) → o + k ≤ 10817 → part (9185 + o) k b ≡ zeros k
    zeros_at o k h = tables.field_of b 10817 9185 o k h ∙ ap (part o k) all_zeros ∙ zeros_part 10817 o k h

    pub shut_yes : PassIn b
    unfolding pass_of no_pass is_some
    shut_yes = record {
      pass = None;
      fits = no_pass_fits;
      is_open = zeros_at 0 1 (omega arith) ∙ sym no_flag;
      full = zeros_at 1 1 (omega arith) ∙ sym no_flag;
      from = zeros_at 2 34 (omega arith) ∙ sym from_start;
      staged = zeros_at 36 9161 (omega arith) ∙ sym no_staged;
      seen = zeros_at 9197 1057 (omega arith) ∙ sym no_seen;
      observed = zeros_at 10254 529 (omega arith) ∙ sym no_observed;
      done = zeros_at 10783 34 (omega arith) ∙ sym no_text;
    }

  abbrev pass_sizes : List ℕ
  pass_sizes = 1 ∷ 1 ∷ 34 ∷ 9161 ∷ 1057 ∷ 529 ∷ 34 ∷ []

  abbrev blank : Table
  blank = zeros 1 ∷ zeros 1 ∷ zeros 34 ∷ zeros 9161 ∷ zeros 1057 ∷ zeros 529 ∷ zeros 34 ∷ []

  flat_blank : flat blank ≡ zeros 10817
  flat_blank = more_zeros 1 10816 refl (more_zeros 1 10815 refl (more_zeros 34 10781 refl (more_zeros 9161 1620 refl (more_zeros 1057 563 refl (more_zeros 529 34 refl (more_zeros 34 0 refl refl))))))

  -- the part at o of the pass's bytes
  inner : (o k : ℕ) {x : List ℕ} → o + k ≤ 10817 → part (9185 + o) k b ≡ x → part o k (part 9185 10817 b) ≡ x
  inner o k h e = sym (tables.field_of b 10817 9185 o k h) ∙ e

  pub shut_no : PassIn b → get_or b 9185 0 ≡ 0 → all_zero (part 9185 10817 b) ≡ true
  unfolding pass_of no_pass is_some
  shut_no P h =
      let n : P.pass ≡ None = (shut_byte P.pass P.is_open (λ k. let h2 = h in omega arith)).1 in
      let c : List ℕ = part 9185 10817 b in
      let e : cut_at 0 pass_sizes c ≡ blank =
      tables.join (inner 0 1 (omega arith) (P.is_open ∙ ap (λ p. field 1 bool (is_some p)) n ∙ no_flag)) (
      tables.join (inner 1 1 (omega arith) (P.full ∙ ap (λ p. field 1 bool (pass_of p).full) n ∙ no_flag)) (
      tables.join (inner 2 34 (omega arith) (P.from ∙ ap (λ p. field 34 list_from_f (pass_of p).from) n ∙ from_start)) (
      tables.join (inner 36 9161 (omega arith) (P.staged ∙ ap (λ p. region document01.staged 916 (map staged_slot (pass_of p).staged)) n ∙ no_staged)) (
      tables.join (inner 9197 1057 (omega arith) (P.seen ∙ ap (λ p. region document01.seen 33 (map name_slot (pass_of p).seen)) n ∙ no_seen)) (
      tables.join (inner 10254 529 (omega arith) (P.observed ∙ ap (λ p. region document01.observed 33 (map name_slot (pass_of p).observed)) n ∙ no_observed)) (
      tables.join (inner 10783 34 (omega arith) (P.done ∙ ap (λ p. field 34 (option short_text) (pass_of p).done) n ∙ no_text)) refl)))))) in
      let s : c ≡ flat (cut_at 0 pass_sizes c) = tables.cut_is 0 pass_sizes c (sym (tables.part_length b 9185 10817 (omega arith))) in
      ap all_zero (s ∙ ap flat e ∙ flat_blank) ∙ tables.zeros_all_zero 10817

  -- ---- an open pass

  pub open_yes : get_or b 9185 0 ≡ 1 → OpenIn b → PassIn b
  unfolding pass_of is_some
  open_yes h O = record {
    pass = Some (record { full = O.full.value; from = O.from.value; staged = O.staged.entries; seen = O.seen.names; observed = O.observed.names; done = O.done.value });
    fits = record { from = O.from.ok; staged = O.staged.held; seen = O.seen.held; observed = O.observed.held; done = O.done.ok };
    is_open = open_byte ∙ ap (λ (n : ℕ). n ∷ []) h ∙ sym a_flag;
    full = O.full.bytes;
    from = O.from.bytes;
    staged = O.staged.bytes;
    seen = O.seen.bytes;
    observed = O.observed.bytes;
    done = O.done.bytes;
  }

  pub open_no : PassIn b → OpenIn b
  open_no P = record {
    full = record { value = (pass_of P.pass).full; ok = bool_ok (pass_of P.pass).full; bytes = P.full };
    from = record { value = (pass_of P.pass).from; ok = P.fits.from; bytes = P.from };
    staged = record { entries = (pass_of P.pass).staged; held = P.fits.staged; bytes = P.staged };
    seen = record { names = (pass_of P.pass).seen; held = P.fits.seen; bytes = P.seen };
    observed = record { names = (pass_of P.pass).observed; held = P.fits.observed; bytes = P.observed };
    done = record { value = (pass_of P.pass).done; ok = P.fits.done; bytes = P.done };
  }
