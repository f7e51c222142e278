-- All regions of a pass at once: another pass, or none, in their place. Assumes nothing.
use Rattle.std.specs.Prelude.{Option, Some, None}
use Prim.Native.Nat.{ℕ}
use native.Mathlib.Omega.{arith}
use mathlib.Core.Path.{◌≡◌, refl, sym, ap, ap₂, ◌∙◌}
use mathlib.Core.List.{List, [], ◌∷◌, ◌++◌}
use mathlib.Core.Bool.{false, not}
use lib.ListN.{length, drop, replicate-append-replicate}
use lib.Seq.{take_at, drop_at}
use Rattle.format.specs.Format.{option, stamp, bool, bool_from, via, enum, below, ◌∣◌, nothing}
use Rattle.spans.specs.Bytes.{zeros}
use Rattle.spans.proofs.Laws.{more_zeros}
use Rattle.tables.specs.Table.{Table, flat, Lens, enc_table}
use Rattle.tables.proofs.Laws as tables
use Rattle.lent.specs.Lent.{placed}
use Rattle.model.specs.Seam.{Cursor, ListFrom}
use Rattle.model.specs.State.{Pass, SyncState}
use Rattle.model.specs.Limits.{document01}
use Rattle.model.specs.Maps.{map, is_some, keys}
use Rattle.model.specs.Sync.{new_pass, start_from}
use Rattle.model.specs.Formats.{short_text, u64, list_from_f}
use Rattle.model.specs.WellFormed.{rising}
use Rattle.model.proofs.FitReading.{start_from_ok}
use Rattle.state.specs.Layout.{field, padded, name_slot, record_slot, staged_slot, flight_slot, learned_slot, alias_slot, edit_slots, region, regions, sizes, layout, pass_of, no_pass}
use Rattle.state.specs.Fits.{PassFits, Fits}
use Rattle.state.specs.Setters.{with_pass}
use Rattle.state.specs.Contract.{Keeps}
use Rattle.state.proofs.Regions.{regions_sized}
use Rattle.state.proofs.Parts.{keep}
use Rattle.state.proofs.Fresh.{no_text}

-- ---- the regions before a pass's, its own, and those behind

abbrev before_pass : SyncState → Table
before_pass s = region 10 915 (map record_slot s.records) ∷ field 34 (option short_text) s.cursor ∷ []

abbrev of_pass : Option Pass → Table
of_pass o =
    field 1 bool (is_some o)
    ∷ field 1 bool (pass_of o).full
    ∷ field 34 list_from_f (pass_of o).from
    ∷ region 10 916 (map staged_slot (pass_of o).staged)
    ∷ region 32 33 (map name_slot (pass_of o).seen)
    ∷ region 16 33 (map name_slot (pass_of o).observed)
    ∷ field 34 (option short_text) (pass_of o).done
    ∷ []

abbrev behind_pass : SyncState → Table
behind_pass s =
    region 6 5940 (edit_slots document01 s.edits)
    ∷ region 24 43 (map flight_slot s.in_flight)
    ∷ field 8 u64 s.next_request
    ∷ region 32 41 (map learned_slot s.learned)
    ∷ field 8 u64 s.learned_all
    ∷ field 9 (option stamp) s.now
    ∷ region 8 66 (map alias_slot s.aliases)
    ∷ []

three : (s : SyncState) → layout document01 s ≡ flat (before_pass s) ++ (flat (of_pass s.pass) ++ flat (behind_pass s))
unfolding layout regions document01
three s = tables.flat_append (before_pass s) (of_pass s.pass ++ behind_pass s) ∙ ap (λ (x : List ℕ). flat (before_pass s) ++ x) (tables.flat_append (of_pass s.pass) (behind_pass s))

fit : (s : SyncState) → Fits document01 s → Lens (9151 ∷ 34 ∷ 1 ∷ 1 ∷ 34 ∷ 9161 ∷ 1057 ∷ 529 ∷ 34 ∷ 35641 ∷ 1033 ∷ 8 ∷ 1313 ∷ 8 ∷ 9 ∷ 529 ∷ []) (regions document01 s)
unfolding sizes document01
fit s f = regions_sized document01 s f

before_long : (s : SyncState) → Fits document01 s → length (flat (before_pass s)) ≡ 9185
unfolding regions document01
before_long s f = let h = fit s f in tables.length_regions (9151 ∷ 34 ∷ []) (before_pass s) (h.0, (h.1.0, tt))

pass_long : (s : SyncState) → Fits document01 s → length (flat (of_pass s.pass)) ≡ 10817
unfolding regions document01
pass_long s f =
    let h = (fit s f).1.1 in
    tables.length_regions (1 ∷ 1 ∷ 34 ∷ 9161 ∷ 1057 ∷ 529 ∷ 34 ∷ []) (of_pass s.pass) (h.0, (h.1.0, (h.1.1.0, (h.1.1.1.0, (h.1.1.1.1.0, (h.1.1.1.1.1.0, (h.1.1.1.1.1.1.0, tt)))))))

middle : (a b c q : List ℕ) (n m : ℕ) → length a ≡ n → length b ≡ m → placed n m q (a ++ (b ++ c)) ≡ a ++ (q ++ c)
middle a b c q n m l k =
    ap₂ (λ (x y : List ℕ). x ++ (q ++ y)) (take_at a (b ++ c) n l) (ap (drop m) (drop_at a (b ++ c) n l) ∙ drop_at b c m k)

-- another pass in a pass's regions
pub pass_put : (s : SyncState) (w : List ℕ) (o : Option Pass) → Keeps s w → PassFits document01 (pass_of o) → Keeps (with_pass o s) (placed 9185 10817 (flat (of_pass o)) w)
pass_put s w o h k =
    let f = h.fits in
    keep (with_pass o s) (placed 9185 10817 (flat (of_pass o)) w)
    (ap (placed 9185 10817 (flat (of_pass o))) (h.bytes ∙ three s)
    ∙ middle (flat (before_pass s)) (flat (of_pass s.pass)) (flat (behind_pass s)) (flat (of_pass o)) 9185 10817 (before_long s f) (pass_long s f)
    ∙ sym (three (with_pass o s)))
    (record { records = f.records; cursor = f.cursor; pass = k; edits = f.edits; in_flight = f.in_flight; next_request = f.next_request; learned = f.learned; learned_all = f.learned_all; now = f.now; aliases = f.aliases })

-- ---- the bytes of no pass, and of a new one

no_header : field 1 bool false ++ (field 1 bool false ++ (field 34 list_from_f ListFrom.Start ++ zeros 10781)) ≡ zeros 10817
unfolding bool via below padded list_from_f enum ◌∣◌ nothing
no_header = ap (λ (x : List ℕ). 0 ∷ 0 ∷ x) (replicate-append-replicate 34 10781 0)

-- the tables of a pass that has staged, seen and observed nothing
tables_zero : enc_table 9161 [] ++ (enc_table 1057 [] ++ (enc_table 529 [] ++ (field 34 (option short_text) None ++ []))) ≡ zeros 10781
tables_zero = more_zeros 9161 1620 (tables.empty_zeros 9161 (omega arith)) (more_zeros 1057 563 (tables.empty_zeros 1057 (omega arith)) (more_zeros 529 34 (tables.empty_zeros 529 (omega arith)) (more_zeros 34 0 no_text refl)))

pub no_pass_bytes : flat (of_pass None) ≡ zeros 10817
unfolding is_some pass_of no_pass map
no_pass_bytes = ap (λ (x : List ℕ). field 1 bool false ++ (field 1 bool false ++ (field 34 list_from_f ListFrom.Start ++ x))) tables_zero ∙ no_header

from_cursor : (c : Option Cursor) → field 34 list_from_f (start_from c) ≡ field 34 (option short_text) c
unfolding start_from list_from_f option via enum ◌∣◌ nothing padded
from_cursor None = refl
from_cursor (Some c) = refl

pub new_pass_bytes : (c : Option Cursor) → flat (of_pass (Some (new_pass c))) ≡ (1 ∷ bool_from (not (is_some c)) ∷ []) ++ (field 34 (option short_text) c ++ zeros 10781)
unfolding new_pass is_some pass_of map bool via below padded
new_pass_bytes c = ap₂ (λ (x y : List ℕ). 1 ∷ bool_from (not (is_some c)) ∷ (x ++ y)) (from_cursor c) tables_zero

pub new_pass_fits : (c : Option Cursor) → (option short_text).Ok c → PassFits document01 (pass_of (Some (new_pass c)))
unfolding document01 rising keys map pass_of new_pass option via enum ◌∣◌ nothing
new_pass_fits c ok = record {
  from = start_from_ok c ok;
  staged = record { small = omega arith; each = tt; rises = tt };
  seen = record { small = omega arith; each = tt; rises = tt };
  observed = record { small = omega arith; each = tt; rises = tt };
  done = tt;
}
