use Rattle.std.proofs.Common.{◌≡◌, length, get_or}
use Rattle.tables.specs.Table.{Table, Sized, enc_table, keeps, against}
use Rattle.tables.proofs.Laws as laws
use Rattle.tables.proofs.sift.Given as goal

abbrev pub invariant-loop-i : goal.invariant-loop-i
invariant-loop-i l = (length l.region ≡ length l.initial.region)
    × ((t : Table) → Sized l.stride t → l.initial.region ≡ enc_table (length l.initial.region) t
    → laws.Sieve (λ s. keeps l.above (against l.o l.pattern s)) l.stride t (length l.initial.region) l.region l.at l.i (get_or l.initial.region 0 0))
