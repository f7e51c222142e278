use Rattle.attendees.specs.Entries.{side_bytes}
use Rattle.attendees.proofs.Laws as laws
use Rattle.pens.proofs.Laws as pens
use mathlib.Core.Path.{ap}
use mathlib.Core.List.{List, [], ◌∷◌, ◌++◌}
use Prim.Native.Nat.{ℕ}
use lib.ListN.{length}
use Rattle.attendees.proofs.reporting.entry_conflict.Goals as goal

pub text-p-requires : goal.text-p-requires
text-p-requires c = laws.shown_short c.args.b.now c.args.o.now c.args.t.now _ c.display_address.ensures.bytes

pub shape_of-out : goal.shape_of-out
shape_of-out c = (pens.wrote_then (pens.wrote_then c.byte.ensures (pens.wrote_then c.byte-2.ensures c.text-p.ensures)) (pens.wrote_then c.side-x.ensures (pens.wrote_then c.side-y.ensures c.side-q.ensures))).long

pub returns : goal.returns
returns c = pens.listed_as (pens.listed_one _ _ (pens.wrote_then (pens.wrote_then c.byte.ensures (pens.wrote_then c.byte-2.ensures c.text-p.ensures)) (pens.wrote_then c.side-x.ensures (pens.wrote_then c.side-y.ensures c.side-q.ensures))) c.more-n.ensures) (ap (λ (a : List ℕ). ((4 ∷ 1 ∷ length a ∷ a) ++ (side_bytes c.args.b.now ++ (side_bytes c.args.o.now ++ side_bytes c.args.t.now))) ∷ []) c.display_address.ensures.bytes)
