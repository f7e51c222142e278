-- Where a listing goes on from: what an answer of `from` stands for. Assumes nothing.
use Rattle.std.specs.Prelude.{◌≤◌, length}
use Rattle.model.specs.Seam.{ListFrom}
use Rattle.pass_header.specs.declared.ListFrom.{ListFrom as From}
use Rattle.pass_header.specs.declared.ListFrom.TheVariants as from

abbrev pub from_in : From → ListFrom
from_in from.Start = ListFrom.Start
from_in (from.Since cursor) = ListFrom.Since cursor.now
from_in (from.Continue cursor) = ListFrom.Continue cursor.now

-- its text has at most 32 bytes
abbrev pub IsShort : From → Type 0
IsShort from.Start = Unit {0}
IsShort (from.Since cursor) = length cursor.now ≤ 32
IsShort (from.Continue cursor) = length cursor.now ≤ 32
