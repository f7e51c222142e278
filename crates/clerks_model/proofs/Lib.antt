-- A part of a merge.
pub mod Parts
-- The keys of lists whose addresses are apart.
pub mod FirstKeys
-- The entries of a merged list.
pub mod Entries
-- One entry merged.
pub mod OneEntry
-- The kinds of units.
pub mod UnitKinds
-- The second brings in changes only where the first left the base standing.
pub mod Standing
-- Who is named can.
pub mod Forced
-- Two updates with unlike values of a unit.
pub mod Values
-- How many entries a merged list has.
pub mod Counting
-- Who is not named can't.
pub mod Unforced
-- A frame's units, and the laws of its format.
pub mod Frames
-- A frame's entries by list, and the bytes of its names.
pub mod Keys
-- The refusals: their order, and their numbers.
pub mod Refusals
-- The theorems of specs/Claims.antt.
pub mod Theorems
