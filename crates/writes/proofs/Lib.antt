-- Requests to write.
pub mod Requests
-- The parts of an entry that a merge is lent, and what it fills.
pub mod Merges
-- Entries that follow their resource to another name.
pub mod Inserts
pub mod Moves
pub mod Behind
-- Planning.
pub mod Plans
pub mod Entries
pub mod Planning
