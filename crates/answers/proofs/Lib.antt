-- The answers to writes.
pub mod Writes
-- The answers to reads.
pub mod Found
