pub mod Fields
pub mod Entries
pub mod Places
pub mod Passes
pub mod Whole
-- A timestamp is eight bytes whose number is a time.
pub mod Stamps
pub mod Tells
