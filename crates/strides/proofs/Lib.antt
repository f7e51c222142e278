-- What the walk over a table's slots gives, and what a count and a test of all of them are.
pub mod Walks
