-- One function after another.
pub mod Runs
-- Effects and inserts.
pub mod Steps
-- A name by value.
pub mod Names
