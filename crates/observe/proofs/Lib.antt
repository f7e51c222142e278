-- A loop over a list.
pub mod Each
-- The open pass, and the names to be read.
pub mod Reading
-- What is observed of a resource.
pub mod Observing
-- Names and events that stand in bytes.
pub mod Parts
-- The answer to a Refresh.
pub mod Refreshing
-- What is forgotten.
pub mod Forgetting
