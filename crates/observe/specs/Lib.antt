-- The names that are to be read.
pub mod Reading
-- What is observed of a resource.
pub mod Observing
-- What is forgotten at the end of a step.
pub mod Forgetting
