-- From what the functions promise to the model's `entry`.
pub mod Laws
pub mod Entry
-- The three demands.
pub mod Theorems
-- Change request 9/13.
pub mod OwnAnswer
