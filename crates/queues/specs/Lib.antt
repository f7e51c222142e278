-- Encoded values where they stand.
pub mod Parts
-- What is done to the head of a queue.
pub mod Heads
-- Edits that are folded into others.
pub mod Folding
-- The statements of `enqueue`.
pub mod Enqueue
