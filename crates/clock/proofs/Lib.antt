-- The entries of one queue.
pub mod Expiring
-- One queue at a tick, and all of them.
pub mod Ticking
