-- What can be read of a state, and the line that shows it.
pub mod Look
-- What the functions that write it promise.
pub mod Writes
