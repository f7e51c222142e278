-- The bytes of a sender, and what a use of them answers and leaves.
pub mod Bytes
-- The struct that bytes stand for, and what the functions promise.
pub mod Read
-- What the functions test of a struct.
pub mod Check
-- What is claimed of a sender's bytes and of lists of calls.
pub mod Calls
