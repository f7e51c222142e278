-- What stands at the places of a frame's parts.
pub mod Frames
-- The attendee lists over bytes.
pub mod Entries
-- The bytes that name a party for each unit.
pub mod Names
-- What the functions of the two writes promise.
pub mod Writes
-- What two_clerks returns and leaves.
pub mod Returned
-- What is claimed of calls of it.
pub mod Claims
