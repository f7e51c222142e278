-- The frame.
pub mod Frame
-- The units, and their values.
pub mod Units
-- The two writes.
pub mod Writes
-- Who can force a unit.
pub mod Forcing
-- The party that is named.
pub mod Naming
-- What is answered to a frame.
pub mod Answer
-- What is claimed.
pub mod Claims
