-- Outcomes whose events stand in the frame.
pub mod Valid
-- The answer to a read, in parts.
pub mod Reads
