-- What a merge is planned from, and what it leaves.
pub mod Plans
-- Entries that follow their resource to another name.
pub mod Moves
