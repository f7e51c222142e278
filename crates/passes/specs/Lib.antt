-- What the parts of the reading side do.
pub mod Reading
-- What the parts of a commit do.
pub mod Committing
