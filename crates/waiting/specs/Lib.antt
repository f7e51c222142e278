-- The queues of a state, and the words of the model for them.
pub mod Queues
-- The waiting entries' table in the work buffer, and where an entry stands in it.
pub mod Slots
pub mod Entries
-- Texts one behind the other.
pub mod Texts
-- What the readers of an entry give.
pub mod Reading
