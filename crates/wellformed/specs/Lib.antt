pub mod Across
pub mod Fields
pub mod Entries
pub mod Tests
pub mod IsState
