-- The tests of bytes that the code makes.
pub mod Tests
-- What the bytes of each region are.
pub mod Inside
