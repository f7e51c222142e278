-- What is left behind a value, by how its format is put together.
pub mod Laws
-- Numbers.
pub mod Numbers
