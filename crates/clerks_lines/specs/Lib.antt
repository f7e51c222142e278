-- The answer to a frame as text.
pub mod Text
