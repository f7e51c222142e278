-- The regions of a state, one after the other, are the model's bytes.
pub mod Bytes
