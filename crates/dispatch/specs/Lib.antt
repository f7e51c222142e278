-- The inputs by their names.
pub mod Inputs
