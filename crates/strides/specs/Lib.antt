-- What the walk over a table's slots gives.
pub mod Walk
