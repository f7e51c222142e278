-- What is lost with a restart, and asked for again.
pub mod Laws
