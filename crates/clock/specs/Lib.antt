-- One queue as time passes.
pub mod Expiring
