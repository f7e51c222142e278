pub mod Shown
pub mod Rules
