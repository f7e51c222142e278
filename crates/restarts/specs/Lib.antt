-- Parts of `resume`.
pub mod Resuming
