-- What is lent for a line, and what was written for it.
pub mod Replied
