-- What is written for lines, and the state after them.
pub mod Serves
