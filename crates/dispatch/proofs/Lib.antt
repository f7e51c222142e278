-- Which function handles which input and which answer.
pub mod Laws
