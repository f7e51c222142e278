-- Laws of the answer's text.
pub mod Laws
