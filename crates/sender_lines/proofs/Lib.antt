-- Laws of a use's frame and of the answer's text.
pub mod Laws
-- What is answered to a line that holds no use.
pub mod Theorems
