-- A use as a frame, the answer to a line, and the sender after it.
pub mod Answers
-- What is claimed of frames and of lines that hold no use.
pub mod NoUse
-- What the functions promise.
pub mod Promises
