-- What a call is lent and what it leaves, as the code has them.
pub mod Answers
-- The three demands.
pub mod Demands
-- Change request 9/13.
pub mod OwnAnswer
