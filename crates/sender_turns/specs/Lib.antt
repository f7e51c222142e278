-- What a sender is, and what each use of it does.
pub mod Sender
-- What is claimed of it.
pub mod Claims
-- The sender as the code holds it, and what the methods promise.
pub mod Laid
-- What the functions below the methods promise.
pub mod Steps
-- What is claimed of lists of uses of the code.
pub mod Uses
