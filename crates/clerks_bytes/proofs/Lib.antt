-- Laws of the frame's places.
pub mod FrameLaws
-- Laws of the attendee lists.
pub mod EntryLaws
-- Laws of the names' definitions.
pub mod NameLaws
-- The code's bytes are the model's names.
pub mod Naming
-- Laws of the two writes.
pub mod WriteLaws
-- Laws of a line.
pub mod LineLaws
-- What is answered to a frame.
pub mod JudgeLaws
-- Laws of the lent buffers.
pub mod BufferLaws
-- The theorems of specs/Claims.antt.
pub mod Theorems
