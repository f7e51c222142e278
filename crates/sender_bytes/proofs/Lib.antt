-- A sender's bytes are lawful, have one length, and allow exactly the settled senders whose numbers fit.
pub mod BytesLaws
-- A sender's bytes and its struct: reading and writing agree.
pub mod StructLaws
-- A buffer read and written place by place.
pub mod PlaceLaws
-- What the tests say together.
pub mod SenderLaws
-- What the exported functions cite.
pub mod UseLaws
-- The theorems of specs/Calls.antt.
pub mod Theorems
