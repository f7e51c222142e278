pub mod Fitted
pub mod FieldLaws
pub mod EntryLaws
pub mod Flights
pub mod States
