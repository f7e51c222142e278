-- One function after another, of those that are lent the work buffer alone.
pub mod Changing
-- The changes of a page.
pub mod Listing
-- The changes of a page, one after the other.
pub mod Paging
-- Passes opened, gone on with and given up.
pub mod Passing
-- The answers to a listing and to a pass's read.
pub mod Answering
-- A loop over a table of the state.
pub mod Walking
-- The commit of a pass.
pub mod Committing
