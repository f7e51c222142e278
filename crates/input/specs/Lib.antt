-- The lines of an input, and the splitter.
pub mod Input
-- What the functions promise.
pub mod Ready
-- What a program holds after some lines of some input.
pub mod Served
-- The one line of an input.
pub mod Only
