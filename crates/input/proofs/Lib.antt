pub mod Laws
-- The splitter hands out an input's lines, however the input is cut into chunks.
pub mod Theorems
-- What a program holds, line after line.
pub mod Serving
-- An input's one line.
pub mod OnlyLaws
