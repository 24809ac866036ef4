-- Definitions of the marks of a vector and of what a note tells.
pub mod Marks
pub mod Notes
