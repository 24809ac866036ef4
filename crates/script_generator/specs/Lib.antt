-- The definitions of the crate, file by file.
pub mod Draws
pub mod Generated
