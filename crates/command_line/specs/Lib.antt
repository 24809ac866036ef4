-- The definitions of the crate, file by file.
pub mod Command
pub mod Words
pub mod Asked
