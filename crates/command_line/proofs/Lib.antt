-- The lemmas of the crate, file by file.
pub mod Taken
pub mod Seeds
pub mod Examples
pub mod Tasks
pub mod Plain
pub mod Walks
pub mod AskedLemmas
pub mod Hyphens
