-- The laws of runs, and the words that they are told in.
pub mod Laws
pub mod Writes
pub mod Records
pub mod Lawful
