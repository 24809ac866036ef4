-- Definitions of what waits, and of what an append does.
pub mod Waiting
pub mod Appending
