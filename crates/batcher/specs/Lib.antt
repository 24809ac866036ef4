-- Definitions of where items go.
pub mod Batchers
