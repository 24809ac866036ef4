-- Definitions of epochs and owners, and of marks and heads.
pub mod Epochs
pub mod Heads
