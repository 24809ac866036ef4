-- The definitions of the crate, file by file.
pub mod Numbered
pub mod Lines
pub mod Values
pub mod Turns
pub mod Report
pub mod Summary
pub mod Json
pub mod Order
