-- Definitions of scripts of a log by itself, and of their runs.
pub mod Fits
pub mod Running
pub mod Sound
pub mod Keywords
pub mod Meaning
pub mod Text
pub mod Laws
