-- Definitions of the wire form, of its parts and fields, and of what a reader has taken.
pub mod Fields
pub mod Parts
pub mod Reading
pub mod Starts
pub mod Wire
