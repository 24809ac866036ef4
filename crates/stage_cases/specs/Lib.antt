-- The scripts of the cases, and what they are to give.
pub mod Pieces
pub mod Reading
pub mod Linking
pub mod Joining
pub mod Fitting
pub mod Idling
pub mod Sharing
pub mod Limits
