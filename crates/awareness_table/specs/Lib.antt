-- Definitions of what is known to be held.
pub mod Awareness
