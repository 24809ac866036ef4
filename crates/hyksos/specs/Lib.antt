-- Definitions of sessions, of shelves, and of a turn.
pub mod Sessions
pub mod Shelves
pub mod Turns
pub mod Looking
