-- Definitions of links.
pub mod Links
