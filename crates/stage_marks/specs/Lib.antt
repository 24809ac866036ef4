-- The announcement of a datacentre.
pub mod Marks
