-- Definitions of the floor, pins, and what may be collected.
pub mod Floors
