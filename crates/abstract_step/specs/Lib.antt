-- What it is that a world takes an event.
pub mod Taking
