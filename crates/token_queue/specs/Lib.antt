-- Definitions of items, of drains, of the token and queues, and of the room that a stamping takes.
pub mod Items
pub mod Drain
pub mod Queues
pub mod Room
