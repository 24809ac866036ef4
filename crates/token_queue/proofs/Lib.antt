-- What calls and laws of the token and queues stand on: lists, items, drains, stampings, dealing.
pub mod ListLemmas
pub mod ItemLemmas
pub mod DrainLemmas
pub mod RoomLemmas
pub mod TokenLemmas
pub mod Stamping
pub mod QueueLemmas
pub mod Dealing
