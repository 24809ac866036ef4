-- What the floor and its pins stand on.
pub mod PinLemmas
