-- What values that wait and appends stand on: arrivals and bounds, the first that may go in, and the next own position.
pub mod SplitLemmas
pub mod ArrivalLemmas
pub mod TiedLemmas
pub mod AppendLemmas
pub mod BoundLemmas
pub mod LawLemmas
