-- What the service stands on.
pub mod TurnLemmas
pub mod RoomLemmas
pub mod ServedLemmas
pub mod ReadLemmas
pub mod OnceLemmas
pub mod TruthLemmas
