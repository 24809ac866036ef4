-- What calls and laws of maintainers stand on: slots and positions, counts, marks, and each change.
pub mod MarkLemmas
pub mod Rising
pub mod SlotLemmas
pub mod PositionLemmas
pub mod MarkOf
pub mod LongerLemmas
pub mod PassLemmas
pub mod CountLemmas
pub mod LawLemmas
pub mod StateLemmas
pub mod CollectLemmas
pub mod OwnLemmas
pub mod AfterLemmas
