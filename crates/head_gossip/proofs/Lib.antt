-- What vectors stand on.
pub mod MarkLemmas
