-- What the calls of indexers stand on: rows, tags, what is listed, and what is found.
pub mod NewestLemmas
pub mod TaggedLemmas
pub mod RowLemmas
pub mod LidLemmas
pub mod TagLemmas
pub mod FindLemmas
pub mod ScanLemmas
pub mod ListedLemmas
pub mod AnswerLemmas
pub mod PostedLemmas
