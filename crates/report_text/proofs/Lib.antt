-- The lemmas of the crate, file by file.
pub mod LineLemmas
pub mod LeftLemmas
pub mod Whole
pub mod SummaryLemmas
pub mod JsonLemmas
pub mod OrderLemmas
