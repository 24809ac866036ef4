-- What calls and laws of filters stand on: shares, what is held and passed, sums, marks.
pub mod ShareLemmas
pub mod Tests
pub mod Reached
pub mod FilterLemmas
pub mod HeldLemmas
pub mod Running
pub mod LawsLemmas
pub mod SumLemmas
pub mod MarkLemmas
pub mod Releasing
pub mod Losing
pub mod GrowthLemmas
