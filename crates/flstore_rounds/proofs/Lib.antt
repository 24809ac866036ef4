-- What calls and laws of epochs and heads stand on.
pub mod EpochLemmas
pub mod HeadLemmas
pub mod OwnerLemmas
pub mod PrefixLemmas
pub mod TurnLemmas
