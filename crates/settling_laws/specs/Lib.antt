-- What the rounds of settling leave, and how settling ends.
pub mod Rounds
pub mod Ending
