-- Lemmas of single steps.
pub mod Opening
pub mod Drafts
pub mod Nth
pub mod Inserting
pub mod Taken
