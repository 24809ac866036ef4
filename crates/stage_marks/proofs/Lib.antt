-- Why activation comes after all filters accepted.
pub mod Answering
