-- Definitions of marks, and of maintainers with what each call leaves.
pub mod Maintainers
pub mod Marks
