-- What the table of what is known stands on.
pub mod Known
