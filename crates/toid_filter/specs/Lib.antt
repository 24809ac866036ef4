-- Definitions of champions, of filters and what a take leaves, and of marks and sums.
pub mod Champions
pub mod Filters
pub mod Laws
pub mod Sums
pub mod Marks
pub mod Growth
