-- What the laws of links stand on.
pub mod Carried
pub mod Full
