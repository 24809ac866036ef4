-- What the turns of sessions stand on.
pub mod Looks
