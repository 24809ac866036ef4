-- What senders and stocks stand on.
pub mod Walking
pub mod Fitting
pub mod Placed
pub mod OneMessage
pub mod Least
