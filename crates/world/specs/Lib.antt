pub mod Links
pub mod Replays
pub mod Settled
pub mod Showing
pub mod Taking
