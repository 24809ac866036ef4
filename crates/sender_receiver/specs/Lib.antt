-- Definitions of stocks, of what is chosen, and of what is told.
pub mod Stocks
pub mod Choosing
pub mod Sending
