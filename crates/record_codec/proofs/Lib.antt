-- What the wire form stands on: numbers and texts, parts and how they are joined, fields, records and messages.
pub mod Shared
pub mod Numbers
pub mod Composing
pub mod Texts
pub mod Several
pub mod Places
pub mod Fields
pub mod Rising
pub mod Told
pub mod Heads
pub mod Records
pub mod Starts
pub mod Messages
pub mod Wholes
pub mod Pieces
pub mod TwoTexts
pub mod Sizes
