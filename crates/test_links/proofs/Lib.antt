-- What the rows stand on.
pub mod SenderRows
