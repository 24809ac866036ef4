-- Definitions of rows, of indexers, of what an indexer has of a log, and of tag indexes.
pub mod Rows
pub mod Indexers
pub mod Indexed
pub mod TagIndexes
