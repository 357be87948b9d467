-- What serves private clauses and invariants alone.
pub mod Bulks
pub mod Changed
pub mod Copies
pub mod Lends
pub mod Levels
pub mod Naturals
pub mod Seen
pub mod Unwritten
