-- What serves private clauses and invariants alone.
pub mod Parted
pub mod Reading
