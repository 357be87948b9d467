-- What serves private clauses and invariants alone.
pub mod Reading
