-- What serves private clauses and loop invariants alone.
pub mod Items
pub mod Shown
