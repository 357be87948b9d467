-- What serves private clauses and invariants alone.
pub mod Cells
pub mod IndexViews
pub mod Items
pub mod Members
pub mod Places
pub mod Walks
