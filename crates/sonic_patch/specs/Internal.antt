-- What serves private clauses and loop invariants alone.
pub mod Elements
pub mod Judged
pub mod Pieces
pub mod Plans
pub mod Refusals
pub mod Resolved
pub mod Texts
pub mod Tags
pub mod Walks
pub mod Steps
pub mod Marks
pub mod Stacks
