-- What serves private clauses and invariants alone.
pub mod Blocks
pub mod Containers
pub mod DescentViews
pub mod Skipping
pub mod Spaces
pub mod StringsAhead
pub mod Unchecked
pub mod Views
