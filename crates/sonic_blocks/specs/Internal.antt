-- What serves private clauses and invariants alone.
pub mod NumberMasks
pub mod StringBlocks
