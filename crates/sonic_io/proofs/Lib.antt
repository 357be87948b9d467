pub mod BufferLemmas
pub mod OutsideLemmas
