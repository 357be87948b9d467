mod Deciding
mod HeadLemmas
pub mod Heads
pub mod LineNodes
pub mod LineOutcomes
pub mod LineTests
pub mod MixedPaths
pub mod OneHead
pub mod SaidLemmas
