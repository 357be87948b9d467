pub mod AnyModeLemmas
mod AskedNode
mod CloneLemmas
mod CompactLemmas
mod ComparisonLemmas
pub mod DepthLemmas
pub mod DocumentLemmas
pub mod FillerLemmas
pub mod FillingLemmas
pub mod Folds
mod HeldLemmas
mod IndexLemmas
mod ItemLemmas
pub mod KeepingLemmas
pub mod LawLemmas
mod LentValues
mod LevelLemmas
mod Lists
mod NumberLemmas
pub mod OpenLemmas
mod OpenTextLemmas
pub mod OutcomeLemmas
pub mod PassedLemmas
mod PathLemmas
pub mod ReaderLemmas
pub mod ScalarLemmas
pub mod SchemaLemmas
pub mod StringLemmas
pub mod TreeLemmas
pub mod UnfilledLemmas
pub mod ValueCountLemmas
