mod BranchLemmas
mod InsertLemmas
mod InsertionLemmas
mod NodeLemmas
mod PathLemmas
mod PiecesLemmas
mod PrefixLemmas
mod VertexLemmas
mod ShapeLemmas
mod TargetLemmas
pub mod TreeLemmas
mod TrieLemmas
mod WayLemmas
mod CommitLemmas
mod ChainLemmas
