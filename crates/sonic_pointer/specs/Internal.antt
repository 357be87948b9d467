-- What serves private clauses and invariants alone.
pub mod Fields
pub mod Nodes
pub mod Owned
pub mod Pieces
pub mod Targets
pub mod Trees
pub mod TrieFields
pub mod Tries
pub mod Vertices
