pub mod Entries
pub mod Internal
pub mod Nodes
