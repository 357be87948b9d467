pub mod Internal
pub mod Nodes
pub mod Paths
pub mod Refusals
pub mod Views
