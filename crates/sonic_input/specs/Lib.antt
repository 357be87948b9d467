pub mod Internal
pub mod ReadStates
pub mod Slices
