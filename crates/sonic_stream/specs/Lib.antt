pub mod Internal
pub mod Streams
