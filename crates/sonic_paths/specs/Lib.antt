pub mod Heads
pub mod Internal
pub mod Laws
pub mod Lines
