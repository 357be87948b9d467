pub mod Buffers
pub mod Memory
pub mod Outside
pub mod System
