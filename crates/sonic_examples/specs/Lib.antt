pub mod Around
pub mod Elements
pub mod Settings
pub mod Subjects
