pub mod Internal
pub mod Spellings
pub mod Texts
