pub mod Codes
pub mod Errors
pub mod Kinds
pub mod Names
pub mod Places
pub mod Texts
