-- What serves private clauses and invariants alone.
pub mod Begun
pub mod Each
pub mod Items
pub mod Kept
pub mod Lists
pub mod Numbers
pub mod Owned
pub mod Patches
pub mod Texts
pub mod Told
