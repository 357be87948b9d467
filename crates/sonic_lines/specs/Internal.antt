-- What the inner functions and the invariant of `Rows` say.
pub mod Held
pub mod Rows
