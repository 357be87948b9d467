-- What private clauses say of the bytes that are kept.
pub mod Kept
-- Of how much of a wide text is made.
pub mod Lines
-- Of the brackets, commas and colons of a text.
pub mod Marks
-- And of a text that is made piece by piece.
pub mod Outputs
