-- The texts of a document's spelling are documents, and mean the same.
pub mod DocumentLemmas
-- What is kept of a document is its small text.
mod KeptLemmas
-- What a mark makes of the wide text.
mod LaidLemmas
-- Lanes that are compared with some bytes at once.
mod PointLanes
-- The bits of a block are its marks.
mod MarkBits
-- What is between the marks of a document, and what is left to be made from there.
mod MarkLemmas
-- The bytes of a number are no white space and no brackets, commas or colons.
mod NumberBytes
-- What was made and what is left of a text, after a piece was added.
mod OutputLemmas
-- What a block adds to what is kept.
mod PickedLemmas
-- A row of the table puts together what its bits pick.
mod RowLemmas
-- Each value has one spelling, and values that are spelled alike mean one tree.
pub mod SpellingLemmas
-- The text of a spelling is spelled so.
pub mod SpreadLemmas
