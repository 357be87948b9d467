-- The direct parts of a value, and how the values of a document lie.
pub mod NodeLemmas
-- A document has at most one list of entries.
pub mod EntryLemmas
-- At each place a value of a document begins, or none does.
pub mod SearchLemmas
-- A valid document has a list of entries.
pub mod ListingLemmas
-- What the cells say of the entries that they keep.
pub mod CellLemmas
-- Where no value of a document begins.
pub mod GapLemmas
-- What a step of a walk adds to the cells.
pub mod WalkLemmas
-- Cells that keep the entries of a text are read as these.
pub mod KeptLemmas
-- What the cells say of the containers that are open.
pub mod AroundLemmas
-- What a walk has come to after a step, where the cells are its only stack.
pub mod PlaceLemmas
-- How the items of a value lie among the entries, and where a node leads by them.
pub mod ItemLemmas
-- What the cells say of the items of a value, and where a path leads by them.
pub mod PathLemmas
-- How the elements of an array are found by halving.
pub mod ElementLemmas
-- The members of wide objects: how they are gathered, ordered, and found by halving.
pub mod MemberLemmas
-- The members of wide objects, as the entries have them, and where a key leads by them.
pub mod MemberPathLemmas
