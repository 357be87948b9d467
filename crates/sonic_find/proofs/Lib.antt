-- What the answers of a list of paths rest on: one answer, the answer of a walk, and the causes of a refusal.
pub mod AnswerLemmas
-- What the quick look at the items of a table rests on.
pub mod ColumnLemmas
-- Whether a text is a valid document, and the one reason why it is none.
pub mod DocumentLemmas
-- How the slots of many paths are filled in a text that starts with a value.
pub mod FillLemmas
-- What is found, as spans of the caller's.
pub mod FindingLemmas
-- What one path alone comes to, and where it stops.
pub mod GetLemmas
-- Which errors are honest.
pub mod HonestLemmas
-- What the marks of prefixes say of values that have to be whole.
pub mod MarkLemmas
-- Where a path leads in the text of a value.
pub mod PartLemmas
-- Where a node leads on to, and the one outcome of a path.
pub mod PathLemmas
-- What comes before and after the items of a whole container.
pub mod SeparatorLemmas
-- What tables rest on: rows, and containers.
pub mod TableLemmas
-- What paths come to in a text that is known to start with a value.
pub mod UncheckedLemmas
-- Which parts of a text in UTF-8 are UTF-8.
pub mod Utf8Lemmas
-- Which children were visited, as the bits of a word say it.
pub mod VisitLemmas
-- The turns of a walk, a file for each.
pub mod WalkLemmas
