-- Which errors of an iterator are honest.
pub mod HonestLemmas
-- How the items of a container are passed one after the other.
pub mod ItemLemmas
-- What a call of `next` gives of an iterator.
pub mod IteratorLemmas
-- A container has one list of items, with one end or one error.
pub mod ListingLemmas
-- What a document says of the number that it may be.
pub mod RawNumberLemmas
-- What the first byte says of a whole value.
pub mod ScalarLemmas
-- Which lazy values show an answer.
pub mod ShownLemmas
-- What paths come to in a text that is known to start with a value.
pub mod UncheckedLemmas
-- What a lazy value holds.
pub mod WholeLemmas
