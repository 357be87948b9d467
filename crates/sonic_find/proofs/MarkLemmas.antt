-- What marks rest on, by the clauses of specs/Internal/Marks.antt and specs/Internal/Collected.antt.
-- what is seen of a node, item by item, and what that is when the container has closed
pub mod Seen
-- marks that stay as they are while others are set
pub mod Kept
-- the items of a container, one after the other
pub mod Passed
-- what the outcomes are that the marks come to
pub mod Collect
