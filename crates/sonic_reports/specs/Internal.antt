-- What serves private clauses and loop invariants alone.
pub mod Counted
pub mod EntryLines
pub mod Listed
pub mod Replies
pub mod Requests
