-- What the quick look at the items of a table rests on.
-- the first of sixteen bytes that differ
pub mod Bytes
-- the keys of columns
pub mod Keys
-- a key that is at another place, too
pub mod Moved
-- the row of an item
pub mod Rows
-- the members of an object
pub mod Members
-- the rows of a table
pub mod Table
