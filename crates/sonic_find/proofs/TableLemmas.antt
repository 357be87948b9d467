-- What tables rest on.
-- the container to which a path leads, and why there is none
pub mod Container
-- the rows, and what each says
pub mod Rows
