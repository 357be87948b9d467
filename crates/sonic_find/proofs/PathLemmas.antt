-- What specs/Paths.antt rests on.
-- a node leads on to one place or to none
pub mod Lead
-- under a rule for equal keys it leads on to one place or to none
pub mod Rule
-- a path has one outcome, and where that ends
pub mod Outcome
-- how the rules compare
pub mod Compare
