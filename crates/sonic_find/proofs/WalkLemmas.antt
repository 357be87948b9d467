-- What the turns of a walk rest on, by the clauses of specs/Internal/Walk.antt.
-- lists in which places are set
pub mod List
-- the paths with a prefix, and which of them are settled
pub mod Path
-- a value in which no path goes on, and the first item of a container
pub mod Start
-- an item, and what follows it
pub mod Step
-- an item that is visited for its child
pub mod Child
-- the slots of paths that go on alike
pub mod Settle
-- the end of a container, and the paths that end at a value
pub mod End
