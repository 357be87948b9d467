-- Paths of keys and indexes (compare RFC 6901, sections 3 and 4).
use Rattle.std.specs.Prelude.{ℕ, List}

-- a node of a path
pub data Node : Type 0 where
  key : List ℕ → Node
  index : ℕ → Node

-- a path: its nodes in order
abbrev pub Path : Type 0
Path = List Node
