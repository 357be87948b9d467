-- Lists of paths, which trees of paths denote, and what a prefix of a path is followed by.
use Rattle.std.specs.Prelude.{◌≡◌, ◌≢◌, ◌↔◌, ℕ, ◌≤◌, List, ◌∷◌, ◌++◌, Some, length, slice_get}
use Rattle.std.specs.List.{Contains, AllPairs}
use Rattle.std.specs.List.Sorted.{IsStrictlyIncreasing}
use Rattle.sonic_text.specs.Paths.{Node, Path}
use Rattle.sonic_pointer.specs.Nodes.{is_key}

-- it has no more nodes than a path of a tree may have
abbrev pub IsShort : Path → Type 0
IsShort path = length path ≤ 255

-- some path begins with the nodes of the prefix
pub record HasPrefix (paths : List Path) (prefix : Path) : Type 0 where
  pub rest : Path
  pub path : Contains paths (prefix ++ rest)

-- in some path this node follows the prefix
pub record HasNextNode (paths : List Path) (prefix : Path) (node : Node) : Type 0 where
  pub rest : Path
  pub path : Contains paths (prefix ++ node ∷ rest)

-- some path of the list has an equal prefix, followed by a node of the other kind
pub record IsMixed (paths : List Path) (path : Path) : Type 0 where
  pub prefix : Path
  pub node : Node
  pub rest : Path
  pub other : Node
  pub is : path ≡ prefix ++ node ∷ rest
  pub next : HasNextNode paths prefix other
  pub kinds : is_key other ≢ is_key node

-- the nodes that follow one prefix have one kind
abbrev pub IsUnmixed : List Path → Type 0
IsUnmixed paths = (prefix : Path) (a b : Node) → HasNextNode paths prefix a → HasNextNode paths prefix b → is_key a ≡ is_key b

-- the numbers of the paths that are equal to the prefix, rising
pub record IsOrders (paths : List Path) (prefix : Path) (orders : List ℕ) : Type 0 where
  pub rising : IsStrictlyIncreasing orders
  pub exact : (number : ℕ) → Contains orders number ↔ (slice_get paths number ≡ Some prefix)

-- the nodes that follow the prefix, each once
pub record IsChildren (paths : List Path) (prefix : Path) (children : List Node) : Type 0 where
  pub distinct : AllPairs ◌≢◌ children
  pub exact : (node : Node) → Contains children node ↔ HasNextNode paths prefix node
