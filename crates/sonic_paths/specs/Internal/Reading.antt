-- What the reader of a path line knows: private clauses and an invariant, on which no public clause rests.
use Rattle.std.specs.Prelude.{◌≡◌, ℕ, ◌≤◌, List, ◌++◌, length}
use Rattle.std.specs.declared.option.Option.{Option}
use Rattle.std.specs.declared.option.Option.TheVariants.{Some, None}
use Rattle.sonic_text.specs.declared.kind.Kind.TheVariants.{Array}
use Rattle.sonic_text.specs.Paths.{Node, Path}
use Rattle.sonic_text.specs.Trees.{Tree, Items, Means, ItemsMean}
use Rattle.sonic_parser.specs.Parsers.{ParserState}
use Rattle.sonic_pointer.specs.Nodes.{owned_node}
use Rattle.sonic_pointer.specs.declared.owned.OwnedNode.{OwnedNode}
use Rattle.sonic_pointer.specs.declared.owned.OwnedPath.{OwnedPath}
use Rattle.sonic_paths.specs.Lines.{SaysNode, SayNodes, IsNodeArray}

-- from i to j is a value that says this node
abbrev pub IsNodeAt : List ℕ → ℕ → ℕ → Node → Type 0
IsNodeAt t i j node = (x : Tree) × Means t i j x × SaysNode x node

-- from h on are items of an array that say this path, up to a closing bracket that ends at j
abbrev pub AreNodesAt : List ℕ → ℕ → ℕ → Path → Type 0
AreNodesAt t h j path = (xs : Items) × ItemsMean t Array h j xs × SayNodes xs path

-- the value at the cursor was passed and says this node, or it says none
abbrev pub IsNodeRead : ParserState → ParserState → Option OwnedNode → Type 0
IsNodeRead before now (Some node) = IsNodeAt before.text before.place now.place (owned_node node)
IsNodeRead before now None = (j : ℕ) (node : Node) → ¬ IsNodeAt before.text before.place j node

-- the array at the cursor was passed and says this path of at most 255 nodes, or it says none
abbrev pub IsArrayRead : ParserState → ParserState → Option OwnedPath → Type 0
IsArrayRead before now (Some path) = (length path ≤ 255) × IsNodeArray before.text before.place now.place path
IsArrayRead before now None = (j : ℕ) (path : Path) → length path ≤ 255 → ¬ IsNodeArray before.text before.place j path

-- the array at i says the path so far and then what the items from h on say, and nothing else
pub record IsPathSoFar (t : List ℕ) (i h : ℕ) (path : Path) : Type 0 where
  pub more : (j : ℕ) (rest : Path) → AreNodesAt t h j rest → IsNodeArray t i j (path ++ rest)
  pub only : (j : ℕ) (whole : Path) → IsNodeArray t i j whole → (rest : Path) × (whole ≡ path ++ rest) × AreNodesAt t h j rest
