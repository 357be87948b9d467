-- What a tree of paths keeps: its paths, and a vertex for each of their prefixes.
use Rattle.std.specs.Prelude.{◌≡◌, ℕ, zero, suc, ◌+◌, ◌-◌, ◌<◌, ◌≤◌, List, [], ◌∷◌, ◌++◌, length, map, take, drop, slice_index_or}
use Rattle.std.specs.List.{All, AllPairs, Contains, insert, range_with_len}
use Rattle.std.specs.declared.cmp.Ordering.TheVariants.{Less}
use Rattle.sonic_text.specs.Paths.{Node, index, Path}
use Rattle.sonic_pointer.specs.Internal.Nodes.{node_cmp}
use Rattle.sonic_pointer.specs.Paths.{HasNextNode, HasPrefix, IsOrders, IsShort, IsUnmixed}

-- a kept vertex: the number of its parent, the node by which it follows it, and the numbers of the paths that end here and of its children
pub record Entry : Type 0 where
  pub parent : ℕ
  pub node : Node
  pub orders : List ℕ
  pub children : List ℕ

-- a vertex with its prefix
pub record Spot : Type 0 where
  pub prefix : Path
  pub orders : List ℕ
  pub children : List ℕ

-- the vertex with this number
abbrev pub entry_at : List Entry → ℕ → Entry
entry_at entries number = slice_index_or entries number (record { parent = 0; node = index 0; orders = []; children = [] })

-- the nodes by which the vertex with this number is reached from the root, which has the number 0, of so many of them at most
abbrev pub way : List Entry → ℕ → ℕ → Path
way entries zero number = []
way entries (suc most) zero = []
way entries (suc most) (suc before) = way entries most (entry_at entries (suc before)).parent ++ (entry_at entries (suc before)).node ∷ []

-- all of them, as a parent has a number below
abbrev pub prefix_of : List Entry → ℕ → Path
prefix_of entries number = way entries number number

-- the vertex with this number and its prefix
abbrev pub spot_of : List Entry → ℕ → Spot
spot_of entries number = record { prefix = prefix_of entries number; orders = (entry_at entries number).orders; children = (entry_at entries number).children }

-- all the vertices that are kept
abbrev pub spots_of : List Entry → List Spot
spots_of entries = map (spot_of entries) (range_with_len 0 (length entries))

-- the paths that end at these vertices
abbrev pub paths_of : List Entry → List ℕ → List Path
paths_of entries ends = map (prefix_of entries) ends

-- the vertex with this number
abbrev pub spot_at : List Spot → ℕ → Spot
spot_at spots number = slice_index_or spots number (record { prefix = []; orders = []; children = [] })

-- its prefix
abbrev pub prefix_at : List Spot → ℕ → Path
prefix_at spots number = (spot_at spots number).prefix

-- the prefixes of all vertices, by their numbers
abbrev pub prefixes_of : List Spot → List Path
prefixes_of spots = map (λ (spot : Spot). spot.prefix) spots

-- the last node of a path that isn't empty
abbrev pub last_node : Path → Node
last_node path = slice_index_or path (length path - 1) (index 0)

-- the node by which the vertex with this number follows its parent
abbrev pub label_at : List Spot → ℕ → Node
label_at spots number = last_node (prefix_at spots number)

-- the nodes by which a vertex is followed
abbrev pub labels : List Spot → Spot → List Node
labels spots spot = map (label_at spots) spot.children

-- the vertex with this number follows the prefix by one node
pub record IsChildVertex (spots : List Spot) (prefix : Path) (number : ℕ) : Type 0 where
  pub below : number < length spots
  pub is : prefix_at spots number ≡ prefix ++ label_at spots number ∷ []

-- a node comes before another
abbrev pub IsBefore : Node → Node → Type 0
IsBefore a b = node_cmp a b ≡ Less

-- the vertex has the orders of its prefix, and a child for each node that follows it, sorted
pub record IsSpot (paths : List Path) (spots : List Spot) (spot : Spot) : Type 0 where
  pub orders : IsOrders paths spot.prefix spot.orders
  pub steps : All (IsChildVertex spots spot.prefix) spot.children
  pub sorted : AllPairs IsBefore (labels spots spot)
  pub complete : (node : Node) → HasNextNode paths spot.prefix node → Contains (labels spots spot) node

-- vertex 0 has the empty prefix, and no two vertices have the same
pub record IsTrie (paths : List Path) (spots : List Spot) : Type 0 where
  pub some : 0 < length spots
  pub root : prefix_at spots 0 ≡ []
  pub all : (number : ℕ) → number < length spots → IsSpot paths spots (spot_at spots number)
  pub distinct : (i j : ℕ) → i < length spots → j < length spots → prefix_at spots i ≡ prefix_at spots j → i ≡ j

-- where a node is among others, or would be
pub record IsGap (nodes : List Node) (node : Node) (position : ℕ) : Type 0 where
  pub fits : position ≤ length nodes
  pub before : (k : ℕ) (d : Node) → k < position → IsBefore (slice_index_or nodes k d) node
  pub after : (k : ℕ) (d : Node) → position ≤ k → k < length nodes → IsBefore node (slice_index_or nodes k d)

-- the vertex, once the path with this number ends there
abbrev pub with_order : Entry → ℕ → Entry
with_order entry number = record entry { orders = entry.orders ++ number ∷ [] }

-- the vertex, with one more child
abbrev pub with_child : Entry → ℕ → ℕ → Entry
with_child entry position child = record entry { children = insert entry.children position child }

-- the parent of a new vertex, where those before it are new from the number first on, and the first of them follows the vertex at
abbrev pub parent_of : ℕ → ℕ → ℕ → ℕ
parent_of at first zero = at
parent_of at first (suc j) = first + j

-- the new vertices of a path, from the number first on: one for each node below the depth where it leaves the tree, after the vertex at
pub record IsChain (number at first depth : ℕ) (path : Path) (chain : List Entry) : Type 0 where
  pub long : length chain ≡ length path - depth
  pub inner : (j : ℕ) → j + 1 < length path - depth
      → entry_at chain j ≡ record { parent = parent_of at first j; node = slice_index_or path (depth + j) (index 0); orders = []; children = (first + j + 1) ∷ [] }
  pub last : (j : ℕ) → j + 1 ≡ length path - depth
      → entry_at chain j ≡ record { parent = parent_of at first j; node = slice_index_or path (depth + j) (index 0); orders = number ∷ []; children = [] }

-- the new vertices of a path were appended, where the root comes before the old ones
pub record HasChain (number at depth : ℕ) (path : Path) (old new : List Entry) : Type 0 where
  pub kept : take (length old) new ≡ old
  pub is_chain : IsChain number at (length old + 1) depth path (drop (length old) new)

-- the parent of each vertex but the root has a number below
abbrev pub AreBelow : List Entry → Type 0
AreBelow entries = (number : ℕ) → 0 < number → number < length entries → (entry_at entries number).parent < number

-- the vertices, and the paths that are kept
pub record IsTree (paths : List Path) (entries : List Entry) : Type 0 where
  pub below : AreBelow entries
  pub used : (number : ℕ) → 0 < number → number < length entries → HasPrefix paths (prefix_of entries number)
  pub trie : IsTrie paths (spots_of entries)
  pub short : All IsShort paths
  pub unmixed : IsUnmixed paths
