-- A kept tree as its calls read it.
use Rattle.std.specs.Prelude.{◌≡◌, ◌≢◌, ℕ, ◌<◌, ◌≤◌, List, ◌∷◌, length, set, take, drop, slice_index_or}
use Rattle.std.specs.List.{All}
use Rattle.sonic_text.specs.Paths.{Node, index, Path}
use Rattle.sonic_pointer.specs.Nodes.{is_key}
use Rattle.sonic_pointer.specs.Paths.{HasNextNode, IsMixed}
use Rattle.sonic_pointer.specs.Internal.Tries.{Entry, Spot, paths_of, spots_of, spot_at, prefix_at, label_at, labels, entry_at, with_child, IsChildVertex, IsGap, IsChain, IsTree}
use Rattle.sonic_pointer.specs.declared.insert.Parts.{Parts}
use Rattle.sonic_pointer.specs.declared.trie.Trie.{Trie}
use Rattle.sonic_pointer.specs.declared.trie.InsertionPoint.{InsertionPoint}

-- its vertices, the root first
abbrev pub entries_of : Trie → List Entry
entries_of trie = trie.root.now ∷ trie.vertices.now

-- its paths
abbrev pub trie_paths : Trie → List Path
trie_paths trie = paths_of (entries_of trie) trie.ends.now

-- the vertices that a tree keeps, the root first
abbrev pub kept_entries : Parts → List Entry
kept_entries parts = parts.root ∷ parts.vertices.items

-- and its paths
abbrev pub kept_paths : Parts → List Path
kept_paths parts = paths_of (kept_entries parts) parts.ends.items

-- they hold a tree, in which paths end
pub record HoldsTree (trie : Trie) : Type 0 where
  pub inside : All (λ (at : ℕ). at < length (entries_of trie)) trie.ends.now
  pub tree : IsTree (trie_paths trie) (entries_of trie)

-- the same of what is kept
pub record KeepsTree (parts : Parts) : Type 0 where
  pub inside : All (λ (at : ℕ). at < length (kept_entries parts)) parts.ends.items
  pub tree : IsTree (kept_paths parts) (kept_entries parts)

-- its vertices with their prefixes
abbrev pub trie_spots : Trie → List Spot
trie_spots trie = spots_of (entries_of trie)

-- the nodes that follow a vertex
abbrev pub trie_labels : Trie → ℕ → List Node
trie_labels trie at = labels (trie_spots trie) (spot_at (trie_spots trie) at)

-- these are the numbers of the children of a vertex: each follows it by one node
pub record AreKids (trie : Trie) (at : ℕ) (kids : List ℕ) : Type 0 where
  pub count : length (trie_labels trie at) ≡ length kids
  pub steps : (k : ℕ) → k < length kids → IsChildVertex (trie_spots trie) (prefix_at (trie_spots trie) at) (slice_index_or kids k 0)
  pub below : (k : ℕ) → k < length kids → slice_index_or kids k 0 < length (entries_of trie)
  pub nodes : (k : ℕ) (d : Node) → k < length kids → slice_index_or (trie_labels trie at) k d ≡ label_at (trie_spots trie) (slice_index_or kids k 0)

-- some node of the other kind follows the vertex
pub record HasOtherKind (trie : Trie) (at : ℕ) (node : Node) : Type 0 where
  pub other : Node
  pub next : HasNextNode (trie_paths trie) (prefix_at (trie_spots trie) at) other
  pub kinds : is_key other ≢ is_key node

-- the path leaves the tree here, and mixes with no path of it
pub record IsInsertionPoint (paths : List Path) (entries : List Entry) (path : Path) (point : InsertionPoint) : Type 0 where
  pub inside : point.at < length entries
  pub deep : point.depth ≤ length path
  pub prefix : prefix_at (spots_of entries) point.at ≡ take point.depth path
  pub gap : point.depth < length path
      → IsGap (labels (spots_of entries) (spot_at (spots_of entries) point.at)) (slice_index_or path point.depth (index 0)) point.position
  pub unmixed : ¬ IsMixed paths path

-- new vertices for a path, which gets this number, follow the old ones, from a new child of the vertex where the path leaves
pub record Branches (number : ℕ) (old new : List Entry) (point : InsertionPoint) (path : Path) : Type 0 where
  pub kept : take (length old) new ≡ set old point.at (with_child (entry_at old point.at) point.position (length old))
  pub is_chain : IsChain number point.at (length old) point.depth path (drop (length old) new)
