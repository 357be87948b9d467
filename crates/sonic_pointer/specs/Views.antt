-- A vertex of a tree, as its callers see it.
use Rattle.std.specs.Prelude.{◌≡◌, ◌⊎◌, ◌<◌, ◌≤◌, ◌-◌, ◌^◌, ℕ, Bool, true, false, List, Some, slice_get}
use Rattle.sonic_text.specs.Paths.{Node, index}
use Rattle.sonic_pointer.specs.Nodes.{is_key}
use Rattle.sonic_pointer.specs.Paths.{HasNextNode}
use Rattle.sonic_pointer.specs.declared.branch.Branch.{Branch}
use Rattle.sonic_pointer.specs.declared.branch.Branch.TheVariants.{Leaf, Keys, Indexes}

-- each prefix of a list has one number in it
abbrev pub HaveOneNumber : List (List Node) → Type 0
HaveOneNumber prefixes = (i j : ℕ) (prefix : List Node) → slice_get prefixes i ≡ Some prefix → slice_get prefixes j ≡ Some prefix → i ≡ j

-- the tree's paths, the prefixes of these by their numbers, one of them, and the nodes that follow it
pub record View : Type 0 where
  pub paths : List (List Node)
  pub prefixes : List (List Node)
  pub prefix : List Node
  pub children : List Node

-- some node follows the prefix, and all that do are of this kind
pub record HasKind (paths : List (List Node)) (prefix : List Node) (kind : Bool) : Type 0 where
  pub node : Node
  pub next : HasNextNode paths prefix node
  pub all : (other : Node) → HasNextNode paths prefix other → is_key other ≡ kind

-- what follows a prefix: nothing, keys alone, or indexes alone
abbrev pub IsBranch : List (List Node) → List Node → Branch → Type 0
IsBranch paths prefix Leaf = (node : Node) → ¬ HasNextNode paths prefix node
IsBranch paths prefix Keys = HasKind paths prefix true
IsBranch paths prefix Indexes = HasKind paths prefix false

-- no child is the index n, nor one behind it before `next`, which is the next child, or the largest number where there is none
pub record IsNextIndex (view : View) (n next : ℕ) : Type 0 where
  pub absent : ¬ HasNextNode view.paths view.prefix (index n)
  pub none_before : (k : ℕ) → n ≤ k → k < next → ¬ HasNextNode view.paths view.prefix (index k)
  pub reached : (next ≡ 2 ^ 64 - 1) ⊎ (n < next) × (i : ℕ) × (slice_get view.children i ≡ Some (index next))
