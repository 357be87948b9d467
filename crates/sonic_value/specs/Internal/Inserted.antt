-- What is put in where a key has no member.
use Rattle.std.specs.Prelude.{◌≡◌, Ok, IsSome}
use Rattle.sonic_text.specs.Paths.{Node}
use Rattle.sonic_text.specs.TreePaths.{child}
use Rattle.sonic_text.specs.Trees.{Tree}
use Rattle.sonic_value.specs.Indexing.{with_node}

-- the second tree is that in which the node names a value. Clauses of private calls alone cite this
pub record IsInserted (node : Node) (x y : Tree) : Type 0 where
  pub base : with_node node x ≡ Ok y
  pub there : IsSome (child node y)
