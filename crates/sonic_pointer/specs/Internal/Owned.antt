-- What the fields of an `OwnedPath` denote, and what a tree is walked along.
use Rattle.std.specs.Prelude.{List, map}
use Rattle.sonic_text.specs.Paths.{Node, Path}
use Rattle.sonic_pointer.specs.Nodes.{owned_node, path_of}
use Rattle.sonic_pointer.specs.declared.owned.OwnedPath.TheInside.{Inside}
use Rattle.sonic_pointer.specs.declared.owned.Steps.{Steps}
use Rattle.sonic_pointer.specs.declared.owned.Steps.TheVariants.{Lent, Owned}

-- what a path that owns its keys is
abbrev pub owned_path : Inside → List Node
owned_path path = map owned_node path.nodes.items

-- the path that a tree is walked along
abbrev pub steps_of : Steps → Path
steps_of (Lent nodes) = path_of nodes.now
steps_of (Owned path) = path.now
