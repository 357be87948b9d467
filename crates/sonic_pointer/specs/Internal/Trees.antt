-- What the fields of a `PointerTree` keep.
use Rattle.sonic_pointer.specs.Internal.TrieFields.{KeepsTree}
use Rattle.sonic_pointer.specs.declared.tree.PointerTree.TheInside.{Inside}

-- the paths, and a vertex for each of their prefixes
abbrev pub IsPointerTree : Inside → Type 0
IsPointerTree tree = KeepsTree tree.parts
