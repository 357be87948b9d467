-- A tree with one part put in the place of another.
use Rattle.std.specs.Prelude.{ℕ, zero, suc, List, [], ◌∷◌, Some, None, nat_eq, if◌then◌else◌}
use Rattle.std.specs.Cmp.Lexicographic.{pointwise}
use Rattle.sonic_text.specs.declared.kind.Kind.TheVariants.{Array, Object}
use Rattle.sonic_text.specs.Paths.{Node, key, index, Path}
use Rattle.sonic_text.specs.Trees.{Tree, container, Items, no_item, item}

-- the element at a position changed, and the value of the first member with a key
abbrev pub change_at : ℕ → (Tree → Tree) → Items → Items
change_at n c no_item = no_item
change_at zero c (item l x xs) = item l (c x) xs
change_at (suc n) c (item l x xs) = item l x (change_at n c xs)

abbrev pub change_of : List ℕ → (Tree → Tree) → Items → Items
change_of k c no_item = no_item
change_of k c (item None x xs) = item None x (change_of k c xs)
change_of k c (item (Some l) x xs) = if pointwise nat_eq l k then item (Some l) (c x) xs else item (Some l) x (change_of k c xs)

-- the item that a node names
abbrev pub change_child : Node → (Tree → Tree) → Tree → Tree
change_child (index n) c (container Array xs) = container Array (change_at n c xs)
change_child (key k) c (container Object xs) = container Object (change_of k c xs)
change_child node c other = other

-- the tree w put where the path leads
abbrev pub put : Path → Tree → Tree → Tree
put [] w v = w
put (node ∷ rest) w v = change_child node (put rest w) v
