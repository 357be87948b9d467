-- Where a path leads in a tree (compare RFC 6901, section 4).
use Rattle.std.specs.Prelude.{ℕ, zero, suc, List, [], ◌∷◌, Option, Some, None, nat_eq, if◌then◌else◌}
use Rattle.std.specs.Cmp.Lexicographic.{pointwise}
use Rattle.std.specs.Option.{option_and_then}
use Rattle.sonic_text.specs.declared.kind.Kind.TheVariants.{Array, Object}
use Rattle.sonic_text.specs.Paths.{Node, key, index, Path}
use Rattle.sonic_text.specs.Trees.{Tree, container, Items, no_item, item}

-- the element at a position, and the value of the first member with a key
abbrev pub element_at : ℕ → Items → Option Tree
element_at n no_item = None
element_at zero (item l x xs) = Some x
element_at (suc n) (item l x xs) = element_at n xs

abbrev pub member_of : List ℕ → Items → Option Tree
member_of k no_item = None
member_of k (item None x xs) = member_of k xs
member_of k (item (Some l) x xs) = if pointwise nat_eq l k then Some x else member_of k xs

-- the item that a node names: the element of an array with the index, the first member of an object with the key
abbrev pub child : Node → Tree → Option Tree
child (index n) (container Array xs) = element_at n xs
child (key k) (container Object xs) = member_of k xs
child node other = None

-- the tree that the path leads to, item by item, or nothing
abbrev pub leads : Tree → Path → Option Tree
leads v [] = Some v
leads v (node ∷ rest) = option_and_then (λ w. leads w rest) (child node v)
