-- What comes of a schema that is filled with data.
use Rattle.std.specs.Prelude.{ℕ, Bool, false, ◌||◌, List, Option, Some, None, nat_eq, if◌then◌else◌}
use Rattle.std.specs.Cmp.Lexicographic.{pointwise}
use Rattle.sonic_text.specs.Trees.{Tree, container, Items, no_item, item}
use Rattle.sonic_text.specs.declared.kind.Kind.TheVariants.{Object}

-- some member has the key
abbrev pub has_key : List ℕ → Items → Bool
has_key k no_item = false
has_key k (item None x xs) = has_key k xs
has_key k (item (Some l) x xs) = pointwise nat_eq l k || has_key k xs

-- the value of the last member with the key
abbrev pub last_of : List ℕ → Items → Option Tree
last_of k no_item = None
last_of k (item None x xs) = last_of k xs
last_of k (item (Some l) x xs) = if has_key k xs then last_of k xs else if pointwise nat_eq l k then Some x else None

-- and that value changed
abbrev pub change_last : List ℕ → (Tree → Tree) → Items → Items
change_last k c no_item = no_item
change_last k c (item None x xs) = item None x (change_last k c xs)
change_last k c (item (Some l) x xs) =
    if has_key k xs then item (Some l) x (change_last k c xs)
    else if pointwise nat_eq l k then item (Some l) (c x) xs
    else item (Some l) x xs

abbrev mutual
  -- the data, but for an object over a schema that is an object with members: these stay, and each member of the data in order fills the value of the last
  -- one with its key, if there is one
  pub fill : Tree → Tree → Tree
  fill (container Object (item l x xs)) (container Object ds) = container Object (fill_members (item l x xs) ds)
  fill s d = d

  pub fill_members : Items → Items → Items
  fill_members xs no_item = xs
  fill_members xs (item None d ds) = fill_members xs ds
  fill_members xs (item (Some k) d ds) = fill_members (change_last k (λ w. fill w d) xs) ds
