-- Where the tokens of a pointer lead in a tree (RFC 6901, section 4).
use Rattle.std.specs.Prelude.{ℕ, ◌^◌, ◌==◌, nat_lt, Bool, false, if◌then◌else◌, List, [], ◌∷◌, Option, Some, None, option_map, ◌&&◌, not}
use Rattle.std.specs.Char.{is_ascii_digit}
use Rattle.std.specs.Option.{option_and_then}
use Rattle.std.specs.Str.{all_ascii_digits}
use Rattle.std.specs.Str.Parse.{digits_value}
use Rattle.sonic_patch.specs.Pointers.{Token}
use Rattle.sonic_text.specs.declared.kind.Kind.TheVariants.{Array, Object}
use Rattle.sonic_text.specs.Paths.{Node, key, index, Path}
use Rattle.sonic_text.specs.TreePaths.{child, leads}
use Rattle.sonic_text.specs.Trees.{Tree, container}

-- the token is 0, or digits of which the first isn't 0
abbrev pub is_index : Token → Bool
is_index [] = false
is_index (b ∷ []) = is_ascii_digit b
is_index (b ∷ c ∷ t) = not (b == 48) && all_ascii_digits (b ∷ c ∷ t)

-- the index that it spells, where that fits in 64 bits: no element has a greater one
abbrev pub index_of : Token → Option ℕ
index_of t = if is_index t && nat_lt (digits_value 10 t) (2 ^ 64) then Some (digits_value 10 t) else None

-- the node that a token is in a value: a key of an object, an index of an array
abbrev pub node_in : Tree → Token → Option Node
node_in (container Object xs) t = Some (key t)
node_in (container Array xs) t = option_map index (index_of t)
node_in other t = None

-- the path that tokens are in a tree, which leads there
abbrev pub path_in : List Token → Tree → Option Path
path_in [] v = Some []
path_in (t ∷ ts) v = option_and_then (λ node. option_and_then (λ w. option_map (λ path. node ∷ path) (path_in ts w)) (child node v)) (node_in v t)

-- what they lead to
abbrev pub pointed : List Token → Tree → Option Tree
pointed ts v = option_and_then (leads v) (path_in ts v)
