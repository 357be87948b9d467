-- What a plain value means.
use Rattle.std.specs.Prelude.{◌≡◌, ◌≢◌, ℕ, List, [], ◌∷◌, map, string_bytes, Option, Some, None}
use Rattle.std.specs.declared.alloc.Global.{Global}
use Rattle.std.specs.declared.string.String.{String}
use Rattle.std.specs.declared.vec.Vec.{Vec}
use Rattle.sonic_text.specs.Trees.Tree.{null, truth, numeral, text, container}
use Rattle.sonic_text.specs.Trees.Items.{no_item, item}
use Rattle.sonic_text.specs.Trees.{Tree, Items}
use Rattle.sonic_text.specs.declared.kind.Kind.{Kind}
use Rattle.sonic_text.specs.declared.kind.Kind.TheVariants.{Array, Object}
use Rattle.sonic_value.specs.declared.value.Value.{Value, fold-Value, out-Value}
use Rattle.sonic_value.specs.declared.value.Value.TheOpen.{Value-F}

-- the items of an array, and those of an object
abbrev pub elements_of : List Tree → Items
elements_of [] = no_item
elements_of (x ∷ xs) = item None x (elements_of xs)

abbrev pub members_of : List (List ℕ × Tree) → Items
members_of [] = no_item
members_of (m ∷ ms) = item (Some m.0) m.1 (members_of ms)

-- a member as its key's bytes and its value's tree
abbrev pub pair_of : String Global × Tree → List ℕ × Tree
pair_of m = (string_bytes m.0, m.1)

-- one level, with each value inside already seen as its tree
abbrev pub value_step : Value-F Tree → Tree
value_step Value-F.Null = null
value_step (Value-F.Bool b) = truth b
value_step (Value-F.Number s) = numeral (string_bytes s)
value_step (Value-F.String s) = text (string_bytes s)
value_step (Value-F.Array xs) = container Array (elements_of xs.items)
value_step (Value-F.Object ms) = container Object (members_of (map pair_of ms.items))

-- the tree that a value is
abbrev pub tree : Value → Tree
tree = fold-Value Tree value_step

-- a member as its key's bytes and its value's tree
abbrev pub key_and_tree : String Global × Value → List ℕ × Tree
key_and_tree m = (string_bytes m.0, tree m.1)

-- the elements that a value holds, if it is an array, and the members, if it is an object
abbrev pub level_array : Value-F Value → Option (Vec Value Global)
level_array (Value-F.Array xs) = Some xs
level_array other = None

abbrev pub level_object : Value-F Value → Option (Vec (String Global × Value) Global)
level_object (Value-F.Object ms) = Some ms
level_object other = None

abbrev pub array_in : Value → Option (Vec Value Global)
array_in v = level_array (out-Value v)

abbrev pub object_in : Value → Option (Vec (String Global × Value) Global)
object_in v = level_object (out-Value v)

-- the container that a tree is, if it is one: an array of these elements, an object of these members, or none
pub data IsContainerOf (x : Tree) : Option (Vec Value Global) → Option (Vec (String Global × Value) Global) → Type 0 where
  an_array : {xs : Vec Value Global} → x ≡ container Array (elements_of (map tree xs.items)) → IsContainerOf x (Some xs) None
  an_object : {ms : Vec (String Global × Value) Global} → x ≡ container Object (members_of (map key_and_tree ms.items)) → IsContainerOf x None (Some ms)
  no_level : ((kind : Kind) (xs : Items) → x ≢ container kind xs) → IsContainerOf x None None
