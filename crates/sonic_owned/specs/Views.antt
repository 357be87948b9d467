-- The form of an owned value, and the lists that its levels are.
use Rattle.std.specs.Prelude.{◌≡◌, ◌≢◌, ℕ, ◌-◌, List, map, codes, Option, Some, None, vec_len, vec_capacity, if◌then◌else◌}
use Rattle.std.specs.Fmt.{signed_decimal}
use Rattle.sonic_owned.specs.Forms.{Form, raw, level, Members, unnamed, named}
use Rattle.sonic_owned.specs.Integers.{value}
use Rattle.sonic_owned.specs.declared.made.MadeText.{MadeText}
use Rattle.sonic_owned.specs.declared.value.OwnedLazyValue.{OwnedLazyValue, fold-OwnedLazyValue, out-OwnedLazyValue}
use Rattle.sonic_owned.specs.declared.value.Node.{Node, out-Node}
use Rattle.sonic_owned.specs.declared.value.Node.TheOpen.{OwnedLazyValue-F, Node-F, LazyArray-F, LazyObject-F}
use Rattle.sonic_owned.specs.declared.value.LazyArray.{LazyArray, fold-LazyArray, out-LazyArray}
use Rattle.sonic_owned.specs.declared.value.LazyObject.{LazyObject, fold-LazyObject, out-LazyObject}
use Rattle.sonic_text.specs.Quoting.{quoted}
use Rattle.sonic_text.specs.declared.kind.Kind.{Kind}
use Rattle.sonic_text.specs.declared.kind.Kind.TheVariants.{Array, Object}

-- a member as its key's text and its value's form
abbrev pub pair_of : MadeText × Form → List ℕ × Form
pair_of m = (m.0.text, m.1)

-- one level, with each value inside already seen as its form
abbrev pub node_step : Node-F Form (List Form) (List (List ℕ × Form)) Form → Form
node_step Node-F.Null = raw (codes "null")
node_step (Node-F.Bool b) = raw (if b then codes "true" else codes "false")
node_step (Node-F.Integer z) = raw (signed_decimal (value z.kept))
node_step (Node-F.Text s) = raw (quoted s.text)
node_step (Node-F.Raw r) = raw r.text
node_step (Node-F.Array fs) = level Array (unnamed fs)
node_step (Node-F.Object ms) = level Object (named ms)

abbrev pub value_step : OwnedLazyValue-F Form (List Form) (List (List ℕ × Form)) Form → Form
value_step v = v.node

abbrev pub array_step : LazyArray-F Form (List Form) (List (List ℕ × Form)) Form → List Form
array_step a = a.elements.items

abbrev pub object_step : LazyObject-F Form (List Form) (List (List ℕ × Form)) Form → List (List ℕ × Form)
object_step o = map pair_of o.members.items

-- the form of a value
abbrev pub form : OwnedLazyValue → Form
form = fold-OwnedLazyValue Form (List Form) (List (List ℕ × Form)) Form node_step array_step object_step value_step

-- the forms of an array's elements
abbrev pub elements : LazyArray → List Form
elements = fold-LazyArray Form (List Form) (List (List ℕ × Form)) Form node_step array_step object_step value_step

-- the members of an object: their keys, and the forms of their values
abbrev pub members : LazyObject → List (List ℕ × Form)
members = fold-LazyObject Form (List Form) (List (List ℕ × Form)) Form node_step array_step object_step value_step

-- how many more items fit without memory
abbrev pub array_spare : LazyArray → ℕ
array_spare a = vec_capacity (out-LazyArray a).elements - vec_len (out-LazyArray a).elements

abbrev pub object_spare : LazyObject → ℕ
object_spare o = vec_capacity (out-LazyObject o).members - vec_len (out-LazyObject o).members

-- the array that a value is opened to, if it is opened and one, and the object
abbrev pub node_array : Node-F Node LazyArray LazyObject OwnedLazyValue → Option LazyArray
node_array (Node-F.Array a) = Some a
node_array other = None

abbrev pub node_object : Node-F Node LazyArray LazyObject OwnedLazyValue → Option LazyObject
node_object (Node-F.Object o) = Some o
node_object other = None

abbrev pub array_in : OwnedLazyValue → Option LazyArray
array_in v = node_array (out-Node (out-OwnedLazyValue v).node)

abbrev pub object_in : OwnedLazyValue → Option LazyObject
object_in v = node_object (out-Node (out-OwnedLazyValue v).node)

-- the level that a form is of, if it is one: an array with these elements, an object with these members, or none
pub data IsLevelOf (f : Form) : Option LazyArray → Option LazyObject → Type 0 where
  an_array : {a : LazyArray} → f ≡ level Array (unnamed (elements a)) → IsLevelOf f (Some a) None
  an_object : {o : LazyObject} → f ≡ level Object (named (members o)) → IsLevelOf f None (Some o)
  no_level : ((kind : Kind) (ms : Members) → f ≢ level kind ms) → IsLevelOf f None None

-- the text that a string was made of, if the value is one that was made
abbrev pub node_text : Node-F Node LazyArray LazyObject OwnedLazyValue → Option (List ℕ)
node_text (Node-F.Text s) = Some s.text
node_text other = None

abbrev pub made_text : OwnedLazyValue → Option (List ℕ)
made_text v = node_text (out-Node (out-OwnedLazyValue v).node)

-- the text that it is kept as, if it was read and isn't opened
abbrev pub node_read : Node-F Node LazyArray LazyObject OwnedLazyValue → Option (List ℕ)
node_read (Node-F.Raw r) = Some r.text
node_read other = None

abbrev pub read_text : OwnedLazyValue → Option (List ℕ)
read_text v = node_read (out-Node (out-OwnedLazyValue v).node)
