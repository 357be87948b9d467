-- The form of one level.
use Rattle.std.proofs.Common.{◌≡◌, ℕ, List}
use Rattle.sonic_owned.specs.Forms.{Form, raw, level, unnamed, named}
use Rattle.std.specs.Fmt.{signed_decimal}
use Rattle.sonic_owned.specs.Integers.{value}
use Rattle.sonic_owned.specs.declared.integer.Integer.{Integer as AnInteger}
use Rattle.sonic_owned.specs.declared.raw.RawValue.{RawValue}
use Rattle.sonic_text.specs.declared.kind.Kind.TheVariants.{Array as KArray, Object as KObject}
use Rattle.sonic_text.specs.Quoting.{quoted}
use Rattle.sonic_owned.specs.Internal.Bulks.{node_form}
pub use Rattle.sonic_owned.specs.Internal.Levels.{elements_of, formed, members_of}
use Rattle.sonic_owned.specs.Views.{form, elements, members, node_step, value_step, array_step, object_step}
use Rattle.sonic_owned.specs.declared.made.MadeText.{MadeText}
use Rattle.sonic_owned.specs.declared.value.OwnedLazyValue.{OwnedLazyValue, roll-OwnedLazyValue, fold_out-OwnedLazyValue, fold-roll-OwnedLazyValue}
use Rattle.sonic_owned.specs.declared.value.Node.TheOpen.{OwnedLazyValue-F, Node-F, LazyArray-F, LazyObject-F}
use Rattle.sonic_owned.specs.declared.value.Node.{Node, Integer, Text, Raw, Array, Object, roll-Node, map-Node, fold-roll-Node}
use Rattle.sonic_owned.specs.declared.value.LazyArray.{LazyArray, out-LazyArray, fold-roll-LazyArray, fold_out-LazyArray, roll-LazyArray}
use Rattle.sonic_owned.specs.declared.value.LazyObject.{LazyObject, out-LazyObject, fold-roll-LazyObject, fold_out-LazyObject, roll-LazyObject}

pub elements-roll : (r : LazyArray-F Node LazyArray LazyObject OwnedLazyValue) → elements (roll-LazyArray r) ≡ elements_of r.elements.items
elements-roll r = fold-roll-LazyArray Form (List Form) (List (List ℕ × Form)) Form node_step array_step object_step value_step r

pub elements-out : (a : LazyArray) → elements a ≡ elements_of (out-LazyArray a).elements.items
elements-out a = fold_out-LazyArray Form (List Form) (List (List ℕ × Form)) Form node_step array_step object_step value_step a

pub members-roll : (r : LazyObject-F Node LazyArray LazyObject OwnedLazyValue) → members (roll-LazyObject r) ≡ members_of r.members.items
members-roll r = fold-roll-LazyObject Form (List Form) (List (List ℕ × Form)) Form node_step array_step object_step value_step r

pub members-out : (o : LazyObject) → members o ≡ members_of (out-LazyObject o).members.items
members-out o = fold_out-LazyObject Form (List Form) (List (List ℕ × Form)) Form node_step array_step object_step value_step o

pub form-node : (v : OwnedLazyValue) → form v ≡ node_form v.node
form-node v = fold_out-OwnedLazyValue Form (List Form) (List (List ℕ × Form)) Form node_step array_step object_step value_step v

pub node-roll : (r : Node-F Node LazyArray LazyObject OwnedLazyValue) → node_form (roll-Node r) ≡ node_step (map-Node Node LazyArray LazyObject OwnedLazyValue Form (List Form) (List (List ℕ × Form)) Form node_form elements members form r)
node-roll r = fold-roll-Node Form (List Form) (List (List ℕ × Form)) Form node_step array_step object_step value_step r

pub form-text : (t : MadeText) → node_form (Text t) ≡ raw (quoted t.text)
unfolding Rattle.sonic_owned.specs.declared.value.Node.TheViews.roll-Node denote.Hole.Carrier.roll
form-text t = fold-roll-Node Form (List Form) (List (List ℕ × Form)) Form node_step array_step object_step value_step (Node-F.Text t)

pub form-integer : (z : AnInteger) → node_form (Integer z) ≡ raw (signed_decimal (value z.kept))
unfolding Rattle.sonic_owned.specs.declared.value.Node.TheViews.roll-Node denote.Hole.Carrier.roll
form-integer z = fold-roll-Node Form (List Form) (List (List ℕ × Form)) Form node_step array_step object_step value_step (Node-F.Integer z)

pub form-raw : (r : RawValue) → node_form (Raw r) ≡ raw r.text
unfolding Rattle.sonic_owned.specs.declared.value.Node.TheViews.roll-Node denote.Hole.Carrier.roll
form-raw r = fold-roll-Node Form (List Form) (List (List ℕ × Form)) Form node_step array_step object_step value_step (Node-F.Raw r)

pub form-array : (a : LazyArray) → node_form (Array a) ≡ level KArray (unnamed (elements a))
unfolding Rattle.sonic_owned.specs.declared.value.Node.TheViews.roll-Node denote.Hole.Carrier.roll
form-array a = fold-roll-Node Form (List Form) (List (List ℕ × Form)) Form node_step array_step object_step value_step (Node-F.Array a)

pub form-object : (o : LazyObject) → node_form (Object o) ≡ level KObject (named (members o))
unfolding Rattle.sonic_owned.specs.declared.value.Node.TheViews.roll-Node denote.Hole.Carrier.roll
form-object o = fold-roll-Node Form (List Form) (List (List ℕ × Form)) Form node_step array_step object_step value_step (Node-F.Object o)

-- the form of a value that is made
pub form-roll : (r : OwnedLazyValue-F Node LazyArray LazyObject OwnedLazyValue) → form (roll-OwnedLazyValue r) ≡ node_form r.node
form-roll r = fold-roll-OwnedLazyValue Form (List Form) (List (List ℕ × Form)) Form node_step array_step object_step value_step r
