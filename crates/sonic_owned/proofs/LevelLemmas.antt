-- The level that a value is opened to is that of its form.
use Rattle.std.proofs.Common.{◌∙◌, sym}
use Rattle.std.specs.Prelude.{⊤}
use Rattle.sonic_owned.proofs.Folds.{node-roll, form-node}
use Rattle.sonic_owned.specs.Internal.Bulks.{node_form}
use Rattle.sonic_owned.specs.Views.{form, node_array, node_object, array_in, object_in, IsLevelOf, an_array, an_object, no_level}
use Rattle.sonic_owned.specs.declared.value.LazyArray.{LazyArray}
use Rattle.sonic_owned.specs.declared.value.LazyObject.{LazyObject}
use Rattle.sonic_owned.specs.declared.value.Node.{Node, roll-Node, out-Node, ind-Node}
use Rattle.sonic_owned.specs.declared.value.Node.TheOpen.{Node-F}
use Rattle.sonic_owned.specs.declared.value.OwnedLazyValue.{OwnedLazyValue}

-- what a value is kept as tells so
abbrev Tells_level : Node → Type 0
Tells_level n = IsLevelOf (node_form n) (node_array (out-Node n)) (node_object (out-Node n))

kept_level : (o : Node-F Node LazyArray LazyObject OwnedLazyValue) → Tells_level (roll-Node o)
unfolding Rattle.sonic_owned.specs.declared.value.Node.TheViews.roll-Node denote.Hole.Carrier.roll out-Node denote.Hole.Carrier.out
kept_level Node-F.Null = no_level (λ kind ms e. let s = sym (node-roll Node-F.Null) ∙ e in cc)
kept_level (Node-F.Bool b) = no_level (λ kind ms e. let s = sym (node-roll (Node-F.Bool b)) ∙ e in cc)
kept_level (Node-F.Integer z) = no_level (λ kind ms e. let s = sym (node-roll (Node-F.Integer z)) ∙ e in cc)
kept_level (Node-F.Text t) = no_level (λ kind ms e. let s = sym (node-roll (Node-F.Text t)) ∙ e in cc)
kept_level (Node-F.Raw r) = no_level (λ kind ms e. let s = sym (node-roll (Node-F.Raw r)) ∙ e in cc)
kept_level (Node-F.Array a) = an_array (node-roll (Node-F.Array a))
kept_level (Node-F.Object o) = an_object (node-roll (Node-F.Object o))

node_tells : (n : Node) → Tells_level n
node_tells = ind-Node Tells_level (λ a. ⊤) (λ o. ⊤) (λ v. ⊤) (λ x y is. kept_level x) (λ x y is. tt) (λ x y is. tt) (λ x y is. tt)

pub value_tells : (v : OwnedLazyValue) → IsLevelOf (form v) (array_in v) (object_in v)
value_tells v = rw (form-node v) (node_tells v.node)
