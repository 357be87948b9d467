-- The tree of one level.
use Rattle.std.proofs.Common.{◌≡◌, ◌∙◌, ap, refl, List, [], ◌∷◌, map, Bool}
use Rattle.std.specs.Prelude.{ℕ, Option, Some, None, string_bytes}
use Rattle.std.specs.declared.alloc.Global.{Global}
use Rattle.std.specs.declared.string.String.{String}
use Rattle.std.specs.declared.vec.Vec.{Vec}
use Rattle.sonic_text.specs.Trees.Items.{no_item, item}
use Rattle.sonic_text.specs.Trees.Tree.{null, truth, numeral, text, container}
use Rattle.sonic_text.specs.Trees.{Tree}
use Rattle.sonic_text.specs.declared.kind.Kind.TheVariants.{Array as KArray, Object as KObject}
use Rattle.sonic_value.specs.Internal.Readers.{items_before}
use Rattle.sonic_value.specs.Views.{tree, value_step, pair_of, key_and_tree, elements_of, members_of}
use Rattle.sonic_value.specs.declared.value.Value.{Value, Null, Bool as ABool, Number, String as AString, Array, Object, fold-roll-Value}
use Rattle.sonic_value.specs.declared.value.Value.TheOpen.{Value-F}

-- the trees of scalars
pub tree_null : tree Null ≡ null
unfolding Rattle.sonic_value.specs.declared.value.Value.TheViews.roll-Value denote.Hole.Carrier.roll
tree_null = fold-roll-Value Tree value_step Value-F.Null

pub tree_bool : (b : Bool) → tree (ABool b) ≡ truth b
unfolding Rattle.sonic_value.specs.declared.value.Value.TheViews.roll-Value denote.Hole.Carrier.roll
tree_bool b = fold-roll-Value Tree value_step (Value-F.Bool b)

pub tree_number : (s : String Global) → tree (Number s) ≡ numeral (string_bytes s)
unfolding Rattle.sonic_value.specs.declared.value.Value.TheViews.roll-Value denote.Hole.Carrier.roll
tree_number s = fold-roll-Value Tree value_step (Value-F.Number s)

pub tree_string : (s : String Global) → tree (AString s) ≡ text (string_bytes s)
unfolding Rattle.sonic_value.specs.declared.value.Value.TheViews.roll-Value denote.Hole.Carrier.roll
tree_string s = fold-roll-Value Tree value_step (Value-F.String s)

-- the tree of an array, and that of an object
abbrev seen : String Global × Value → String Global × Tree
seen m = (m.0, tree m.1)

members_seen : (ms : List (String Global × Value)) → map pair_of (map seen ms) ≡ map key_and_tree ms
members_seen [] = refl
members_seen (m ∷ ms) = ap (λ l. key_and_tree m ∷ l) (members_seen ms)

pub tree_array : (vs : Vec Value Global) → tree (Array vs) ≡ container KArray (elements_of (map tree vs.items))
unfolding Rattle.sonic_value.specs.declared.value.Value.TheViews.roll-Value denote.Hole.Carrier.roll
tree_array vs = fold-roll-Value Tree value_step (Value-F.Array vs)

pub tree_object : (ms : Vec (String Global × Value) Global) → tree (Object ms) ≡ container KObject (members_of (map key_and_tree ms.items))
unfolding Rattle.sonic_value.specs.declared.value.Value.TheViews.roll-Value denote.Hole.Carrier.roll
tree_object ms = fold-roll-Value Tree value_step (Value-F.Object ms) ∙ ap (λ l. container KObject (members_of l)) (members_seen ms.items)

-- an element, and a member, as an item, and the trees with these
abbrev pub element : Value → Option (List ℕ) × Tree
element v = (None, tree v)

abbrev pub member : String Global × Value → Option (List ℕ) × Tree
member m = (Some (string_bytes m.0), tree m.1)

elements_are : (vs : List Value) → elements_of (map tree vs) ≡ items_before (map element vs) no_item
elements_are [] = refl
elements_are (v ∷ vs) = ap (item None (tree v)) (elements_are vs)

members_are : (ms : List (String Global × Value)) → members_of (map key_and_tree ms) ≡ items_before (map member ms) no_item
members_are [] = refl
members_are (m ∷ ms) = ap (item (Some (string_bytes m.0)) (tree m.1)) (members_are ms)

pub array_items : (vs : Vec Value Global) → tree (Array vs) ≡ container KArray (items_before (map element vs.items) no_item)
array_items vs = tree_array vs ∙ ap (container KArray) (elements_are vs.items)

pub object_items : (ms : Vec (String Global × Value) Global) → tree (Object ms) ≡ container KObject (items_before (map member ms.items) no_item)
object_items ms = tree_object ms ∙ ap (container KObject) (members_are ms.items)
