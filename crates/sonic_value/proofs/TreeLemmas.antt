-- The strings and the keys of a value's tree are UTF-8, and its items have the keys that their kind has.
use Rattle.std.proofs.Common.{Bool, ℕ, List, [], ◌∷◌, Option, map, string_bytes, refl, subst}
use Rattle.std.proofs.lemmas.Str.{IsUtf8-had}
use Rattle.std.specs.Str.{IsUtf8}
use Rattle.std.specs.declared.alloc.Global.{Global}
use Rattle.std.specs.declared.string.String.{String}
use Rattle.sonic_owned.specs.Forms.{IsLabel}
use Rattle.sonic_text.specs.Trees.Items.{no_item, item}
use Rattle.sonic_text.specs.Trees.Tree.{null, truth, numeral, text, container}
use Rattle.sonic_text.specs.Trees.{Tree, Items}
use Rattle.sonic_text.specs.declared.kind.Kind.TheVariants.{Array, Object}
use Rattle.sonic_text.specs.declared.kind.Kind.{Kind}
use Rattle.sonic_value.proofs.Folds.{tree_array, tree_object}
use Rattle.sonic_value.specs.Views.{tree, value_step, key_and_tree, elements_of, members_of}
use Rattle.sonic_value.specs.declared.value.Value.TheOpen.{Value-F}
use Rattle.sonic_value.specs.declared.value.Value.{Value, roll-Value, map-Value, ind-Value, fold-roll-Value}

mutual
  pub data IsTextual : Tree → Type 0 where
    null_textual : IsTextual null
    truth_textual : {b : Bool} → IsTextual (truth b)
    numeral_textual : {b : List ℕ} → IsTextual (numeral b)
    text_textual : {b : List ℕ} → IsUtf8 b → IsTextual (text b)
    container_textual : {kind : Kind} {xs : Items} → AreTextual kind xs → IsTextual (container kind xs)

  pub data AreTextual : Kind → Items → Type 0 where
    none_textual : {kind : Kind} → AreTextual kind no_item
    item_textual : {kind : Kind} {l : Option (List ℕ)} {x : Tree} {xs : Items} → IsLabel kind l → IsTextual x → AreTextual kind xs → AreTextual kind (item l x xs)

elements_textual : {S : Type 0} (value : S → Value) → ((s : S) → IsTextual (tree (value s))) → (ys : List S) → AreTextual Array (elements_of (map tree (map value ys)))
elements_textual value each [] = none_textual
elements_textual value each (y ∷ ys) = item_textual refl (each y) (elements_textual value each ys)

members_textual : {S : Type 0} (value : S → Value) → ((s : S) → IsTextual (tree (value s))) → (ys : List (String Global × S))
    → AreTextual Object (members_of (map key_and_tree (map (λ m. (m.0, value m.1)) ys)))
members_textual value each [] = none_textual
members_textual value each (y ∷ ys) = item_textual (string_bytes y.0, refl, IsUtf8-had (string_bytes y.0) y.0.ok) (each y.1) (members_textual value each ys)

module _ {V : Type 0} (value : V → Value) where
  kept_textual : ((v : V) → IsTextual (tree (value v))) → (y : Value-F V) → IsTextual (tree (roll-Value (map-Value V Value value y)))
  unfolding Rattle.sonic_value.specs.declared.value.Value.TheViews.roll-Value denote.Hole.Carrier.roll
  kept_textual each Value-F.Null = rw (fold-roll-Value Tree value_step Value-F.Null) null_textual
  kept_textual each (Value-F.Bool b) = rw (fold-roll-Value Tree value_step (Value-F.Bool b)) truth_textual
  kept_textual each (Value-F.Number n) = rw (fold-roll-Value Tree value_step (Value-F.Number n)) numeral_textual
  kept_textual each (Value-F.String s) = rw (fold-roll-Value Tree value_step (Value-F.String s)) (text_textual (IsUtf8-had (string_bytes s) s.ok))
  kept_textual each (Value-F.Array vs) = rw tree_array (container_textual (elements_textual value each vs.items))
  kept_textual each (Value-F.Object ms) = rw tree_object (container_textual (members_textual value each ms.items))

pub tree_textual : (v : Value) → IsTextual (tree v)
tree_textual = ind-Value (λ v. IsTextual (tree v)) (λ x y is. subst (λ z. IsTextual (tree (roll-Value z))) is (kept_textual (λ e. e.0) (λ e. e.1) y))
