-- The container that a value is.
use Rattle.std.proofs.Common.{◌∙◌, sym}
use Rattle.sonic_text.specs.Trees.{Tree}
use Rattle.sonic_value.proofs.Folds.{tree_array, tree_object}
use Rattle.sonic_value.specs.Views.{tree, value_step, level_array, level_object, array_in, object_in, IsContainerOf, an_array, an_object, no_level}
use Rattle.sonic_value.specs.declared.value.Value.TheOpen.{Value-F}
use Rattle.sonic_value.specs.declared.value.Value.TheViews.{out-roll-Value}
use Rattle.sonic_value.specs.declared.value.Value.{Value, roll-Value, ind-Value, fold-roll-Value}

-- of one level
level_tells : (o : Value-F Value) → IsContainerOf (tree (roll-Value o)) (level_array o) (level_object o)
unfolding Rattle.sonic_value.specs.declared.value.Value.TheViews.roll-Value denote.Hole.Carrier.roll
level_tells Value-F.Null = no_level (λ kind xs e. let s = sym (fold-roll-Value Tree value_step Value-F.Null) ∙ e in cc)
level_tells (Value-F.Bool b) = no_level (λ kind xs e. let s = sym (fold-roll-Value Tree value_step (Value-F.Bool b)) ∙ e in cc)
level_tells (Value-F.Number n) = no_level (λ kind xs e. let s = sym (fold-roll-Value Tree value_step (Value-F.Number n)) ∙ e in cc)
level_tells (Value-F.String t) = no_level (λ kind xs e. let s = sym (fold-roll-Value Tree value_step (Value-F.String t)) ∙ e in cc)
level_tells (Value-F.Array vs) = an_array (tree_array vs)
level_tells (Value-F.Object ms) = an_object (tree_object ms)

pub value_tells : (v : Value) → IsContainerOf (tree v) (array_in v) (object_in v)
value_tells = ind-Value (λ v. IsContainerOf (tree v) (array_in v) (object_in v)) (λ x y is. rw out-roll-Value (level_tells x))
