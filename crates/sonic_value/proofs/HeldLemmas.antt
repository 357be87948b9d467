-- What a value that lends its list becomes.
use Rattle.std.proofs.Common.{◌≡◌, ◌≢◌, ◌∙◌, ap, sym, map, Option, Some, None, option_map, IfSome, OnSome, MutBor, subst}
use Rattle.std.specs.declared.alloc.Global.{Global}
use Rattle.std.specs.declared.string.String.{String}
use Rattle.std.specs.declared.vec.Vec.{Vec}
use Rattle.sonic_text.specs.Trees.Tree.{container}
use Rattle.sonic_text.specs.Trees.{Items, Tree}
use Rattle.sonic_text.specs.declared.kind.Kind.{Kind}
use Rattle.sonic_text.specs.declared.kind.Kind.TheVariants.{Array as KArray, Object as KObject}
use Rattle.sonic_value.proofs.Folds.{tree_array, tree_object}
use Rattle.sonic_value.proofs.LevelLemmas.{value_tells}
use Rattle.sonic_value.specs.Internal.Keys.{seen}
use Rattle.sonic_value.specs.Views.{tree, elements_of, members_of, level_array, level_object, array_in, object_in, IsContainerOf, an_array, an_object, no_level}
use Rattle.sonic_value.specs.declared.value.Value.TheOpen.{Value-F}
use Rattle.sonic_value.specs.declared.value.Value.TheViews.{out-roll-Value}
use Rattle.sonic_value.specs.declared.value.Value.{Value, Array, Object, roll-Value, ind-Value}

-- a value that holds a list is that variant
level_array_is : (o : Value-F Value) (xs : Vec Value Global) → level_array o ≡ Some xs → roll-Value o ≡ Array xs
unfolding Rattle.sonic_value.specs.declared.value.Value.TheViews.roll-Value denote.Hole.Carrier.roll
level_array_is (Value-F.Array vs) xs e = let same : vs ≡ xs = cc in ap Array same
level_array_is Value-F.Null xs e = absurd cc
level_array_is (Value-F.Bool b) xs e = absurd cc
level_array_is (Value-F.Number s) xs e = absurd cc
level_array_is (Value-F.String s) xs e = absurd cc
level_array_is (Value-F.Object ms) xs e = absurd cc

level_object_is : (o : Value-F Value) (ms : Vec (String Global × Value) Global) → level_object o ≡ Some ms → roll-Value o ≡ Object ms
unfolding Rattle.sonic_value.specs.declared.value.Value.TheViews.roll-Value denote.Hole.Carrier.roll
level_object_is (Value-F.Object ns) ms e = let same : ns ≡ ms = cc in ap Object same
level_object_is Value-F.Null ms e = absurd cc
level_object_is (Value-F.Bool b) ms e = absurd cc
level_object_is (Value-F.Number s) ms e = absurd cc
level_object_is (Value-F.String s) ms e = absurd cc
level_object_is (Value-F.Array vs) ms e = absurd cc

pub array_is : (v : Value) (xs : Vec Value Global) → array_in v ≡ Some xs → v ≡ Array xs
array_is = ind-Value (λ v. (xs : Vec Value Global) → array_in v ≡ Some xs → v ≡ Array xs) (λ x y is xs. rw out-roll-Value (level_array_is x xs))

pub object_is : (v : Value) (ms : Vec (String Global × Value) Global) → object_in v ≡ Some ms → v ≡ Object ms
object_is = ind-Value (λ v. (ms : Vec (String Global × Value) Global) → object_in v ≡ Some ms → v ≡ Object ms) (λ x y is ms. rw out-roll-Value (level_object_is x ms))

-- and one that holds none is of another kind
no_array : {x : Tree} {o : Option (Vec Value Global)} {p : Option (Vec (String Global × Value) Global)} → IsContainerOf x o p → o ≡ None → (xs : Items)
    → x ≢ container KArray xs
no_array (an_array e) none xs is = absurd cc
no_array (an_object e) none xs is = let clash = sym e ∙ is in cc
no_array (no_level other) none xs is = other KArray xs is

no_object : {x : Tree} {o : Option (Vec Value Global)} {p : Option (Vec (String Global × Value) Global)} → IsContainerOf x o p → p ≡ None → (xs : Items)
    → x ≢ container KObject xs
no_object (an_object e) none xs is = absurd cc
no_object (an_array e) none xs is = let clash = sym e ∙ is in cc
no_object (no_level other) none xs is = other KObject xs is

-- the list of an array
pub array_lent : (v : Value) (o : Option (MutBor (Vec Value Global))) → option_map (λ xs. xs.now) o ≡ array_in v → (w : Vec Value Global)
    → IfSome o (λ lent. (tree (Array w) ≡ container KArray (elements_of (map tree w.items))) × (w ≡ lent.now → Array w ≡ v))
array_lent v None e w = tt
array_lent v (Some x) e w = (tree_array w, λ same. ap Array same ∙ sym (array_is v x.now (sym e)))

pub array_some : (v : Value) (o : Option (MutBor (Vec Value Global))) → option_map (λ xs. xs.now) o ≡ array_in v
    → IfSome o (λ lent. tree v ≡ container KArray (elements_of (map tree lent.now.items)))
array_some v None e = tt
array_some v (Some x) e = ap tree (array_is v x.now (sym e)) ∙ tree_array x.now

pub array_none : (v : Value) (o : Option (MutBor (Vec Value Global))) → option_map (λ xs. xs.now) o ≡ array_in v → o ≡ None → (xs : Items)
    → tree v ≢ container KArray xs
array_none v o e none = no_array (value_tells v) (sym e ∙ ap (option_map (λ xs. xs.now)) none)

-- and that of an object
pub object_lent : (v : Value) (o : Option (MutBor (Vec (String Global × Value) Global))) → option_map (λ ms. ms.now) o ≡ object_in v
    → (w : Vec (String Global × Value) Global)
    → IfSome o (λ lent. (tree (Object w) ≡ container KObject (members_of (seen w.items))) × (w ≡ lent.now → Object w ≡ v))
object_lent v None e w = tt
object_lent v (Some x) e w = (tree_object w, λ same. ap Object same ∙ sym (object_is v x.now (sym e)))

pub object_some : (v : Value) (o : Option (MutBor (Vec (String Global × Value) Global))) → option_map (λ ms. ms.now) o ≡ object_in v
    → IfSome o (λ lent. tree v ≡ container KObject (members_of (seen lent.now.items)))
object_some v None e = tt
object_some v (Some x) e = ap tree (object_is v x.now (sym e)) ∙ tree_object x.now

pub object_none : (v : Value) (o : Option (MutBor (Vec (String Global × Value) Global))) → option_map (λ ms. ms.now) o ≡ object_in v → o ≡ None → (xs : Items)
    → tree v ≢ container KObject xs
object_none v o e none = no_object (value_tells v) (sym e ∙ ap (option_map (λ ms. ms.now)) none)

-- what holds of what is lent
pub of_lent : {X : Type 0} (o : Option X) (x : X) (P : X → Type 0) → o ≡ Some x → IfSome o P → P x
of_lent o x P is p = subst (λ o. IfSome o P) is p

-- a container whose items are changed, or left as they were
pub both_lent : {A L : Type 0} (o : Option (MutBor Value)) (w : Value) (kind : Kind) (ys zs : Items) {y : Tree} (m old : A) (l part : L) → y ≡ container kind ys
    → (l ≡ part → m ≡ old) → IfSome o (λ x. (ys ≡ zs) × (w ≡ x.now → l ≡ part)) → IfSome o (λ x. (y ≡ container kind zs) × (w ≡ x.now → m ≡ old))
both_lent None w kind ys zs m old l part is left lent = tt
both_lent (Some x) w kind ys zs m old l part is left lent = (is ∙ ap (container kind) lent.0, λ same. left (lent.1 same))

-- the first of what is said
pub first_holds : {X : Type 0} (o : Option X) (P : Type 0) (Q : X → Type 0) → IfSome o (λ x. P × Q x) → OnSome o P
first_holds None P Q p = tt
first_holds (Some x) P Q p = p.0
