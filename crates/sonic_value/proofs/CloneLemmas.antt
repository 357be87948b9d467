-- Copies of values that are being made.
use Rattle.std.proofs.Common.{◌≡◌, ◌∙◌, ap, sym, refl, arith, ◌+◌, ◌*◌, ◌<◌, Bool, List, [], ◌∷◌, ◌++◌, map, Some, None, string_bytes}
use Rattle.std.proofs.lemmas.List.{append-nil}
use Rattle.std.specs.List.{slice_get}
use Rattle.std.specs.declared.alloc.Global.{Global}
use Rattle.std.specs.declared.string.String.{String}
use Rattle.std.specs.declared.vec.Vec.{Vec}
use Rattle.sonic_text.specs.Trees.{Tree, container}
use Rattle.sonic_text.specs.Trees.Items.{item}
use Rattle.sonic_text.specs.declared.kind.Kind.TheVariants as kind
use Rattle.sonic_value.proofs.Folds.{tree_array, tree_object}
use Rattle.sonic_value.specs.Internal.Clones.{kept_tree, kept_member, left_size, made_tree, next_tree, waiting_size, waiting_sizes, IsCopyOpen}
use Rattle.sonic_value.specs.Internal.Keeping.{kept, kept_items, kept_text}
use Rattle.sonic_value.specs.Internal.ValueCounts.{value_count, items_value_count}
use Rattle.sonic_value.specs.Views.{tree, key_and_tree, elements_of, members_of}
use Rattle.sonic_value.specs.declared.value.Value.{Value}
use Rattle.sonic_value.specs.declared.value.Value as value
use Rattle.sonic_value.specs.declared.value.copy.Copying.{Copying}
use Rattle.sonic_value.specs.declared.value.copy.Copying.TheVariants.{Whole, Array, Object}

-- what is kept of items, one by one
pub kept_elements : (u : Bool) (vs : List Value) → kept_items u (elements_of (map tree vs)) ≡ elements_of (map (kept_tree u) vs)
kept_elements u [] = refl
kept_elements u (v ∷ vs) = ap (item None (kept u (tree v))) (kept_elements u vs)

pub kept_members : (u : Bool) (ms : List (String Global × Value)) → kept_items u (members_of (map key_and_tree ms)) ≡ members_of (map (kept_member u) ms)
kept_members u [] = refl
kept_members u (m ∷ ms) = ap (item (Some (kept_text u (string_bytes m.0))) (kept u (tree m.1))) (kept_members u ms)

-- a container none of whose items is copied yet
pub array_begun : (u : Bool) (v : Value) (vs : Vec Value Global) (made left : List Value) → v ≡ value.Array vs → made ≡ [] → left ≡ vs.items
    → container kind.Array (elements_of (map tree made ++ map (kept_tree u) left)) ≡ kept u (tree v)
array_begun u v vs made left is none items =
    rw (none, items) (sym (ap (kept u) (ap tree is ∙ tree_array vs) ∙ ap (container kind.Array) (kept_elements u vs.items)))

pub object_begun : (u : Bool) (v : Value) (ms : Vec (String Global × Value) Global) (made left : List (String Global × Value)) → v ≡ value.Object ms → made ≡ [] → left ≡ ms.items
    → container kind.Object (members_of (map key_and_tree made ++ map (kept_member u) left)) ≡ kept u (tree v)
object_begun u v ms made left is none items =
    rw (none, items) (sym (ap (kept u) (ap tree is ∙ tree_object ms) ∙ ap (container kind.Object) (kept_members u ms.items)))

pub object_less : (v : Value) (ms : Vec (String Global × Value) Global) (left : List (String Global × Value)) → v ≡ value.Object ms → left ≡ ms.items
    → 1 + 2 * items_value_count (members_of (map key_and_tree left)) < 2 * value_count (tree v)
object_less v ms left is items =
    let own : value_count (tree v) ≡ 1 + items_value_count (members_of (map key_and_tree ms.items)) = ap value_count (ap tree is ∙ tree_object ms) in
    let all : items_value_count (members_of (map key_and_tree left)) ≡ items_value_count (members_of (map key_and_tree ms.items)) = ap (λ l. items_value_count (members_of (map key_and_tree l))) items in
    omega (arith, own, all)

-- or none of whose items is left
pub array_closed : (vs : List Value) (made : Vec Value Global) → slice_get (map tree vs) 0 ≡ None → (u : Bool)
    → tree (value.Array made) ≡ container kind.Array (elements_of (map tree made.items ++ map (kept_tree u) vs))
array_closed [] made none u = tree_array made ∙ ap (λ l. container kind.Array (elements_of l)) (sym (append-nil (map tree made.items)))
array_closed (v ∷ vs) made none u = absurd cc

pub object_closed : (ms : List (String Global × Value)) (made : Vec (String Global × Value) Global) → slice_get (map (λ (m : String Global × Value). tree m.1) ms) 0 ≡ None → (u : Bool)
    → tree (value.Object made) ≡ container kind.Object (members_of (map key_and_tree made.items ++ map (kept_member u) ms))
object_closed [] made none u = tree_object made ∙ ap (λ l. container kind.Object (members_of l)) (sym (append-nil (map key_and_tree made.items)))
object_closed (m ∷ ms) made none u = absurd cc

-- one container more is open
pub open_more : (u : Bool) (x z : Tree) (cs : List Copying) (c : Copying) → IsCopyOpen u x cs (made_tree u c) → next_tree c ≡ Some z → IsCopyOpen u x (cs ++ c ∷ []) (kept u z)
open_more u x z [] c same next = (sym same, (z, next, refl))
open_more u x z (o ∷ cs) c (same, (h, here, rest)) next = (same, (h, here, open_more u (kept u h) z cs c rest next))

-- and is the one in hand again
pub open_less : (u : Bool) (x y : Tree) (cs : List Copying) (c : Copying) → IsCopyOpen u x (cs ++ c ∷ []) y
    → IsCopyOpen u x cs (made_tree u c) × ((z : Tree) × (next_tree c ≡ Some z) × (kept u z ≡ y))
open_less u x y [] c a = (sym a.0, a.1)
open_less u x y (o ∷ cs) c a = let more = open_less u (kept u a.1.0) y cs c a.1.2 in ((a.0, (a.1.0, a.1.1, more.0)), more.1)

pub waiting_more : (cs : List Copying) (c : Copying) → waiting_sizes (cs ++ c ∷ []) ≡ waiting_sizes cs + waiting_size c
waiting_more [] c = omega arith
waiting_more (o ∷ cs) c = let more = waiting_more cs c in omega (arith, more)

pub some_left : (c : Copying) → 0 < left_size c
some_left (Whole v) = omega arith
some_left (Array vs made) = omega arith
some_left (Object ms made) = omega arith
