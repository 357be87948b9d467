-- How many values what is left of a value has.
use Rattle.std.proofs.Common.{◌≡◌, ◌∙◌, ap, arith, ℕ, ◌+◌, ◌<◌, List, [], ◌∷◌, ◌++◌, map}
use Rattle.std.specs.declared.alloc.Global.{Global}
use Rattle.std.specs.declared.string.String.{String}
use Rattle.std.specs.declared.vec.Vec.{Vec}
use Rattle.sonic_value.proofs.Folds.{tree_array, tree_object}
use Rattle.sonic_value.specs.Internal.ValueCounts.{value_count, items_value_count}
use Rattle.sonic_value.specs.Views.{tree, key_and_tree, elements_of, members_of}
use Rattle.sonic_value.specs.declared.value.Value.{Value, Array, Object}

-- of elements, and of members
abbrev pub elements_value_count : List Value → ℕ
elements_value_count vs = items_value_count (elements_of (map tree vs))

abbrev pub members_value_count : List (String Global × Value) → ℕ
members_value_count ms = items_value_count (members_of (map key_and_tree ms))

-- with one more
pub elements_more : (vs : List Value) (v : Value) → elements_value_count (vs ++ v ∷ []) ≡ elements_value_count vs + value_count (tree v)
elements_more [] v = omega arith
elements_more (w ∷ vs) v = let more = elements_more vs v in omega (arith, more)

pub members_more : (ms : List (String Global × Value)) (m : String Global × Value) → members_value_count (ms ++ m ∷ []) ≡ members_value_count ms + value_count (tree m.1)
members_more [] m = omega arith
members_more (o ∷ ms) m = let more = members_more ms m in omega (arith, more)

-- what is left of a container has fewer than the container
pub array_shrinks : (rest : Value) (vs left : Vec Value Global) (last : Value) → vs.items ≡ left.items ++ last ∷ []
    → value_count (tree rest) < value_count (tree (Array left)) + value_count (tree last) → value_count (tree rest) < value_count (tree (Array vs))
array_shrinks rest vs left last items less =
    let own : value_count (tree (Array vs)) ≡ 1 + elements_value_count vs.items = ap value_count (tree_array vs) in
    let others : value_count (tree (Array left)) ≡ 1 + elements_value_count left.items = ap value_count (tree_array left) in
    let more : elements_value_count vs.items ≡ elements_value_count left.items + value_count (tree last) = ap elements_value_count items ∙ elements_more left.items last in
    omega (arith, own, others, more, less)

pub object_shrinks : (rest : Value) (ms left : Vec (String Global × Value) Global) (last : String Global × Value) → ms.items ≡ left.items ++ last ∷ []
    → value_count (tree rest) < value_count (tree (Object left)) + value_count (tree last.1) → value_count (tree rest) < value_count (tree (Object ms))
object_shrinks rest ms left last items less =
    let own : value_count (tree (Object ms)) ≡ 1 + members_value_count ms.items = ap value_count (tree_object ms) in
    let others : value_count (tree (Object left)) ≡ 1 + members_value_count left.items = ap value_count (tree_object left) in
    let more : members_value_count ms.items ≡ members_value_count left.items + value_count (tree last.1) = ap members_value_count items ∙ members_more left.items last in
    omega (arith, own, others, more, less)
