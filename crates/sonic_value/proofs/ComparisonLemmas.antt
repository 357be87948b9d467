-- What is left of containers that are compared.
use Rattle.std.proofs.Common.{◌≡◌, ◌∙◌, ◌↔◌, ap, sym, refl, arith, ◌+◌, ◌<◌, ◌≤◌, List, [], ◌∷◌, ◌++◌, length, map, Option, Some, None}
use Rattle.std.proofs.lemmas.List.{length-map}
use Rattle.std.specs.Option.{option_to_list}
use Rattle.std.specs.declared.alloc.Global.{Global}
use Rattle.std.specs.declared.string.String.{String}
use Rattle.std.specs.declared.vec.Vec.{Vec}
use Rattle.sonic_text.specs.Trees.{container}
use Rattle.sonic_text.specs.declared.kind.Kind.TheVariants as kind
use Rattle.sonic_value.proofs.Folds.{tree_array, tree_object}
use Rattle.sonic_value.proofs.Lists.{elements_one, members_one}
use Rattle.sonic_value.specs.Internal.Comparisons.{compared_size, compared_sizes, with_alike, with_size, AllAlike, IsAlike}
use Rattle.sonic_value.specs.Views.{tree, key_and_tree, elements_of, members_of}
use Rattle.sonic_value.specs.declared.value.Value.{Value, Array, Object}
use Rattle.sonic_value.specs.declared.value.equal.Comparing.{Comparing}
use Rattle.sonic_value.specs.declared.value.equal.Comparing.TheVariants.{Arrays, Objects}

-- lists that are seen alike are as long
as_long : {A B : Type 0} (f : A → B) (xs ys : List A) → map f xs ≡ map f ys → length xs ≡ length ys
as_long f xs ys all = sym (length-map xs f) ∙ ap length all ∙ length-map ys f

-- two containers of one kind none of whose items is compared yet
pub array_begun : (v w : Value) (vs ws : Vec Value Global) → v ≡ Array vs → w ≡ Array ws
    → (length vs.items ≡ length ws.items) × (map tree vs.items ≡ map tree ws.items) ↔ (tree v ≡ tree w)
array_begun v w vs ws is_v is_w =
    let one = ap tree is_v ∙ tree_array vs in
    let other = ap tree is_w ∙ tree_array ws in (
      λ all. one ∙ ap (λ l. container kind.Array (elements_of l)) all.1 ∙ sym other,
      λ same.
          let shown = sym one ∙ same ∙ other in
          let all : map tree vs.items ≡ map tree ws.items = elements_one _ _ cc in
          (as_long tree vs.items ws.items all, all),
    )

pub object_begun : (v w : Value) (ms os : Vec (String Global × Value) Global) → v ≡ Object ms → w ≡ Object os
    → (length ms.items ≡ length os.items) × (map key_and_tree ms.items ≡ map key_and_tree os.items) ↔ (tree v ≡ tree w)
object_begun v w ms os is_v is_w =
    let one = ap tree is_v ∙ tree_object ms in
    let other = ap tree is_w ∙ tree_object os in (
      λ all. one ∙ ap (λ l. container kind.Object (members_of l)) all.1 ∙ sym other,
      λ same.
          let shown = sym one ∙ same ∙ other in
          let all : map key_and_tree ms.items ≡ map key_and_tree os.items = members_one _ _ cc in
          (as_long key_and_tree ms.items os.items all, all),
    )

-- a container has its end left at least
pub some_compared : (l : Comparing) → 0 < compared_size l
some_compared (Arrays vs ws n) = omega arith
some_compared (Objects ms os n) = omega arith

-- with one more that waits
pub alike_more : (ls : List Comparing) (l : Comparing) → IsAlike l × AllAlike ls ↔ AllAlike (ls ++ l ∷ [])
alike_more [] l = (λ all. (all.0, all.1), λ all. (all.0, all.1))
alike_more (o ∷ ls) l =
    let more = alike_more ls l in
    (λ all. (all.1.0, more.0 (all.0, all.1.1)), λ all. let parts = more.1 all.1 in (parts.0, (all.0, parts.1)))

pub sizes_more : (ls : List Comparing) (l : Comparing) → compared_sizes (ls ++ l ∷ []) ≡ compared_sizes ls + compared_size l
sizes_more [] l = omega arith
sizes_more (o ∷ ls) l = let more = sizes_more ls l in omega (arith, more)

-- with one fewer, which is in hand
pub alike_fewer : (ls left : List Comparing) (o : Option Comparing) → ls ≡ left ++ option_to_list o → (o ≡ None → length ls ≡ 0) → with_alike o left ↔ AllAlike ls
alike_fewer ls left (Some l) items none = rw items (alike_more left l)
alike_fewer [] left None items none = (λ all. all, λ all. all)
alike_fewer (l ∷ ls) left None items none = absurd (omega (arith, none refl))

pub sizes_fewer : (ls left : List Comparing) (o : Option Comparing) → ls ≡ left ++ option_to_list o → with_size o left ≤ compared_sizes ls
sizes_fewer ls left (Some l) items = let more = ap compared_sizes items ∙ sizes_more left l in omega (arith, more)
sizes_fewer ls left None items = omega arith
