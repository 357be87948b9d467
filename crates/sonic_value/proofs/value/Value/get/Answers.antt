use Rattle.std.proofs.Common.{◌≡◌, ◌∙◌, Some, ap, sym, refl, get_or, map, rules}
use Rattle.sonic_text.specs.Trees.Tree.{container}
use Rattle.sonic_text.specs.declared.kind.Kind.TheVariants.{Array, Object}
use Rattle.sonic_value.proofs.Folds.{tree_array, tree_object}
use Rattle.sonic_value.proofs.ItemLemmas.{element_there, element_past, key_within, seen_at, member_first, member_none}
use Rattle.sonic_value.proofs.value.Value.get.Goals as goal
use Rattle.sonic_value.specs.Internal.Keys.{seen}
use Rattle.sonic_value.specs.Views.{tree, elements_of, members_of, key_and_tree}

pub returns-in-Array-Index : goal.returns-in-Array-Index
returns-in-Array-Index c =
    let xs = c.in-Array-Index.elements in
    let shape : tree c.args.self.now ≡ container Array (elements_of (map tree xs.items)) = ap tree c.in-Array-Index.is-0 ∙ tree_array xs in
    rw (shape, c.in-Array-Index.is-1) (search (rules, element_there, element_past))

pub returns-in-Some : goal.returns-in-Some
returns-in-Some c =
    let ms = c.in-Object-Key.members.items in
    let i = c.in-Some.i in
    let m = c.index.result.now in
    let shape : tree c.args.self.now ≡ container Object (members_of (seen ms)) = ap tree c.in-Object-Key.is-0 ∙ tree_object c.in-Object-Key.members in
    let first = rw c.deref-in-Object-Key.ensures.value at c.in-Some.ensures.some in
    let inside = key_within ms i c.in-Object-Key.key.now first.here in
    let there : get_or ms i m ≡ m = search rules in
    let at = seen_at ms i m inside ∙ ap (λ q. Some (key_and_tree q)) there in
    rw (shape, c.in-Object-Key.is-1) (sym (member_first (seen ms) c.in-Object-Key.key.now i (key_and_tree m) first at))

pub returns-in-None : goal.returns-in-None
returns-in-None c =
    let ms = c.in-Object-Key.members.items in
    let shape : tree c.args.self.now ≡ container Object (members_of (seen ms)) = ap tree c.in-Object-Key.is-0 ∙ tree_object c.in-Object-Key.members in
    rw (shape, c.in-Object-Key.is-1) (sym (member_none (seen ms) c.in-Object-Key.key.now (rw c.deref-in-Object-Key.ensures.value at (c.in-None.ensures.none refl))))
