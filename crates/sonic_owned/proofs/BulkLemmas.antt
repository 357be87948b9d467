-- How much is left of a value that is taken apart.
use Rattle.std.proofs.Common.{◌≡◌, ◌∙◌, ap, arith, ℕ, ◌+◌, ◌<◌, List, [], ◌∷◌, ◌++◌}
use Rattle.std.specs.declared.alloc.Global.{Global}
use Rattle.std.specs.declared.vec.Vec.{Vec}
use Rattle.sonic_owned.proofs.Folds.{elements_of, members_of, elements-out, elements-roll, members-out, members-roll, form-array, form-object, form-node}
use Rattle.sonic_owned.specs.Forms.{Form, raw, level, unnamed, named}
use Rattle.sonic_owned.specs.Internal.Bulks.{bulk, members_bulk, node_form}
use Rattle.sonic_owned.specs.Views.{form}
use Rattle.sonic_owned.specs.declared.made.MadeText.{MadeText}
use Rattle.sonic_owned.specs.declared.value.LazyArray.{LazyArray, out-LazyArray, roll-LazyArray}
use Rattle.sonic_owned.specs.declared.value.LazyObject.{LazyObject, out-LazyObject, roll-LazyObject}
use Rattle.sonic_owned.specs.declared.value.Node.{Array, Object}
use Rattle.sonic_owned.specs.declared.value.OwnedLazyValue.{OwnedLazyValue}

-- each form holds something
pub some_bulk : (f : Form) → 0 < bulk f
some_bulk (raw b) = omega arith
some_bulk (level kind ms) = omega arith

-- what elements hold, and members
abbrev pub elements_bulk : List OwnedLazyValue → ℕ
elements_bulk vs = members_bulk (unnamed (elements_of vs))

abbrev pub pairs_bulk : List (MadeText × OwnedLazyValue) → ℕ
pairs_bulk ms = members_bulk (named (members_of ms))

-- with one more at the end
elements_more : (vs : List OwnedLazyValue) (v : OwnedLazyValue) → elements_bulk (vs ++ v ∷ []) ≡ elements_bulk vs + bulk (form v)
elements_more [] v = omega arith
elements_more (o ∷ vs) v = omega (arith, elements_more vs v)

pairs_more : (ms : List (MadeText × OwnedLazyValue)) (m : MadeText × OwnedLazyValue) → pairs_bulk (ms ++ m ∷ []) ≡ pairs_bulk ms + bulk (form m.1)
pairs_more [] m = omega arith
pairs_more (o ∷ ms) m = omega (arith, pairs_more ms m)

-- and without it
pub elements_popped : (vs left : List OwnedLazyValue) (v : OwnedLazyValue) → vs ≡ left ++ v ∷ [] → elements_bulk vs ≡ elements_bulk left + bulk (node_form v.node)
elements_popped vs left v items = ap elements_bulk items ∙ elements_more left v ∙ ap (λ f. elements_bulk left + bulk f) (form-node v)

pub pairs_popped : (ms left : List (MadeText × OwnedLazyValue)) (m : MadeText × OwnedLazyValue) → ms ≡ left ++ m ∷ [] → pairs_bulk ms ≡ pairs_bulk left + bulk (node_form m.1.node)
pairs_popped ms left m items = ap pairs_bulk items ∙ pairs_more left m ∙ ap (λ f. pairs_bulk left + bulk f) (form-node m.1)

-- what a level holds
pub array_bulk : (a : LazyArray) → bulk (node_form (Array a)) ≡ 3 + elements_bulk (out-LazyArray a).elements.items
array_bulk a = ap bulk (form-array a) ∙ ap (λ fs. 3 + members_bulk (unnamed fs)) (elements-out a)

pub object_bulk : (o : LazyObject) → bulk (node_form (Object o)) ≡ 3 + pairs_bulk (out-LazyObject o).members.items
object_bulk o = ap bulk (form-object o) ∙ ap (λ ms. 3 + members_bulk (named ms)) (members-out o)

pub array_made : (v : Vec OwnedLazyValue Global) → bulk (node_form (Array (roll-LazyArray (record { elements = v })))) ≡ 3 + elements_bulk v.items
array_made v = ap bulk (form-array _) ∙ ap (λ fs. 3 + members_bulk (unnamed fs)) (elements-roll (record { elements = v }))

pub object_made : (v : Vec (MadeText × OwnedLazyValue) Global) → bulk (node_form (Object (roll-LazyObject (record { members = v })))) ≡ 3 + pairs_bulk v.items
object_made v = ap bulk (form-object _) ∙ ap (λ ms. 3 + members_bulk (named ms)) (members-roll (record { members = v }))
