use Rattle.std.proofs.Common.{◌≡◌, true, false, refl}
use Rattle.sonic_text.specs.declared.kind.Kind.TheVariants.{Array, Object}
use Rattle.sonic_text.specs.Paths.{Node, key, index}
use Rattle.sonic_pointer.specs.Nodes.{is_key}
use Rattle.sonic_find.specs.Paths.{kind_of}
use Rattle.sonic_find.proofs.WalkLemmas.Path.{contained}
use Rattle.sonic_find.proofs.walk.kind_of_children.Goals as goal

-- a key asks for an object
key_kind : (node : Node) → is_key node ≡ true → kind_of node ≡ Object
key_kind (key k) e = refl
key_kind (index n) e = absurd cc

-- and an index for an array
index_kind : (node : Node) → is_key node ≡ false → kind_of node ≡ Array
index_kind (key k) e = absurd cc
index_kind (index n) e = refl

pub returns-in_Keys-view : goal.returns-in_Keys-view
returns-in_Keys-view c = λ k node h. key_kind node (c.in_Keys-view.ensures.all node ((c.requires.exact node).0 (contained c.args.view.now.children k h)))

pub returns-in_Leaf-view : goal.returns-in_Leaf-view
returns-in_Leaf-view c = λ k node h. absurd (c.in_Leaf-view.ensures node ((c.requires.exact node).0 (contained c.args.view.now.children k h)))

pub returns-in_Indexes-view : goal.returns-in_Indexes-view
returns-in_Indexes-view c = λ k node h. index_kind node (c.in_Indexes-view.ensures.all node ((c.requires.exact node).0 (contained c.args.view.now.children k h)))
