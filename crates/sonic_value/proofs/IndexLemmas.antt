-- The tree in which a node names a value.
use Rattle.std.proofs.Common.{◌≡◌, ◌≢◌, ap, sym, refl, inl, inr, ℕ, List, [], ◌∷◌, ◌++◌, Option, Some, None, Result, Ok, Err, OnOk, IfErr, OnErr, IsSome, true, false, nat_eq, option_map, Bor}
use Rattle.std.proofs.lemmas.Bool.{cases_Bool}
use Rattle.std.specs.Cmp.Lexicographic.{pointwise, nat_list_eq_equiv}
use Rattle.std.specs.Option.{is_some}
use Rattle.std.specs.declared.alloc.Global.{Global}
use Rattle.std.specs.declared.vec.Vec.{Vec}
use Rattle.sonic_error.specs.Errors.{IsPlainError}
use Rattle.sonic_error.specs.declared.error.Error.{Error}
use Rattle.sonic_error.specs.declared.code.ErrorCode.TheVariants.{GetIndexOutOfArray, NoMemory, UnexpectedVisitType}
use Rattle.sonic_owned.specs.TreeEdits.{append_item}
use Rattle.sonic_pointer.specs.Nodes.{node_of}
use Rattle.sonic_pointer.specs.declared.node.PointerNode.{PointerNode}
use Rattle.sonic_pointer.specs.declared.node.PointerNode.TheVariants.{Key, Index}
use Rattle.sonic_text.specs.Paths.{Node, key, index}
use Rattle.sonic_text.specs.TreePaths.{child, member_of}
use Rattle.sonic_text.specs.Trees.Items.{no_item, item}
use Rattle.sonic_text.specs.Trees.Tree.{null, container}
use Rattle.sonic_text.specs.Trees.{Tree, Items}
use Rattle.sonic_text.specs.declared.kind.Kind.TheVariants.{Array as KArray, Object as KObject}
use Rattle.sonic_value.proofs.Folds.{tree_array, tree_object}
use Rattle.sonic_value.specs.Indexing.{with_node, IsUnindexed, out_of_memory}
use Rattle.sonic_value.specs.Internal.Inserted.{IsInserted}
use Rattle.sonic_value.specs.Views.{tree, value_step, members_of, level_object, object_in}
use Rattle.sonic_value.specs.declared.value.Value.TheOpen.{Value-F}
use Rattle.sonic_value.specs.declared.value.Value.TheViews.{out-roll-Value}
use Rattle.sonic_value.specs.declared.value.Value.{Value, Null, Array, Object, roll-Value, ind-Value, fold-roll-Value}

-- a node that is no key is an index
pub not_key : (node : PointerNode) → ((text : Bor (List ℕ)) → node ≢ Key text) → (n : ℕ) × (node_of node ≡ index n)
not_key (Key text) other = absurd (other text refl)
not_key (Index n) other = (n, refl)

-- what a node names is there, or it isn't
there : (node : Node) (x y : Tree) → child node x ≡ Some y → IsInserted node x x
there (index n) (container KArray xs) y e = record { base = rw e refl; there = rw e refl }
there (key k) (container KObject xs) y e = record { base = rw e refl; there = rw e refl }
there node x y e = absurd cc

pub found : (node : Node) (x : Tree) (o : Option (Bor Value)) → option_map (λ f. tree f.now) o ≡ child node x → is_some o ≡ true → IsInserted node x x
found node x None e some = absurd cc
found node x (Some f) e some = there node x (tree f.now) (sym e)

pub missing : (node : Node) (x : Tree) (o : Option (Bor Value)) → option_map (λ f. tree f.now) o ≡ child node x → is_some o ≡ false → child node x ≡ None
missing node x None e none = sym e
missing node x (Some f) e none = absurd cc

-- an array has no such element
pub past_array : (n : ℕ) (xs : Items) → child (index n) (container KArray xs) ≡ None → with_node (index n) (container KArray xs) ≡ Err GetIndexOutOfArray
past_array n xs e = rw e refl

-- a member is appended
appended : (ms : List (List ℕ × Tree)) (k : List ℕ) (x : Tree) → members_of (ms ++ (k, x) ∷ []) ≡ append_item (members_of ms) (Some k) x
appended [] k x = refl
appended (m ∷ ms) k x = ap (item (Some m.0) m.1) (appended ms k x)

last_there : (xs : Items) (k : List ℕ) (x : Tree) → IsSome (member_of k (append_item xs (Some k) x))
last_there no_item k x = rw (nat_list_eq_equiv.refl k) refl
last_there (item None y ys) k x = last_there ys k x
last_there (item (Some l) y ys) k x = elim (cases_Bool (pointwise nat_eq l k)) [ inl same ↦ rw same refl | inr other ↦ rw other (last_there ys k x) ]

with_member : (k : List ℕ) (xs : Items) → child (key k) (container KObject xs) ≡ None
    → IsInserted (key k) (container KObject xs) (container KObject (append_item xs (Some k) null))
with_member k xs e = record { base = rw e refl; there = last_there xs k null }

pub inserted : (k : List ℕ) (ms ns : List (List ℕ × Tree)) (x y : Tree) → x ≡ container KObject (members_of ms) → y ≡ container KObject (members_of ns)
    → child (key k) x ≡ None → ns ≡ ms ++ (k, null) ∷ [] → IsInserted (key k) x y
inserted k ms ns x y x_is y_is none more =
    rw (x_is, y_is, more, appended ms k null) (with_member k (members_of ms) (rw x_is at none))

pub new_member : (k : List ℕ) (ns : List (List ℕ × Tree)) (x y : Tree) → x ≡ null → y ≡ container KObject (members_of ns) → ns ≡ (k, null) ∷ [] → IsInserted (key k) x y
new_member k ns x y x_is y_is one = rw (x_is, y_is, one) (record { base = refl; there = last_there no_item k null })

-- there is no memory for it
pub unappended : (k : List ℕ) (x y : Tree) (e : Error) → IsInserted (key k) x y → child (key k) x ≡ None → IsPlainError e NoMemory → IsUnindexed (key k) x e
unappended k x y e is none plain = out_of_memory y is.base none plain

-- what follows of an answer
pub on_ok : {A E P Q : Type 0} (r : Result A E) → (P → Q) → OnOk r P → OnOk r Q
on_ok (Ok x) f p = f p
on_ok (Err e) f p = tt

pub if_err : {A E : Type 0} {P Q : E → Type 0} (r : Result A E) → ((e : E) → P e → Q e) → IfErr r P → IfErr r Q
if_err (Ok x) f p = tt
if_err (Err e) f p = f e p

pub on_err : {A E P Q : Type 0} (r : Result A E) → (P → Q) → OnErr r P → OnErr r Q
on_err (Ok x) f p = tt
on_err (Err e) f p = f p

-- other kinds
pub tree-null : tree Null ≡ null
unfolding Rattle.sonic_value.specs.declared.value.Value.TheViews.roll-Value denote.Hole.Carrier.roll
tree-null = fold-roll-Value Tree value_step Value-F.Null

no_index : (n : ℕ) (o : Value-F Value) → ((xs : Vec Value Global) → roll-Value o ≢ Array xs) → with_node (index n) (tree (roll-Value o)) ≡ Err UnexpectedVisitType
unfolding Rattle.sonic_value.specs.declared.value.Value.TheViews.roll-Value denote.Hole.Carrier.roll
no_index n Value-F.Null other = rw (fold-roll-Value Tree value_step Value-F.Null) refl
no_index n (Value-F.Bool b) other = rw (fold-roll-Value Tree value_step (Value-F.Bool b)) refl
no_index n (Value-F.Number s) other = rw (fold-roll-Value Tree value_step (Value-F.Number s)) refl
no_index n (Value-F.String s) other = rw (fold-roll-Value Tree value_step (Value-F.String s)) refl
no_index n (Value-F.Array xs) other = absurd (other xs refl)
no_index n (Value-F.Object ms) other = rw tree_object refl

no_key : (k : List ℕ) (o : Value-F Value) → roll-Value o ≢ Null → level_object o ≡ None → with_node (key k) (tree (roll-Value o)) ≡ Err UnexpectedVisitType
unfolding Rattle.sonic_value.specs.declared.value.Value.TheViews.roll-Value denote.Hole.Carrier.roll
no_key k Value-F.Null full other = absurd (full refl)
no_key k (Value-F.Bool b) full other = rw (fold-roll-Value Tree value_step (Value-F.Bool b)) refl
no_key k (Value-F.Number s) full other = rw (fold-roll-Value Tree value_step (Value-F.Number s)) refl
no_key k (Value-F.String s) full other = rw (fold-roll-Value Tree value_step (Value-F.String s)) refl
no_key k (Value-F.Array xs) full other = rw tree_array refl
no_key k (Value-F.Object ms) full other = absurd cc

pub not_array : (n : ℕ) (v : Value) → ((xs : Vec Value Global) → v ≢ Array xs) → with_node (index n) (tree v) ≡ Err UnexpectedVisitType
not_array n = ind-Value (λ v. ((xs : Vec Value Global) → v ≢ Array xs) → with_node (index n) (tree v) ≡ Err UnexpectedVisitType) (λ x y is. no_index n x)

pub not_object : (k : List ℕ) (v : Value) → v ≢ Null → object_in v ≡ None → with_node (key k) (tree v) ≡ Err UnexpectedVisitType
not_object k = ind-Value (λ v. v ≢ Null → object_in v ≡ None → with_node (key k) (tree v) ≡ Err UnexpectedVisitType)
    (λ x y is full other. no_key k x full (rw out-roll-Value at other))
