-- A path goes on from its first node.
use Rattle.std.proofs.Common.{◌≡◌, ◌==◌, ◌<◌, ◌∙◌, ap, sym, refl, inl, inr, ℕ, zero, suc, List, [], ◌∷◌, length, get_or, drop, Bool, true, false, nat_eq, Option, Some, None, IfSome, arith}
use Rattle.std.proofs.lemmas.Bool.{cases_Bool, eqb-true}
use Rattle.std.proofs.lemmas.Option.{same_Some}
use Rattle.std.specs.Cmp.Lexicographic.{pointwise}
use Rattle.sonic_owned.specs.TreePuts.{change_at, change_of, change_child, put}
use Rattle.sonic_pointer.specs.Nodes.{node_of, path_of}
use Rattle.sonic_pointer.specs.declared.node.PointerNode.{PointerNode}
use Rattle.sonic_text.specs.Paths.{Node, key, index}
use Rattle.sonic_text.specs.TreePaths.{element_at, member_of, child, leads}
use Rattle.sonic_text.specs.Trees.Items.{no_item, item}
use Rattle.sonic_text.specs.Trees.Tree.{container}
use Rattle.sonic_text.specs.Trees.{Tree, Items}
use Rattle.sonic_text.specs.declared.kind.Kind.TheVariants.{Array, Object}
use Rattle.sonic_value.specs.Internal.Loans.{AtFirst}
use lib.Dec.{T}
use mathlib.Core.Bool.{not}

-- what is put in the place of an item is what it is changed to
element_changed : (n : ℕ) (xs : Items) (x : Tree) (c : Tree → Tree) → element_at n xs ≡ Some x → change_at n (λ _. c x) xs ≡ change_at n c xs
element_changed n no_item x c e = refl
element_changed zero (item l y ys) x c e = ap (λ z. item l (c z) ys) (sym (same_Some _ _ e))
element_changed (suc n) (item l y ys) x c e = ap (item l y) (element_changed n ys x c e)

member_changed : (k : List ℕ) (xs : Items) (x : Tree) (c : Tree → Tree) → member_of k xs ≡ Some x → change_of k (λ _. c x) xs ≡ change_of k c xs
member_changed k no_item x c e = refl
member_changed k (item None y ys) x c e = ap (item None y) (member_changed k ys x c e)
member_changed k (item (Some l) y ys) x c e = elim (cases_Bool (pointwise nat_eq l k)) [
  | inl same ↦ rw same (ap (λ z. item (Some l) (c z) ys) (sym (same_Some _ _ (rw same at e))))
  | inr other ↦ rw other (ap (item (Some l) y) (member_changed k ys x c (rw other at e)))
]

child_changed : (node : Node) (t x : Tree) (c : Tree → Tree) → child node t ≡ Some x → change_child node (λ _. c x) t ≡ change_child node c t
child_changed (index n) (container Array xs) x c e = ap (container Array) (element_changed n xs x c e)
child_changed (key k) (container Object xs) x c e = ap (container Object) (member_changed k xs x c e)
child_changed (index n) (container Object xs) x c e = refl
child_changed (key k) (container Array xs) x c e = refl
child_changed node t x c e = absurd cc

-- no node is left, or some are
truth : (b : Bool) → T b → b ≡ true
truth true t = refl
truth false t = absurd t

untruth : (b : Bool) → T (not b) → b ≡ false
untruth true t = absurd t
untruth false t = refl

pub none_left : (path : List PointerNode) (b : Bool) → b ≡ (length path == 0) → T b → path ≡ []
none_left [] b e t = refl
none_left (node ∷ rest) b e t = let past : suc (length rest) ≡ 0 = eqb-true _ _ (sym e ∙ truth b t) in absurd (omega (arith, past))

pub record GoesOn (path : List PointerNode) : Type 0 where
  pub node : PointerNode
  pub rest : List PointerNode
  pub is : path ≡ node ∷ rest

pub some_there : (path : List PointerNode) (b : Bool) → b ≡ (length path == 0) → b ≡ false → GoesOn path
some_there [] b e other = let clash = sym other ∙ e in absurd cc
some_there (node ∷ rest) b e other = record { node = node; rest = rest; is = refl }

pub some_left : (path : List PointerNode) (b : Bool) → b ≡ (length path == 0) → T (not b) → GoesOn path
some_left path b e t = some_there path b e (untruth b t)

shorter : {path left : List PointerNode} (g : GoesOn path) → left ≡ drop 1 path → left ≡ g.rest
shorter g e = e ∙ ap (drop 1) g.is

pub fewer : {path left : List PointerNode} (g : GoesOn path) → left ≡ drop 1 path → length left < length path
fewer g e =
    let left = ap length (shorter g e) in
    let all = ap length g.is in
    omega (arith, left, all)

-- what holds of the node at the front holds at the first
pub at_first : (path : List PointerNode) (g : GoesOn path) (d : PointerNode) (P : Node → Type 0) → P (node_of (get_or path 0 d)) → AtFirst path P
at_first [] g d P p = tt
at_first (node ∷ rest) g d P p = p

pub lent_at_first : {X : Type 0} (o : Option X) (path : List PointerNode) (g : GoesOn path) (d : PointerNode) (P : Node → Type 0) (Q : X → Type 0)
    → IfSome o (λ x. P (node_of (get_or path 0 d)) × Q x) → IfSome o (λ x. AtFirst path P × Q x)
lent_at_first None path g d P Q p = tt
lent_at_first (Some x) path g d P Q p = (at_first path g d P p.0, p.1)

-- where the item leads on, the path does, and what is put further down is put there
pub leads_further : {path left : List PointerNode} (v x : Tree) {r : Option Tree} (g : GoesOn path) → left ≡ drop 1 path → AtFirst path (λ node. Some x ≡ child node v)
    → r ≡ leads x (path_of left) → r ≡ leads v (path_of path)
leads_further v x g e at l =
    let here : Some x ≡ child (node_of g.node) v = rw g.is at at in
    rw (g.is, ← here) (rw (shorter g e) at l)

pub leads_nowhere : {path : List PointerNode} (v : Tree) (g : GoesOn path) → AtFirst path (λ node. None ≡ child node v) → None ≡ leads v (path_of path)
leads_nowhere v g at = let here : None ≡ child (node_of g.node) v = rw g.is at at in rw (g.is, ← here) refl

pub put_further : {path left : List PointerNode} (v x w : Tree) {k m : Tree} (g : GoesOn path) → left ≡ drop 1 path → AtFirst path (λ node. Some x ≡ child node v)
    → AtFirst path (λ node. m ≡ put (node ∷ []) k v) → k ≡ put (path_of left) w x → m ≡ put (path_of path) w v
put_further v x w {m = m} g e at there deep =
    let here : Some x ≡ child (node_of g.node) v = rw g.is at at in
    let one : m ≡ put (node_of g.node ∷ []) (put (path_of g.rest) w x) v = rw (← shorter g e, ← deep) (rw g.is at there) in
    rw g.is (one ∙ child_changed (node_of g.node) v x (put (path_of g.rest) w) (sym here))
