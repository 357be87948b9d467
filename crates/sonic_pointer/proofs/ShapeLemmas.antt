-- The children that the calls of a tree read.
use Rattle.std.proofs.Common.{◌≡◌, ◌≢◌, ℕ, ◌<◌, Bool, List, [], ◌∷◌, ◌++◌, Some, None, length, get_or, slice_get, sym, ap, ◌∙◌, subst, inl, inr, arith, length-append}
use Rattle.std.proofs.lemmas.Bool.{cases_eq}
use Rattle.std.proofs.lemmas.Option.{get_or_from_slice_get, slice_get_within, slice_get-get_or}
use Rattle.sonic_text.specs.Paths.{Node, Path}
use Rattle.sonic_pointer.specs.Nodes.{is_key}
use Rattle.sonic_pointer.specs.Paths.{HasNextNode, IsOrders, IsChildren}
use Rattle.sonic_pointer.specs.Internal.Tries.{Spot, entry_at, prefix_of, prefix_at, label_at, last_node, IsChildVertex}
use Rattle.sonic_pointer.specs.Internal.TrieFields.{entries_of, trie_paths, trie_spots, trie_labels, AreKids, HoldsTree}
use Rattle.sonic_pointer.specs.Views.{HasKind}
use Rattle.sonic_pointer.specs.declared.trie.Trie.{Trie}
use Rattle.sonic_pointer.proofs.VertexLemmas.{spot_here, orders_here, step_at, length-labels, label_here, next_here}
use Rattle.sonic_pointer.proofs.NodeLemmas.{before_other}
use Rattle.sonic_pointer.proofs.WayLemmas.{length-spots_of, spot_at-of, prefix_step}
use Rattle.sonic_pointer.proofs.BranchLemmas.{last_of}

module _ (trie : Trie) (at : ℕ) (tree : HoldsTree trie) (inside : at < length (entries_of trie)) where
  -- the nodes that follow, each once
  pub children_of : IsChildren (trie_paths trie) (prefix_at (trie_spots trie) at) (trie_labels trie at)
  children_of =
      let E = entries_of trie in
      let P = trie_paths trie in
      let spot = spot_here P E tree.tree at inside in
      let many = length-labels P E tree.tree at inside in
      record {
        distinct = λ i j d a b. before_other (get_or (trie_labels trie at) i d) (get_or (trie_labels trie at) j d) (spot.sorted i j d a b);
        exact = λ n. (
          λ found.
              let l : found.0 < length (entry_at E at).children = let f = found.1 in omega arith in
              subst (HasNextNode P (prefix_at (trie_spots trie) at)) (sym (label_here P E tree.tree at inside found.0 n l) ∙ found.2) (next_here P E tree.tree at inside found.0 l),
          spot.complete n,
        );
      }

  -- the numbers of the paths that end here
  pub orders_of : (orders : List ℕ) → orders ≡ (entry_at (entries_of trie) at).orders → IsOrders (trie_paths trie) (prefix_at (trie_spots trie) at) orders
  orders_of orders e =
      subst (IsOrders (trie_paths trie) (prefix_at (trie_spots trie) at)) (orders_here (trie_paths trie) (entries_of trie) tree.tree at inside ∙ sym e)
      (spot_here (trie_paths trie) (entries_of trie) tree.tree at inside).orders

  -- the children, by their numbers
  pub kids_of : (kids : List ℕ) → kids ≡ (entry_at (entries_of trie) at).children → AreKids trie at kids
  kids_of kids e =
      let P = trie_paths trie in
      let E = entries_of trie in
      rw e (record {
        count = length-labels P E tree.tree at inside;
        steps = step_at P E tree.tree at inside;
        below = λ k l. let s = (step_at P E tree.tree at inside k l).below in let n = length-spots_of E in omega arith;
        nodes = λ k d l. label_here P E tree.tree at inside k d l;
      })

  -- the node of the first of them follows in some path
  pub first_next : (kids : List ℕ) (child : ℕ) → AreKids trie at kids → Some child ≡ slice_get kids 0
      → HasNextNode (trie_paths trie) (prefix_at (trie_spots trie) at) (label_at (trie_spots trie) child)
  first_next kids child are first =
      let l : 0 < length kids = slice_get_within kids 0 child (sym first) in
      let same : get_or kids 0 0 ≡ child = get_or_from_slice_get kids 0 child 0 (sym first) in
      let n = label_at (trie_spots trie) child in
      (children_of.exact n).0 (0, omega (arith, l, are.count), are.nodes 0 n l ∙ ap (label_at (trie_spots trie)) same)

  -- without a child nothing follows
  pub none_of : (kids : List ℕ) → AreKids trie at kids → None ≡ slice_get kids 0 → (n : Node) → ¬ HasNextNode (trie_paths trie) (prefix_at (trie_spots trie) at) n
  none_of kids are none n next =
      let k = (children_of.exact n).1 next in
      let some = slice_get-get_or kids 0 0 (omega (arith, k.1, are.count)) in
      absurd (cc)

  -- a node that no child has follows in no path
  pub absent : (n : Node) → ((k : ℕ) → slice_get (trie_labels trie at) k ≢ Some n) → ¬ HasNextNode (trie_paths trie) (prefix_at (trie_spots trie) at) n
  absent n none next =
      let k = (children_of.exact n).1 next in
      none k.0 (slice_get-get_or (trie_labels trie at) k.0 n k.1 ∙ ap Some k.2)

  -- all nodes that follow are of one kind
  pub kind_of : (kind : Bool) (node : Node) → HasNextNode (trie_paths trie) (prefix_at (trie_spots trie) at) node → is_key node ≡ kind
      → HasKind (trie_paths trie) (prefix_at (trie_spots trie) at) kind
  kind_of kind node next own = record {
    node = node;
    next = next;
    all = λ n other. tree.tree.unmixed (prefix_at (trie_spots trie) at) n node other next ∙ own;
  }

-- one child
module _ (trie : Trie) (at : ℕ) (kids : List ℕ) (k child : ℕ) (are : AreKids trie at kids) (found : slice_get kids k ≡ Some child) where
  inside : k < length kids
  inside = slice_get_within kids k child found

  same : get_or kids k 0 ≡ child
  same = get_or_from_slice_get kids k child 0 found

  pub kid_step : IsChildVertex (trie_spots trie) (prefix_at (trie_spots trie) at) child
  kid_step = subst (IsChildVertex (trie_spots trie) (prefix_at (trie_spots trie) at)) same (are.steps k inside)

  pub kid_below : child < length (entries_of trie)
  kid_below = subst (λ c. c < length (entries_of trie)) same (are.below k inside)

  pub kid_node : (d : Node) → get_or (trie_labels trie at) k d ≡ label_at (trie_spots trie) child
  kid_node d = are.nodes k d inside ∙ ap (label_at (trie_spots trie)) same

-- a vertex that follows another one
module _ (trie : Trie) (at : ℕ) (tree : HoldsTree trie) (prefix : Path) (step : IsChildVertex (trie_spots trie) prefix at) where
  pub step_inside : at < length (entries_of trie)
  step_inside = let n = length-spots_of (entries_of trie) in let b = step.below in omega arith

  pub step_below : 0 < at
  step_below = elim (cases_eq at 0) [
    | inl z ↦
        let none : [] ≡ prefix ++ label_at (trie_spots trie) at ∷ [] = sym tree.tree.trie.root ∙ (ap (prefix_at (trie_spots trie)) (sym z) ∙ step.is) in
        absurd (omega (arith, length-append prefix (label_at (trie_spots trie) at ∷ []), ap length none))
    | inr other ↦ omega arith
  ]

  -- has its own node
  pub own_label : (entry_at (entries_of trie) at).node ≡ label_at (trie_spots trie) at
  own_label =
      let E = entries_of trie in
      let own = ap (λ (s : Spot). s.prefix) (spot_at-of E at step_inside) ∙ prefix_step E tree.tree.below at step_below step_inside in
      sym (ap last_node own ∙ last_of (prefix_of E (entry_at E at).parent) (entry_at E at).node)
