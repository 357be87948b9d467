-- The children of a vertex, and the nodes by which they follow it.
use Rattle.std.proofs.Common.{◌≡◌, ℕ, ◌<◌, List, [], ◌∷◌, ◌++◌, length, get_or, sym, ap, ◌∙◌, subst, arith}
use Rattle.std.proofs.lemmas.List.{length-map, get_or-map}
use Rattle.sonic_text.specs.Paths.{Node, Path}
use Rattle.sonic_pointer.specs.Nodes.{is_key}
use Rattle.sonic_pointer.specs.Paths.{HasNextNode, HasPrefix, IsMixed}
use Rattle.sonic_pointer.specs.Internal.Tries.{Entry, Spot, entry_at, spots_of, spot_at, prefix_at, label_at, labels, IsChildVertex, IsSpot, IsTree}
use Rattle.sonic_pointer.proofs.PathLemmas.{longer, same, shorter, fork, next_of_prefix}
use Rattle.sonic_pointer.proofs.WayLemmas.{spot_at-of, length-spots_of}
use Rattle.sonic_pointer.proofs.TreeLemmas.{sound_of}

-- the nodes that follow the vertex with this number
abbrev pub labels_at : List Entry → ℕ → List Node
labels_at E at = labels (spots_of E) (spot_at (spots_of E) at)

module _ (P : List Path) (E : List Entry) (tree : IsTree P E) (at : ℕ) (inside : at < length E) where
  -- the vertex is what the trie says of it
  pub spot_here : IsSpot P (spots_of E) (spot_at (spots_of E) at)
  spot_here = tree.trie.all at (let n = length-spots_of E in omega arith)

  pub children_here : (spot_at (spots_of E) at).children ≡ (entry_at E at).children
  children_here = ap (λ (s : Spot). s.children) (spot_at-of E at inside)

  pub orders_here : (spot_at (spots_of E) at).orders ≡ (entry_at E at).orders
  orders_here = ap (λ (s : Spot). s.orders) (spot_at-of E at inside)

  -- a child is one step below
  pub step_at : (k : ℕ) → k < length (entry_at E at).children → IsChildVertex (spots_of E) (prefix_at (spots_of E) at) (get_or (entry_at E at).children k 0)
  step_at k l =
      let e = children_here in
      let m = ap length e in
      subst (λ c. IsChildVertex (spots_of E) (prefix_at (spots_of E) at) (get_or c k 0)) e (spot_here.steps k 0 (omega arith))

  pub length-labels : length (labels_at E at) ≡ length (entry_at E at).children
  length-labels = length-map (spot_at (spots_of E) at).children (label_at (spots_of E)) ∙ ap length children_here

  pub label_here : (k : ℕ) (d : Node) → k < length (entry_at E at).children → get_or (labels_at E at) k d ≡ label_at (spots_of E) (get_or (entry_at E at).children k 0)
  label_here k d l =
      let m = ap length children_here in
      get_or-map (label_at (spots_of E)) (spot_at (spots_of E) at).children k 0 d (omega arith) ∙ ap (λ c. label_at (spots_of E) (get_or c k 0)) children_here

  -- a node by which a child follows is next in some path
  pub next_here : (k : ℕ) → k < length (entry_at E at).children → HasNextNode P (prefix_at (spots_of E) at) (label_at (spots_of E) (get_or (entry_at E at).children k 0))
  next_here k l = let step = step_at k l in sound_of P E tree (get_or (entry_at E at).children k 0) step.below (prefix_at (spots_of E) at) _ [] step.is

-- a path that ends at a vertex that is there mixes with none
pub pure_ended : (P : List Path) (E : List Entry) (tree : IsTree P E) (at : ℕ) (inside : at < length E) (p : Path) → prefix_at (spots_of E) at ≡ p → ¬ IsMixed P p
pure_ended P E tree at inside p prefix mixed =
    let next = sound_of P E tree at (let n = length-spots_of E in omega arith) mixed.prefix mixed.node mixed.rest (prefix ∙ mixed.is) in
    mixed.kinds (tree.unmixed mixed.prefix mixed.other mixed.node mixed.next next)

-- nor one that leaves the tree where all next nodes are of its kind
pub pure_left : (P : List Path) (E : List Entry) (tree : IsTree P E) (at : ℕ) (inside : at < length E) (p g : Path) (n : Node) (r : Path) → prefix_at (spots_of E) at ≡ g → p ≡ g ++ n ∷ r
    → ¬ HasNextNode P g n → ((m : Node) → HasNextNode P g m → is_key m ≡ is_key n) → ¬ IsMixed P p
pure_left P E tree at inside p g n r prefix e fresh kind mixed =
    elim (fork g mixed.prefix r mixed.rest n mixed.node (sym e ∙ mixed.is)) [
      | longer mid w ↦
          let next = sound_of P E tree at (let n = length-spots_of E in omega arith) mixed.prefix mixed.node mid (prefix ∙ w) in
          mixed.kinds (tree.unmixed mixed.prefix mixed.other mixed.node mixed.next next)
      | same f m ↦ mixed.kinds (kind mixed.other (subst (λ x. HasNextNode P x mixed.other) f mixed.next) ∙ ap is_key (sym m))
      | shorter mid w ↦ fresh (next_of_prefix mid (subst (HasPrefix P) w (record { rest = mixed.other ∷ mixed.next.rest; path = mixed.next.path })))
    ]
