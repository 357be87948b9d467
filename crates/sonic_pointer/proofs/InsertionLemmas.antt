-- A path that goes down a tree, and where it leaves it.
use Rattle.std.proofs.Common.{◌≡◌, ℕ, ◌+◌, ◌<◌, List, ◌∷◌, ◌++◌, [], Some, length, get_or, slice_get, take, drop, sym, ap, ◌∙◌, subst, inl, inr, arith}
use Rattle.std.proofs.lemmas.List.{take_more, take_all}
use Rattle.std.proofs.lemmas.Option.{get_or_from_slice_get}
use Rattle.sonic_text.specs.Paths.{Node, index, Path}
use Rattle.sonic_pointer.specs.Nodes.{is_key}
use Rattle.sonic_pointer.specs.Paths.{HasNextNode, IsMixed}
use Rattle.sonic_pointer.specs.Internal.Tries.{spot_at, prefix_at, IsGap}
use Rattle.sonic_pointer.specs.Internal.TrieFields.{entries_of, trie_paths, trie_spots, trie_labels, AreKids, HoldsTree, HasOtherKind, IsInsertionPoint}
use Rattle.sonic_pointer.specs.declared.trie.Trie.{Trie}
use Rattle.sonic_pointer.proofs.TreeLemmas.{left_parts, gap_fresh, kinds_same}
use Rattle.sonic_pointer.proofs.ShapeLemmas.{kid_step, kid_below, kid_node}
use Rattle.sonic_pointer.proofs.VertexLemmas.{spot_here, pure_ended, pure_left}

-- one node down
pub step_down : (trie : Trie) (at i child depth : ℕ) (p : Path) (kids : List ℕ) → AreKids trie at kids → slice_get kids i ≡ Some child → prefix_at (trie_spots trie) at ≡ take depth p → depth < length p
    → slice_get (trie_labels trie at) i ≡ Some (get_or p depth (index 0)) → (child < length (entries_of trie)) × (prefix_at (trie_spots trie) child ≡ take (depth + 1) p)
step_down trie at i child depth p kids are kid prefix short found =
    let n = get_or p depth (index 0) in
    let label = sym (kid_node trie at kids i child are kid (index 0)) ∙ get_or_from_slice_get (trie_labels trie at) i n (index 0) found in
    let down = ap (λ m. prefix_at (trie_spots trie) at ++ m ∷ []) label ∙ (ap (λ f. f ++ n ∷ []) prefix ∙ sym (take_more p depth (index 0) short)) in
    (kid_below trie at kids i child are kid, (kid_step trie at kids i child are kid).is ∙ down)

-- the path mixes
pub mixed_here : (trie : Trie) (at depth : ℕ) (p : Path) (n : Node) → prefix_at (trie_spots trie) at ≡ take depth p → depth < length p → get_or p depth (index 0) ≡ n
    → HasOtherKind trie at n → IsMixed (trie_paths trie) p
mixed_here trie at depth p n prefix short e h = record {
  prefix = take depth p;
  node = get_or p depth (index 0);
  rest = drop (depth + 1) p;
  other = h.other;
  is = left_parts p depth short;
  next = subst (λ f. HasNextNode (trie_paths trie) f h.other) prefix h.next;
  kinds = λ k. h.kinds (k ∙ ap is_key e);
}

-- or leaves the tree
pub point_here : (trie : Trie) (at depth position : ℕ) (p : Path) (n : Node) → HoldsTree trie → at < length (entries_of trie) → prefix_at (trie_spots trie) at ≡ take depth p → depth < length p
    → get_or p depth (index 0) ≡ n → IsGap (trie_labels trie at) n position → ¬ HasOtherKind trie at n → IsInsertionPoint (trie_paths trie) (entries_of trie) p (record { at = at; depth = depth; position = position })
point_here trie at depth position p n tree inside prefix short e gap pure =
    let E = entries_of trie in
    let P = trie_paths trie in
    let g = prefix_at (trie_spots trie) at in
    let fresh : ¬ HasNextNode P (take depth p) (get_or p depth (index 0)) = λ next.
    gap_fresh P (trie_spots trie) (spot_at (trie_spots trie) at) n position (spot_here P E tree.tree at inside) gap
    (subst (HasNextNode P g) e (subst (λ f. HasNextNode P f (get_or p depth (index 0))) (sym prefix) next)) in
    let kind : (m : Node) → HasNextNode P (take depth p) m → is_key m ≡ is_key (get_or p depth (index 0)) = λ m next.
    elim (kinds_same (is_key m) (is_key (get_or p depth (index 0)))) [
      | inl same ↦ same
      | inr differ ↦ absurd (pure (record { other = m; next = subst (λ f. HasNextNode P f m) (sym prefix) next; kinds = λ k. differ (k ∙ ap is_key (sym e)) }))
    ] in
    record {
      inside = inside;
      deep = omega arith;
      prefix = prefix;
      gap = λ _. subst (λ x. IsGap (trie_labels trie at) x position) (sym e) gap;
      unmixed = pure_left P E tree.tree at inside p (take depth p) (get_or p depth (index 0)) (drop (depth + 1) p) prefix (left_parts p depth short) fresh kind;
    }

-- or ends in it
pub ending_here : (trie : Trie) (at depth : ℕ) (p : Path) → HoldsTree trie → at < length (entries_of trie) → prefix_at (trie_spots trie) at ≡ take depth p → depth ≡ length p
    → IsInsertionPoint (trie_paths trie) (entries_of trie) p (record { at = at; depth = depth; position = 0 })
ending_here trie at depth p tree inside prefix end = record {
  inside = inside;
  deep = omega arith;
  prefix = prefix;
  gap = λ short. absurd (omega arith);
  unmixed = pure_ended (trie_paths trie) (entries_of trie) tree.tree at inside p (prefix ∙ take_all depth p (omega arith));
}
