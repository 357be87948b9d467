use Rattle.std.proofs.Common.{inl, inr, refl, subst, arith}
use Rattle.std.proofs.lemmas.Option.{get_or_from_slice_get, slice_get_within}
use Rattle.sonic_text.specs.Paths.{Node, index}
use Rattle.sonic_pointer.specs.Internal.Tries.{IsBefore, IsGap, spot_at, prefix_at}
use Rattle.sonic_pointer.specs.Internal.TrieFields.{entries_of, trie_paths, trie_spots, trie_labels}
use Rattle.sonic_pointer.specs.Paths.{HasNextNode}
use Rattle.sonic_pointer.specs.Views.{View, IsNextIndex}
use Rattle.sonic_pointer.proofs.VertexLemmas.{spot_here}
use Rattle.sonic_pointer.proofs.TreeLemmas.{gap_fresh}
use Rattle.sonic_pointer.proofs.NodeLemmas.{before_index}
use Rattle.sonic_pointer.proofs.view.TreeView.index_from.Goals as goal

pub returns-in-Err-clause-err : goal.returns-in-Err-clause-err
returns-in-Err-clause-err c =
    let view = c.self.inside in
    let spot = spot_here (trie_paths view.trie) (entries_of view.trie) c.self.invariant.trie.tree view.at c.self.invariant.inside in
    let fresh : (n : Node) → IsGap (trie_labels view.trie view.at) n c.in-Err.position → ¬ HasNextNode (trie_paths view.trie) (prefix_at (trie_spots view.trie) view.at) n =
    λ n. gap_fresh (trie_paths view.trie) (trie_spots view.trie) (spot_at (trie_spots view.trie) view.at) n c.in-Err.position spot in
    let gap = c.in-Err.ensures.absent (index c.args.number) refl in
    subst (λ (v : View). IsNextIndex v c.args.number c.next_index.result) c.self.view_is record {
      absent = fresh (index c.args.number) gap;
      none_before = λ k later less. fresh (index k) (c.next_index.ensures.wider c.args.number k gap later less);
      reached = elim c.next_index.ensures.reached [
        | inl last ↦ inl last
        | inr is ↦
            let inside = slice_get_within (trie_labels view.trie view.at) c.in-Err.position _ is in
            let next = get_or_from_slice_get (trie_labels view.trie view.at) c.in-Err.position (index c.next_index.result) (index 0) is in
            let before = subst (IsBefore (index c.args.number)) next (gap.after c.in-Err.position (index 0) (omega arith) inside) in
            inr (before_index c.args.number c.next_index.result before, c.in-Err.position, is)
      ];
    }
