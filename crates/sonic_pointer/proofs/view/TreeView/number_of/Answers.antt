use Rattle.std.proofs.Common.{subst}
use Rattle.sonic_pointer.specs.Paths.{HasNextNode}
use Rattle.sonic_pointer.specs.Internal.Tries.{spot_at}
use Rattle.sonic_pointer.specs.Internal.TrieFields.{entries_of, trie_paths, trie_spots}
use Rattle.sonic_pointer.specs.Views.{View}
use Rattle.sonic_pointer.proofs.VertexLemmas.{spot_here}
use Rattle.sonic_pointer.proofs.TreeLemmas.{gap_fresh}
use Rattle.sonic_pointer.proofs.view.TreeView.number_of.Goals as goal

pub returns-in-Err-clause-none : goal.returns-in-Err-clause-none
returns-in-Err-clause-none c = λ n s.
    let view = c.self.inside in
    subst (λ (v : View). ¬ HasNextNode v.paths v.prefix n) c.self.view_is
    (gap_fresh (trie_paths view.trie) (trie_spots view.trie) (spot_at (trie_spots view.trie) view.at) n _
    (spot_here (trie_paths view.trie) (entries_of view.trie) c.self.invariant.trie.tree view.at c.self.invariant.inside) (c.in-Err.ensures.absent n s))
