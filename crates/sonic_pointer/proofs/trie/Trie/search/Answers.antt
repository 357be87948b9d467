use Rattle.std.proofs.Common.{◌≡◌, Some, sym, ap, ◌∙◌, arith}
use Rattle.std.proofs.lemmas.Option.{slice_get-get_or}
use Rattle.sonic_pointer.specs.Nodes.{node_of}
use Rattle.sonic_pointer.specs.Internal.Tries.{prefix_at}
use Rattle.sonic_pointer.specs.Internal.TrieFields.{entries_of, trie_paths, trie_spots, trie_labels}
use Rattle.sonic_pointer.proofs.VertexLemmas.{spot_here}
use Rattle.sonic_pointer.proofs.ShapeLemmas.{kid_step, kid_node}
use Rattle.sonic_pointer.proofs.NodeLemmas.{after_middle, before_middle, node_cmp_same}
use Rattle.sonic_pointer.proofs.trie.Trie.search.Goals as goal

pub label-requires-clause-step : goal.label-requires-clause-step
label-requires-clause-step c =
    (prefix_at (trie_spots c.args.self.now) c.args.at, kid_step c.args.self.now c.args.at _ _ c.get_near-child.result c.children-children.ensures c.get_near-child.ensures.number)

pub loop-low-preserved-in-Less : goal.loop-low-preserved-in-Less
loop-low-preserved-in-Less c =
    let trie = c.args.self.now in
    let i = c.loop-low.invariant in
    let middle = c.probe-middle.result in
    let probed = c.probe-middle.ensures in
    let kids = c.children-children.ensures in
    let many = kids.count in
    let node = kid_node trie c.args.at _ _ c.get_near-child.result kids c.get_near-child.ensures.number in
    let sorted = (spot_here (trie_paths trie) (entries_of trie) c.requires.trie.tree c.args.at c.requires.inside).sorted in
    record {
      window = c.get_near-child.ensures.window;
      order = omega arith;
      end = omega arith;
      before = i.before;
      after = λ n s. before_middle (trie_labels trie c.args.at) n (node_of c.label.result) middle sorted (omega arith)
          (λ d. node d ∙ sym c.label.ensures) (sym (c.in-Less.ensures n s));
    }

pub returns-in-Equal-clause-found : goal.returns-in-Equal-clause-found
returns-in-Equal-clause-found c = λ n s.
    let i = c.loop-low.invariant in
    let middle = c.probe-middle.result in
    let probed = c.probe-middle.ensures in
    let kids = c.children-children.ensures in
    let many = kids.count in
    let same : n ≡ node_of c.label.result = node_cmp_same n (node_of c.label.result) (sym (c.in-Equal.ensures n s)) in
    slice_get-get_or (trie_labels c.args.self.now c.args.at) middle n (omega arith)
    ∙ ap Some (kid_node c.args.self.now c.args.at _ _ c.get_near-child.result kids c.get_near-child.ensures.number n ∙ (sym c.label.ensures ∙ sym same))

pub loop-low-preserved : goal.loop-low-preserved
loop-low-preserved c =
    let trie = c.args.self.now in
    let i = c.loop-low.invariant in
    let middle = c.probe-middle.result in
    let probed = c.probe-middle.ensures in
    let kids = c.children-children.ensures in
    let many = kids.count in
    let node = kid_node trie c.args.at _ _ c.get_near-child.result kids c.get_near-child.ensures.number in
    let sorted = (spot_here (trie_paths trie) (entries_of trie) c.requires.trie.tree c.args.at c.requires.inside).sorted in
    record {
      window = c.get_near-child.ensures.window;
      order = omega arith;
      end = i.end;
      before = λ n s. after_middle (trie_labels trie c.args.at) n (node_of c.label.result) middle sorted (omega arith)
          (λ d. node d ∙ sym c.label.ensures) (sym (c.in-Greater.ensures n s));
      after = i.after;
    }
