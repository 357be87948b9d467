use Rattle.std.proofs.Common.{◌∷◌, ◌++◌, [], Some, length, slice_get, sym, ap, ◌∙◌, arith}
use Rattle.std.proofs.lemmas.Option.{slice_get-get_or}
use Rattle.sonic_text.specs.Paths.{index}
use Rattle.sonic_pointer.specs.Nodes.{node_of}
use Rattle.sonic_pointer.specs.Internal.Tries.{prefix_at}
use Rattle.sonic_pointer.specs.Internal.TrieFields.{trie_spots, trie_labels}
use Rattle.sonic_pointer.specs.Views.{View}
use Rattle.sonic_pointer.proofs.ShapeLemmas.{kid_step, kid_below, kid_node}
use Rattle.sonic_pointer.proofs.view.TreeView.child.Goals as goal

pub label-node-requires-clause-step : goal.label-node-requires-clause-step
label-node-requires-clause-step c = (_, kid_step c.self.inside.trie c.self.inside.at _ c.args.i c.get-at.result c.children.ensures c.get-at.ensures)

pub invariant_of-below : goal.invariant_of-below
invariant_of-below c =
    record { trie = c.self.invariant.trie; inside = kid_below c.self.inside.trie c.self.inside.at _ c.args.i c.get-at.result c.children.ensures c.get-at.ensures }

pub returns-clause-node : goal.returns-clause-node
returns-clause-node c =
    let view = c.self.inside in
    let many = c.children.ensures.count in
    let same = ap (λ (v : View). length v.children) c.self.view_is in
    let node = kid_node view.trie view.at _ c.args.i c.get-at.result c.children.ensures c.get-at.ensures (index 0) in
    ap (λ (v : View). slice_get v.children c.args.i) (sym c.self.view_is)
    ∙ (slice_get-get_or (trie_labels view.trie view.at) c.args.i (index 0) (omega arith) ∙ ap Some (node ∙ sym c.label-node.ensures))

pub returns-clause-prefix : goal.returns-clause-prefix
returns-clause-prefix c =
    let view = c.self.inside in
    (kid_step view.trie view.at _ c.args.i c.get-at.result c.children.ensures c.get-at.ensures).is
    ∙ (ap (λ n. prefix_at (trie_spots view.trie) view.at ++ n ∷ []) (sym c.label-node.ensures) ∙ ap (λ (v : View). v.prefix ++ node_of c.label-node.result ∷ []) c.self.view_is)
