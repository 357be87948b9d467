use Rattle.std.proofs.Common.{◌≡◌, ◌<◌, Some, length, inr, sym, ap, ◌∙◌, subst, arith}
use Rattle.std.proofs.lemmas.Option.{slice_get-get_or}
use Rattle.sonic_text.specs.Paths.{index}
use Rattle.sonic_pointer.specs.Nodes.{node_of}
use Rattle.sonic_pointer.specs.Internal.Tries.{IsBefore, prefix_at}
use Rattle.sonic_pointer.specs.Internal.TrieFields.{entries_of, trie_paths, trie_spots, trie_labels}
use Rattle.sonic_pointer.proofs.VertexLemmas.{spot_here}
use Rattle.sonic_pointer.proofs.ShapeLemmas.{kid_step, kid_node}
use Rattle.sonic_pointer.proofs.NodeLemmas.{gap_wider, index_before}
use Rattle.sonic_pointer.proofs.trie.Trie.next_index.Goals as goal

pub label-requires-clause-step : goal.label-requires-clause-step
label-requires-clause-step c =
    (prefix_at (trie_spots c.args.self.now) c.args.at, kid_step c.args.self.now c.args.at _ _ c.get.result c.children-children.ensures c.get.ensures)

pub returns-then-position-len-clause-wider : goal.returns-then-position-len-clause-wider
returns-then-position-len-clause-wider c number k gap later less =
    let trie = c.args.self.now in
    let sorted = (spot_here (trie_paths trie) (entries_of trie) c.requires.trie.tree c.args.at c.requires.inside).sorted in
    let many = c.children-children.ensures.count in
    let past = c.if-position-len.true in
    let long = c.len.ensures in
    gap_wider (trie_labels trie c.args.at) number k c.args.position sorted gap later (λ inside. absurd (omega (arith, many, past, long, inside)))

pub returns-in-Index-clause-wider : goal.returns-in-Index-clause-wider
returns-in-Index-clause-wider c number k gap later less =
    let trie = c.args.self.now in
    let sorted = (spot_here (trie_paths trie) (entries_of trie) c.requires.trie.tree c.args.at c.requires.inside).sorted in
    let node = kid_node trie c.args.at _ _ c.get.result c.children-children.ensures c.get.ensures in
    let same : node_of c.label.result ≡ index c.in-Index.number = ap node_of c.in-Index.is in
    gap_wider (trie_labels trie c.args.at) number k c.args.position sorted gap later
    (λ inside. (index c.in-Index.number, λ d. node d ∙ (sym c.label.ensures ∙ same), index_before k c.in-Index.number less))

pub returns-in-Index-clause-reached : goal.returns-in-Index-clause-reached
returns-in-Index-clause-reached c =
    let trie = c.args.self.now in
    let many = c.children-children.ensures.count in
    let short = c.if-position-len.false in
    let long = c.len.ensures in
    let node = kid_node trie c.args.at _ _ c.get.result c.children-children.ensures c.get.ensures in
    let same : node_of c.label.result ≡ index c.in-Index.number = ap node_of c.in-Index.is in
    inr (slice_get-get_or (trie_labels trie c.args.at) c.args.position (index 0) (omega (arith, many, short, long)) ∙ ap Some (node (index 0) ∙ (sym c.label.ensures ∙ same)))

pub returns-in-Key-clause-wider : goal.returns-in-Key-clause-wider
returns-in-Key-clause-wider c number k gap later less =
    let trie = c.args.self.now in
    let many = c.children-children.ensures.count in
    let short = c.if-position-len.false in
    let long = c.len.ensures in
    let node = kid_node trie c.args.at _ _ c.get.result c.children-children.ensures c.get.ensures in
    let same = ap node_of c.in-Key.is in
    let inside : c.args.position < length (trie_labels trie c.args.at) = omega (arith, many, short, long) in
    let before = subst (IsBefore (index number)) (node (index 0) ∙ (sym c.label.ensures ∙ same)) (gap.after c.args.position (index 0) (omega arith) inside) in
    absurd (cc)
