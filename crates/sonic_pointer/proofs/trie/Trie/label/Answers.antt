use Rattle.std.proofs.Common.{ap, ◌∙◌}
use Rattle.sonic_pointer.specs.Internal.Tries.{Entry}
use Rattle.sonic_pointer.proofs.ShapeLemmas.{step_inside, step_below, own_label}
use Rattle.sonic_pointer.proofs.trie.Trie.label.Goals as goal

pub vertex_below-vertex-requires-clause-below : goal.vertex_below-vertex-requires-clause-below
vertex_below-vertex-requires-clause-below c = step_below c.args.self.now c.args.at c.requires.trie c.requires.step.0 c.requires.step.1

pub vertex_below-vertex-requires-clause-inside : goal.vertex_below-vertex-requires-clause-inside
vertex_below-vertex-requires-clause-inside c = step_inside c.args.self.now c.args.at c.requires.trie c.requires.step.0 c.requires.step.1

pub returns : goal.returns
returns c =
    c.node.ensures ∙ (ap (λ (e : Entry). e.node) c.vertex_below-vertex.ensures ∙ own_label c.args.self.now c.args.at c.requires.trie c.requires.step.0 c.requires.step.1)
