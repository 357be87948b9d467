use Rattle.std.proofs.Common.{ap, ◌∙◌}
use Rattle.sonic_pointer.specs.Internal.Tries.{Entry}
use Rattle.sonic_pointer.proofs.ShapeLemmas.{kids_of}
use Rattle.sonic_pointer.proofs.trie.Trie.children.Goals as goal

pub returns : goal.returns
returns c = kids_of c.args.self.now c.args.at c.requires.trie c.requires.inside c.children.result.now (c.children.ensures ∙ ap (λ (e : Entry). e.children) c.vertex-vertex.ensures)
