use Rattle.std.proofs.Common.{subst}
use Rattle.sonic_pointer.specs.Paths.{IsChildren}
use Rattle.sonic_pointer.specs.Views.{View}
use Rattle.sonic_pointer.proofs.ShapeLemmas.{children_of}
use Rattle.sonic_pointer.proofs.view.TreeView.count.Goals as goal

pub returns-clause-children : goal.returns-clause-children
returns-clause-children c =
    let view = c.self.inside in
    subst (λ (v : View). IsChildren v.paths v.prefix v.children) c.self.view_is (children_of view.trie view.at c.self.invariant.trie c.self.invariant.inside)
