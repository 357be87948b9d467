use Rattle.std.proofs.Common.{true, false, sym, ◌∙◌, subst}
use Rattle.sonic_pointer.specs.Nodes.{node_of}
use Rattle.sonic_pointer.specs.Views.{View, IsBranch}
use Rattle.sonic_pointer.specs.declared.branch.Branch.TheVariants.{Leaf, Keys, Indexes}
use Rattle.sonic_pointer.proofs.ShapeLemmas.{kind_of}
use Rattle.sonic_pointer.proofs.view.TreeView.branch.Goals as goal

pub returns-in-Some : goal.returns-in-Some
returns-in-Some c =
    let view = c.self.inside in
    let kind = kind_of view.trie view.at c.self.invariant.trie c.self.invariant.inside true (node_of c.in-Some.node) c.in-Some.ensures.some (sym c.is_key.ensures ∙ c.if-is_key.true) in
    subst (λ (v : View). IsBranch v.paths v.prefix Keys) c.self.view_is kind

pub returns-in-Some-2 : goal.returns-in-Some-2
returns-in-Some-2 c =
    let view = c.self.inside in
    let kind = kind_of view.trie view.at c.self.invariant.trie c.self.invariant.inside false (node_of c.in-Some.node) c.in-Some.ensures.some (sym c.is_key.ensures ∙ c.if-is_key.false) in
    subst (λ (v : View). IsBranch v.paths v.prefix Indexes) c.self.view_is kind

pub returns-in-None : goal.returns-in-None
returns-in-None c = subst (λ (v : View). IsBranch v.paths v.prefix Leaf) c.self.view_is c.in-None.ensures.none
