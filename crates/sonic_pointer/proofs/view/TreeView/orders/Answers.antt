use Rattle.std.proofs.Common.{ap, ◌∙◌, subst}
use Rattle.sonic_pointer.specs.Paths.{IsOrders}
use Rattle.sonic_pointer.specs.Internal.Tries.{Entry}
use Rattle.sonic_pointer.specs.Views.{View}
use Rattle.sonic_pointer.proofs.ShapeLemmas.{orders_of}
use Rattle.sonic_pointer.proofs.view.TreeView.orders.Goals as goal

pub returns : goal.returns
returns c =
    let view = c.self.inside in
    subst (λ (v : View). IsOrders v.paths v.prefix c.orders.result.now) c.self.view_is
    (orders_of view.trie view.at c.self.invariant.trie c.self.invariant.inside c.orders.result.now (c.orders.ensures ∙ ap (λ (e : Entry). e.orders) c.vertex-vertex.ensures))
