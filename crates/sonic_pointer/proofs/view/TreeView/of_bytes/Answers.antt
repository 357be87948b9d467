use Rattle.std.proofs.Common.{◌≡◌, Some, IfSome, IfNone, slice_get, subst}
use Rattle.sonic_text.specs.Paths.{key}
use Rattle.sonic_pointer.specs.Paths.{HasNextNode}
use Rattle.sonic_pointer.specs.Views.{View}
use Rattle.sonic_pointer.proofs.ShapeLemmas.{absent}
use Rattle.sonic_pointer.proofs.TargetLemmas.{IfNone_then}
use Rattle.sonic_pointer.proofs.view.TreeView.of_bytes.Goals as goal

pub look_through-requires-clause-children : goal.look_through-requires-clause-children
look_through-requires-clause-children c = rw c.in-Some.ensures c.children.ensures

pub returns-in-Some-clause-some : goal.returns-in-Some-clause-some
returns-in-Some-clause-some c =
    subst (λ (v : View). IfSome c.look_through.result (λ i. slice_get v.children i ≡ Some (key c.args.bytes.now))) c.self.view_is c.look_through.ensures.some

pub returns-in-Some-clause-none : goal.returns-in-Some-clause-none
returns-in-Some-clause-none c =
    let view = c.self.inside in
    subst (λ (v : View). IfNone c.look_through.result (¬ HasNextNode v.paths v.prefix (key c.args.bytes.now))) c.self.view_is
    (IfNone_then c.look_through.result c.look_through.ensures.none (absent view.trie view.at c.self.invariant.trie c.self.invariant.inside (key c.args.bytes.now)))
