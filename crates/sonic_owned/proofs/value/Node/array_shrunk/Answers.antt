use Rattle.std.proofs.Common.{arith, ap}
use Rattle.sonic_owned.proofs.BulkLemmas.{array_made, elements_popped}
use Rattle.sonic_owned.specs.Internal.Bulks.{bulk, node_form}
use Rattle.sonic_owned.proofs.value.Node.array_shrunk.Goals as goal

pub elements-preserved : goal.elements-preserved
elements-preserved c =
    let less = elements_popped c.elements.elements.items c.pop.new.self.items c.in-Some.last (rw c.in-Some.is at c.pop.ensures.items) in
    omega (arith, c.elements.invariant, less)

pub returns-in-Some : goal.returns-in-Some
returns-in-Some c =
    let less = elements_popped c.elements.elements.items c.pop.new.self.items c.in-Some.last (rw c.in-Some.is at c.pop.ensures.items) in
    let one = ap (λ n. bulk (node_form n)) c.in-Some-level.ensures in
    omega (arith, c.elements.invariant, less, array_made c.pop.new.self, one, c.below.ensures)
