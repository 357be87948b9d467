use Rattle.std.proofs.Common.{arith, ap}
use Rattle.sonic_owned.proofs.BulkLemmas.{object_made, pairs_popped}
use Rattle.sonic_owned.specs.Internal.Bulks.{bulk, node_form}
use Rattle.sonic_owned.proofs.value.Node.object_shrunk.Goals as goal

pub members-preserved : goal.members-preserved
members-preserved c =
    let less = pairs_popped c.members.members.items c.pop.new.self.items (c.in-Some.field-0-0, c.in-Some.last) (rw c.in-Some.is at c.pop.ensures.items) in
    omega (arith, c.members.invariant, less)

pub returns-in-Some : goal.returns-in-Some
returns-in-Some c =
    let less = pairs_popped c.members.members.items c.pop.new.self.items (c.in-Some.field-0-0, c.in-Some.last) (rw c.in-Some.is at c.pop.ensures.items) in
    let one = ap (λ n. bulk (node_form n)) c.in-Some-level.ensures in
    omega (arith, c.members.invariant, less, object_made c.pop.new.self, one, c.below.ensures)
