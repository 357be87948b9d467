-- What is around the item and the item hold as much as at first.
use Rattle.std.proofs.Common.{◌≡◌, ◌+◌}
use Rattle.sonic_owned.specs.Internal.Bulks.{bulk, node_form}
use Rattle.sonic_owned.proofs.value.Node.below.Given as goal

abbrev pub invariant-values : goal.invariant-values
invariant-values l = bulk (node_form l.around) + bulk (node_form l.item) ≡ bulk (node_form l.fn.self) + bulk (node_form l.fn.item)

abbrev pub decreases-values : goal.decreases-values
decreases-values l = bulk (node_form l.item)
