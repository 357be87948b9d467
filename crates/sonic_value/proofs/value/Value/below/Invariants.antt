-- What is around the item and the item have as many values as at first.
use Rattle.std.proofs.Common.{◌≡◌, ◌+◌}
use Rattle.sonic_value.proofs.value.Value.below.Given as goal
use Rattle.sonic_value.specs.Internal.ValueCounts.{value_count}
use Rattle.sonic_value.specs.Views.{tree}

abbrev pub invariant-values : goal.invariant-values
invariant-values l = value_count (tree l.around) + value_count (tree l.item) ≡ value_count (tree l.fn.self) + value_count (tree l.fn.item)

abbrev pub decreases-values : goal.decreases-values
decreases-values l = value_count (tree l.item)
