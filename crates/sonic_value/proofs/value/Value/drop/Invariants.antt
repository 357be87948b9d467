use Rattle.sonic_value.proofs.value.Value.drop.Given as goal
use Rattle.sonic_value.specs.Internal.ValueCounts.{value_count}
use Rattle.sonic_value.specs.Views.{tree}

abbrev pub decreases-values : goal.decreases-values
decreases-values l = value_count (tree l.self)
