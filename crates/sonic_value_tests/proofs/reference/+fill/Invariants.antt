use Rattle.sonic_value.specs.declared.value.Value.{size-Value}
use Rattle.sonic_value_tests.proofs.reference.+fill.Given as goal

-- the depth of the data
abbrev pub decreases-fill : goal.decreases-fill
decreases-fill l = size-Value l.data.now
