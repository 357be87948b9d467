-- All operations come to the rest of them at the value.
use Rattle.std.proofs.Common.{◌-◌, length, drop, map}
use Rattle.sonic_owned.specs.Views.{form}
use Rattle.sonic_patch.specs.Views.{operation_of}
use Rattle.sonic_patch.proofs.StepLemmas.{ComesTo}
use Rattle.sonic_patch.proofs.patching.make_all.Given as goal

abbrev pub invariant-operations : goal.invariant-operations
invariant-operations l = ComesTo (map operation_of l.fn.operations) (form l.fn.value) l.op (map operation_of (drop l.op l.fn.operations)) (form l.value)

abbrev pub decreases-operations : goal.decreases-operations
decreases-operations l = length l.fn.operations - l.op
