-- What is left of the path leads from the value that was reached where the path leads from the first.
use Rattle.std.proofs.Common.{◌-◌, ◌≤◌, length, drop}
use Rattle.sonic_owned.proofs.LeadingLemmas.{LeadsAlike}
use Rattle.sonic_owned.proofs.value.OwnedLazyValue.pointer.Given as goal
use Rattle.sonic_owned.specs.Views.{form}
use Rattle.sonic_pointer.specs.Nodes.{path_of}

abbrev pub invariant-levels : goal.invariant-levels
invariant-levels l = (l.passed ≤ length l.path) × LeadsAlike (path_of (drop l.passed l.path)) (form l.value) (path_of l.path) (form l.fn.self)

abbrev pub decreases-levels : goal.decreases-levels
decreases-levels l = length l.path - l.passed
