-- What is left of the path leads from the value that was reached where the path leads from the first.
use Rattle.std.proofs.Common.{◌≡◌, ◌-◌, ◌≤◌, length, drop}
use Rattle.sonic_pointer.specs.Nodes.{path_of}
use Rattle.sonic_text.specs.TreePaths.{leads}
use Rattle.sonic_value.proofs.value.Value.pointer.Given as goal
use Rattle.sonic_value.specs.Views.{tree}

abbrev pub invariant-levels : goal.invariant-levels
invariant-levels l = (l.passed ≤ length l.path) × (leads (tree l.value) (path_of (drop l.passed l.path)) ≡ leads (tree l.fn.self) (path_of l.path))

abbrev pub decreases-levels : goal.decreases-levels
decreases-levels l = length l.path - l.passed
