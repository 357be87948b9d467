use Rattle.std.proofs.Common.{◌≤◌, length}
use Rattle.sonic_owned.specs.Forms.{unnamed}
use Rattle.sonic_owned.specs.Internal.Bulks.{members_bulk}
use Rattle.sonic_owned.specs.Internal.Levels.{elements_of}
use Rattle.sonic_owned.proofs.value.Node.array_shrunk.Given as goal

abbrev pub invariant-elements : goal.invariant-elements
invariant-elements l = members_bulk (unnamed (elements_of l.elements.items)) ≤ members_bulk (unnamed (elements_of l.initial.elements.items))

abbrev pub decreases-elements : goal.decreases-elements
decreases-elements l = length l.elements.items
