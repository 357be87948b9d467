use Rattle.std.proofs.Common.{◌≤◌, length}
use Rattle.sonic_owned.specs.Forms.{named}
use Rattle.sonic_owned.specs.Internal.Bulks.{members_bulk}
use Rattle.sonic_owned.specs.Internal.Levels.{members_of}
use Rattle.sonic_owned.proofs.value.Node.object_shrunk.Given as goal

abbrev pub invariant-members : goal.invariant-members
invariant-members l = members_bulk (named (members_of l.members.items)) ≤ members_bulk (named (members_of l.initial.members.items))

abbrev pub decreases-members : goal.decreases-members
decreases-members l = length l.members.items
