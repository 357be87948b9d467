use Rattle.std.proofs.Common.{◌-◌, length}
use Rattle.sonic_examples.proofs.items.show.Given as goal

-- each member takes a byte at least
abbrev pub decreases-members : goal.decreases-members
decreases-members g l = length l.members.text - l.members.given
