-- A copy of the value is being made, with the containers that wait around the one in hand.
use Rattle.std.proofs.Common.{◌+◌}
use Rattle.sonic_value.specs.Internal.Clones.{left_size, made_tree, waiting_sizes, IsCopyOpen}
use Rattle.sonic_value.specs.Internal.Keeping.{kept}
use Rattle.sonic_value.specs.Views.{tree}
use Rattle.sonic_value.proofs.value.copy.copy.Given as goal

abbrev pub invariant-items : goal.invariant-items
invariant-items l = IsCopyOpen l.utf8 (kept l.utf8 (tree l.value)) l.opened.items (made_tree l.utf8 l.level)

abbrev pub decreases-items : goal.decreases-items
decreases-items l = left_size l.level + waiting_sizes l.opened.items
