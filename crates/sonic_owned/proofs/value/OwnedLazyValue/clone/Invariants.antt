-- A copy of the value is being made, with the levels that wait around the one in hand.
use Rattle.std.proofs.Common.{◌+◌}
use Rattle.sonic_owned.specs.Internal.Copies.{copied_form, copying_bulk, waiting_bulks, AreOpen}
use Rattle.sonic_owned.specs.Views.{form}
use Rattle.sonic_owned.proofs.value.OwnedLazyValue.clone.Given as goal

abbrev pub invariant-levels : goal.invariant-levels
invariant-levels l = AreOpen (form l.self) l.opened.items (copied_form l.level)

abbrev pub decreases-levels : goal.decreases-levels
decreases-levels l = copying_bulk l.level + waiting_bulks l.opened.items
