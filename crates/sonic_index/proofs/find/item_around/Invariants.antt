use Rattle.std.proofs.Common.{◌≤◌, get_or}
use Rattle.sonic_index.specs.Internal.Items.{IsHeld}
use Rattle.sonic_index.proofs.PathLemmas.{no_cell}
use Rattle.sonic_index.proofs.find.item_around.Given as goal

abbrev pub invariant-parents : goal.invariant-parents
invariant-parents l = IsHeld l.cells l.i l.at (get_or l.cells l.d no_cell) × (l.at ≤ l.d)
