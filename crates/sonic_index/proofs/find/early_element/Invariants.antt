use Rattle.std.proofs.Common.{length, ◌-◌}
use Rattle.sonic_text.specs.Paths.{index}
use Rattle.sonic_index.specs.Internal.Cells.{entries_of, entry_of}
use Rattle.sonic_index.specs.Internal.Items.{IsSought}
use Rattle.sonic_index.proofs.find.early_element.Given as goal

abbrev pub invariant-loop-at : goal.invariant-loop-at
invariant-loop-at l = IsSought l.text (entries_of l.text l.cells) (entry_of l.text l.cells l.whole) (index l.number) l.at

abbrev pub decreases-loop-at : goal.decreases-loop-at
decreases-loop-at l = length l.cells - l.at
