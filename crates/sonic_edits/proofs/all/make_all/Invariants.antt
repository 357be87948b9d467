use Rattle.std.proofs.Common.{◌≡◌, ◌+◌, length, map, drop}
use Rattle.sonic_owned.specs.Changes.{change_of}
use Rattle.sonic_owned.specs.Views.{form}
use Rattle.sonic_edits.specs.Internal.Parted.{joined, nodes_of}
use Rattle.sonic_edits.proofs.EditingLemmas.{ComesOfAll}
use Rattle.sonic_edits.proofs.all.make_all.Given as goal

abbrev pub invariant-changes : goal.invariant-changes
invariant-changes l = record {
  comes : ComesOfAll (joined (map nodes_of l.fn.paths) (map change_of l.fn.changes.items)) (form l.fn.value) (l.number + 1)
      (joined (map nodes_of (drop l.number l.fn.paths)) (map change_of l.change-iterator.rest.items)) (form l.value);
  even : length l.fn.paths ≡ l.number + length l.change-iterator.rest.items;
}
