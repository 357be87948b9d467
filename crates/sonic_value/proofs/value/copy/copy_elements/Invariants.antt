-- The copies, and what is kept of the elements that are left, stay the same.
use Rattle.std.proofs.Common.{◌≡◌, ◌≤◌, ◌++◌, map, length}
use Rattle.sonic_value.specs.Internal.Clones.{kept_tree}
use Rattle.sonic_value.specs.Internal.ValueCounts.{items_value_count}
use Rattle.sonic_value.specs.Views.{tree, elements_of}
use Rattle.sonic_value.proofs.value.copy.copy_elements.Given as goal

abbrev pub invariant-elements : goal.invariant-elements
invariant-elements l = record {
  same : map tree l.made.items ++ map (kept_tree l.utf8) l.left ≡ map tree l.initial.made.items ++ map (kept_tree l.utf8) l.initial.left;
  less : items_value_count (elements_of (map tree l.left)) ≤ items_value_count (elements_of (map tree l.initial.left));
}

abbrev pub decreases-elements : goal.decreases-elements
decreases-elements l = length l.left
