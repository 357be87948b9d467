-- The copies, and what is kept of the members that are left, stay the same.
use Rattle.std.proofs.Common.{◌≡◌, ◌≤◌, ◌++◌, map, length}
use Rattle.sonic_value.specs.Internal.Clones.{kept_member}
use Rattle.sonic_value.specs.Internal.ValueCounts.{items_value_count}
use Rattle.sonic_value.specs.Views.{key_and_tree, members_of}
use Rattle.sonic_value.proofs.value.copy.copy_members.Given as goal

abbrev pub invariant-members : goal.invariant-members
invariant-members l = record {
  same : map key_and_tree l.made.items ++ map (kept_member l.utf8) l.left ≡ map key_and_tree l.initial.made.items ++ map (kept_member l.utf8) l.initial.left;
  less : items_value_count (members_of (map key_and_tree l.left)) ≤ items_value_count (members_of (map key_and_tree l.initial.left));
}

abbrev pub decreases-members : goal.decreases-members
decreases-members l = length l.left
