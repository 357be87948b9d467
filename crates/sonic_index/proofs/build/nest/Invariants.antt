use Rattle.std.proofs.Common.{◌+◌, ◌-◌, ◌≤◌, ◌≡◌, length}
use Rattle.sonic_text.specs.Places.{byte}
use Rattle.sonic_text.specs.declared.kind.Kind.TheVariants.{Array}
use Rattle.sonic_index.specs.Internal.Places.{HasItemAt}
use Rattle.sonic_index.proofs.build.nest.Given as goal

abbrev pub invariant-arrays : goal.invariant-arrays
invariant-arrays l = record {
  item : HasItemAt l.text l.cells.items l.at;
  array : l.at.item.kind ≡ Array;
  bracket : byte l.text l.at.place ≡ 91;
  nested : byte l.text (l.at.place + 1) ≡ 91;
  later : l.fn.at.place ≤ l.at.place;
}

abbrev pub decreases-arrays : goal.decreases-arrays
decreases-arrays l = length l.text + 1 - l.at.place
