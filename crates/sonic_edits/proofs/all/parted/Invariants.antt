use Rattle.std.proofs.Common.{◌≡◌, map}
use Rattle.sonic_edits.specs.Internal.Parted.{kind_of_change, place_of}
use Rattle.sonic_owned.specs.Changes.{change_of}
use Rattle.sonic_edits.proofs.all.parted.Given as goal

abbrev pub invariant-edits : goal.invariant-edits
invariant-edits l = record {
  paths : l.paths.items ≡ map place_of l.yielded;
  changes : map change_of l.changes.items ≡ map kind_of_change l.yielded;
}
