-- What is filled so far, and the text that is left.
use Rattle.std.proofs.Common.{◌≡◌, ◌+◌, ◌-◌, length}
use Rattle.sonic_value.proofs.fill.fill_value.Given as goal
use Rattle.sonic_value.specs.Internal.OpenSchemas.{IsFilling}
use Rattle.sonic_value.specs.Views.{tree}

abbrev pub invariant-members : goal.invariant-members
invariant-members l = record {
  kept : l.reader ≡ record { source = l.fn.reader.source; place = l.reader.place };
  filling : IsFilling l.fn.reader.source l.fn.depth_left (tree l.fn.schema) l.fn.reader.place l.opened.items l.begun l.reader.place;
}

abbrev pub decreases-members : goal.decreases-members
decreases-members l = length l.reader.source.text + 1 - l.reader.place
