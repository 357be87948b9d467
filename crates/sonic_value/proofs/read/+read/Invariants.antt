-- The items that were read so far.
use Rattle.std.proofs.Common.{◌≡◌, ◌+◌, ◌-◌, ◌*◌, length, map}
use Rattle.sonic_text.specs.declared.kind.Kind.TheVariants.{Array, Object}
use Rattle.sonic_value.proofs.Folds.{element, member}
use Rattle.sonic_value.proofs.read.+read.Given as goal
use Rattle.sonic_value.specs.Internal.Readers.{IsContainerRead}

abbrev pub decreases-read_value : goal.decreases-read_value
decreases-read_value l = 2 * l.depth_left

abbrev pub decreases-read_array : goal.decreases-read_array
decreases-read_array l = 2 * l.depth_left + 1

abbrev pub decreases-read_object : goal.decreases-read_object
decreases-read_object l = 2 * l.depth_left + 1

abbrev pub invariant-read_array-loop-more : goal.invariant-read_array-loop-more
invariant-read_array-loop-more l = record {
  kept : l.reader ≡ record { source = l.fn.reader.source; place = l.reader.place };
  read : IsContainerRead l.fn.reader.source Array l.depth_left l.fn.reader.place l.reader.place (map element l.elements.items) l.more;
}

abbrev pub decreases-read_array-loop-more : goal.decreases-read_array-loop-more
decreases-read_array-loop-more l = length l.reader.source.text - l.reader.place

abbrev pub invariant-read_object-loop-more : goal.invariant-read_object-loop-more
invariant-read_object-loop-more l = record {
  kept : l.reader ≡ record { source = l.fn.reader.source; place = l.reader.place };
  read : IsContainerRead l.fn.reader.source Object l.depth_left l.fn.reader.place l.reader.place (map member l.members.items) l.more;
}

abbrev pub decreases-read_object-loop-more : goal.decreases-read_object-loop-more
decreases-read_object-loop-more l = length l.reader.source.text - l.reader.place
