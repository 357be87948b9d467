use Rattle.std.proofs.Common.{◌≡◌, ◌-◌, ◌≤◌, length}
use Rattle.sonic_find.specs.Internal.Columns.{keys_of, AreKnown, HasMembers}
use Rattle.sonic_find.proofs.columns.Columns.pass_row.Given as goal

abbrev pub invariant-members : goal.invariant-members
invariant-members l = record {
  kept : l.self ≡ record l.fn.self { known = l.self.known; row = l.self.row };
  moved : l.walk ≡ record l.fn.walk { place = l.walk.place };
  within : l.key ≤ length l.fn.walk.text;
  long : length l.self.row.items ≡ length l.fn.self.row.items;
  known : AreKnown l.fn.walk.text (keys_of l.fn.self) l.self.known.items;
  members : HasMembers l.fn.walk.text l.start (keys_of l.fn.self) l.self.row.items l.key;
}

abbrev pub decreases-members : goal.decreases-members
decreases-members l = length l.fn.walk.text - l.key
