use Rattle.std.proofs.Common.{◌≡◌, ◌-◌, ◌≤◌, length}
use Rattle.sonic_c.specs.Containers.{HasPassed}
use Rattle.sonic_c.proofs.count.count_items.Given as goal

abbrev pub invariant-items : goal.invariant-items
invariant-items l = record {
  moved : l.cursor ≡ record l.fn.cursor { place = l.cursor.place };
  passed : HasPassed l.fn.cursor.text l.fn.kind l.count l.first l.cursor.place;
  bound : l.count ≤ l.cursor.place;
}

abbrev pub decreases-items : goal.decreases-items
decreases-items l = length l.fn.cursor.text - l.cursor.place
