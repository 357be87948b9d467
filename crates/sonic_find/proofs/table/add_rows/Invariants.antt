use Rattle.std.proofs.Common.{◌≡◌, ◌-◌, length}
use Rattle.std.specs.Prelude.{IfSome}
use Rattle.sonic_find.proofs.table.add_rows.Given as goal
use Rattle.sonic_find.specs.Internal.Columns.{AreFor, HasRows}
use Rattle.sonic_find.specs.Internal.Marks.{KeepsMarks}
use Rattle.sonic_find.specs.Internal.View.{marking_at}

abbrev pub invariant-items : goal.invariant-items
invariant-items l = record {
  same : l.walk ≡ record l.fn.walk { place = l.walk.place; findings = l.walk.findings; root = l.walk.root; marks = l.walk.marks };
  rows : HasRows l.fn.walk.rule l.fn.walk.text l.view.paths l.kind l.fn.walk.place l.table l.walk.place;
  slots : length l.walk.findings.slots ≡ length l.view.paths;
  marks : KeepsMarks (marking_at l.walk l.view) l.walk.place;
  columns : IfSome l.columns (AreFor l.fn.walk.rule l.fn.walk.text l.view.paths);
}

abbrev pub decreases-items : goal.decreases-items
decreases-items l = length l.walk.text - l.walk.place
