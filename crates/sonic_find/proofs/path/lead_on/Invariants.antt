use Rattle.std.proofs.Common.{◌≡◌, ◌-◌, length}
use Rattle.sonic_pointer.specs.Nodes.{node_of}
use Rattle.sonic_find.specs.Paths.{kind_of, NoneNamed}
use Rattle.sonic_find.proofs.path.lead_on.Given as goal

abbrev pub invariant-items : goal.invariant-items
invariant-items l = record {
  moved : l.cursor ≡ record l.fn.cursor { place = l.cursor.place };
  before : NoneNamed l.fn.cursor.text l.fn.cursor.place (kind_of (node_of l.node)) l.passed l.cursor.place (node_of l.node);
}

abbrev pub decreases-items : goal.decreases-items
decreases-items l = length l.cursor.text - l.cursor.place
