use Rattle.std.proofs.Common.{◌≡◌, ◌-◌, length}
use Rattle.sonic_pointer.specs.Nodes.{node_of}
use Rattle.sonic_parser.specs.Parsers.{moved}
use Rattle.sonic_find.specs.Paths.{kind_of, NoneNamed}
use Rattle.sonic_lazy_tests.proofs.reference.seek.Given as goal

abbrev pub invariant-items : goal.invariant-items
invariant-items l = record {
  cursor : l.parser ≡ moved l.fn.parser l.parser.place;
  none : NoneNamed l.parser.text l.fn.parser.place (kind_of (node_of l.node)) l.passed l.parser.place (node_of l.node);
}

abbrev pub decreases-items : goal.decreases-items
decreases-items l = length l.parser.text - l.parser.place
