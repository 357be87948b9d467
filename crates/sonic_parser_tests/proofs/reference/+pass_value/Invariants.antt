use Rattle.std.proofs.Common.{◌≡◌, ◌-◌, length}
use Rattle.sonic_parser.specs.Parsers.{moved}
use Rattle.sonic_parser_tests.proofs.DescentLemmas.{IsExpected}
use Rattle.sonic_parser_tests.proofs.reference.+pass_value.Given as goal

abbrev pub decreases-pass_value : goal.decreases-pass_value
decreases-pass_value l = length l.parser.now.text - l.parser.now.place

abbrev pub invariant-items : goal.invariant-items
invariant-items l = record {
  cursor : l.parser ≡ moved l.fn.parser l.parser.place;
  expected : IsExpected l.kind l.fn.parser.lossy l.fn.parser.text l.fn.parser.place l.parser.place;
}

abbrev pub decreases-items : goal.decreases-items
decreases-items l = length l.parser.text - l.parser.place
