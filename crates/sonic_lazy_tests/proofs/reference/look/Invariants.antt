use Rattle.std.proofs.Common.{◌≡◌, ◌-◌, ◌≤◌, ℕ, length}
use Rattle.sonic_pointer.specs.Nodes.{node_of}
use Rattle.sonic_parser.specs.Parsers.{moved}
use Rattle.sonic_text.specs.Strings.{strict}
use Rattle.sonic_text.specs.Values.{ItemsFit}
use Rattle.sonic_find.specs.Paths.{kind_of}
use Rattle.sonic_find.specs.Internal.Marks.{IsSeen}
use Rattle.sonic_lazy_tests.proofs.reference.WayLemmas.{sight_of}
use Rattle.sonic_lazy_tests.specs.declared.reference.Way.TheVariants.{On}
use Rattle.sonic_lazy_tests.proofs.reference.look.Given as goal

abbrev pub invariant-items : goal.invariant-items
invariant-items l = record {
  cursor : l.parser ≡ moved l.fn.parser l.parser.place;
  fit : ItemsFit strict l.parser.text (kind_of (node_of l.node)) l.fn.parser.place l.passed l.parser.place;
  seen : IsSeen l.parser.text l.fn.parser.place l.passed (node_of l.node) l.rule (sight_of l.way);
  within : (v : ℕ) → l.way ≡ On v → v ≤ length l.parser.text;
}

abbrev pub decreases-items : goal.decreases-items
decreases-items l = length l.parser.text - l.parser.place
