use Rattle.std.proofs.Common.{◌-◌, ◌≤◌, length}
use Rattle.sonic_text.specs.declared.kind.Kind.TheVariants.{Array}
use Rattle.sonic_parser.specs.Internal.Skipping.{AreItemsPassed}
use Rattle.sonic_parser.proofs.number_run.series_end.Given as goal

abbrev pub invariant-loop-block : goal.invariant-loop-block
invariant-loop-block l = record {
  later : l.first ≤ l.place;
  within : l.place ≤ length l.text;
  items : AreItemsPassed Array l.text l.first l.place;
}

abbrev pub decreases-loop-block : goal.decreases-loop-block
decreases-loop-block l = length l.text - l.place
