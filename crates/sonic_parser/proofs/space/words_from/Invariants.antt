use Rattle.std.proofs.Common.{◌≡◌, ◌-◌, ◌≤◌, length}
use Rattle.sonic_text.specs.Places.{after_space}
use Rattle.sonic_parser.specs.Internal.Spaces.{IsKeptBlock}
use Rattle.sonic_parser.proofs.space.words_from.Given as goal

abbrev pub invariant-loop-block : goal.invariant-loop-block
invariant-loop-block l = record {
  within : l.at ≤ length l.text;
  kept : IsKeptBlock l.text l.kept;
  leads : after_space l.text l.place ≡ after_space l.text l.at;
}

abbrev pub decreases-loop-block : goal.decreases-loop-block
decreases-loop-block l = length l.text - l.at
