use Rattle.std.proofs.Common.{◌≡◌, ◌+◌}
use Rattle.sonic_text.specs.Literals.{Letters}
use Rattle.sonic_text.proofs.literal.literal_end.Given as goal

abbrev pub invariant-loop-letter : goal.invariant-loop-letter
invariant-loop-letter l = record {
  reached : l.place ≡ l.start + l.letter-index;
  letters : Letters l.literal l.text l.start l.letter-index;
}
