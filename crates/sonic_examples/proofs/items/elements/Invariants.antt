use Rattle.std.proofs.Common.{◌-◌, length}
use Rattle.sonic_examples.proofs.ElementLemmas.{HasGiven}
use Rattle.sonic_examples.proofs.items.elements.Given as goal
use Rattle.sonic_examples.specs.Elements.{AreFirst}

-- the first elements were seen
abbrev pub invariant-elements : goal.invariant-elements
invariant-elements l = record {
  going : HasGiven l.elements l.json l.elements.given;
  first : AreFirst l.json l.elements.given l.values.items;
}

abbrev pub decreases-elements : goal.decreases-elements
decreases-elements l = length l.json - l.elements.given
