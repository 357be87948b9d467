-- The elements that were given were kept.
use Rattle.std.proofs.Common.{◌-◌, length, map}
use Rattle.sonic_edits.proofs.ElementLemmas.{HasGiven, AreFirst}
use Rattle.sonic_edits.proofs.elements.first_elements.Given as goal
use Rattle.sonic_lazy.specs.LazyValues.{raw_bytes}

abbrev pub invariant-elements : goal.invariant-elements
invariant-elements l = record {
  going : HasGiven l.array l.fn.array.text l.array.given;
  first : AreFirst l.fn.array.text l.array.given (map raw_bytes l.elements.items);
}

abbrev pub decreases-elements : goal.decreases-elements
decreases-elements l = length l.fn.array.text - l.array.given
