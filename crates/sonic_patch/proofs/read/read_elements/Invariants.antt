-- The elements that were given are the operations.
use Rattle.std.proofs.Common.{◌≡◌, ◌-◌, length, map}
use Rattle.sonic_patch.proofs.ElementLemmas.{HasGiven, AreFirst}
use Rattle.sonic_patch.proofs.read.read_elements.Given as goal
use Rattle.sonic_patch.specs.Views.{operation_of}

abbrev pub invariant-elements : goal.invariant-elements
invariant-elements l = record {
  going : HasGiven l.elements l.fn.elements.text l.elements.given;
  first : AreFirst l.fn.elements.text l.elements.given (map operation_of l.operations.items);
  count : length l.operations.items ≡ l.elements.given;
}

abbrev pub decreases-elements : goal.decreases-elements
decreases-elements l = length l.fn.elements.text - l.elements.given
