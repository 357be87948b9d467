-- The items that were given were opened.
use Rattle.std.proofs.Common.{◌-◌, length}
use Rattle.sonic_owned.proofs.Folds.{elements_of}
use Rattle.sonic_owned.proofs.OpenLemmas.{HasGiven, AreFirst}
use Rattle.sonic_owned.proofs.value.load.open_elements.Given as goal
use Rattle.sonic_owned.specs.Forms.{unnamed}
use Rattle.sonic_text.specs.declared.kind.Kind.TheVariants.{Array}

abbrev pub invariant-elements : goal.invariant-elements
invariant-elements l = record {
  going : HasGiven l.array Array l.fn.array.text l.array.given;
  first : AreFirst l.fn.array.text Array l.array.given (unnamed (elements_of l.elements.items));
}

abbrev pub decreases-elements : goal.decreases-elements
decreases-elements l = length l.fn.array.text - l.array.given
