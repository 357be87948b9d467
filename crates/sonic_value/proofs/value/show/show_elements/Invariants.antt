-- What is written is what was left of the array before what is left of it.
use Rattle.std.proofs.Common.{◌≤◌, ◌-◌, length}
use Rattle.std.specs.Fmt.{IsPlainFormatter}
use Rattle.sonic_owned.specs.Writing.{IsWrittenUpTo}
use Rattle.sonic_value.specs.Internal.OpenTexts.{array_size, array_text}
use Rattle.sonic_value.proofs.value.show.show_elements.Given as goal

abbrev pub invariant-elements : goal.invariant-elements
invariant-elements g l = record {
  text : IsPlainFormatter l.initial.f → IsWrittenUpTo g.W.Write.write_str_gives l.initial.f (array_text l.elements.items l.begun) (array_text l.elements.items l.position) l.f;
  less : array_size l.elements.items l.position ≤ array_size l.elements.items l.begun;
}

abbrev pub decreases-elements : goal.decreases-elements
decreases-elements g l = length l.elements.items - l.position
