-- What is written is what was left of the object before what is left of it.
use Rattle.std.proofs.Common.{◌≤◌, ◌-◌, length}
use Rattle.std.specs.Fmt.{IsPlainFormatter}
use Rattle.sonic_owned.specs.Writing.{IsWrittenUpTo}
use Rattle.sonic_value.specs.Internal.OpenTexts.{object_size, object_text}
use Rattle.sonic_value.proofs.value.show.show_members.Given as goal

abbrev pub invariant-members : goal.invariant-members
invariant-members g l = record {
  text : IsPlainFormatter l.initial.f → IsWrittenUpTo g.W.Write.write_str_gives l.initial.f (object_text l.members.items l.begun) (object_text l.members.items l.position) l.f;
  less : object_size l.members.items l.position ≤ object_size l.members.items l.begun;
}

abbrev pub decreases-members : goal.decreases-members
decreases-members g l = length l.members.items - l.position
