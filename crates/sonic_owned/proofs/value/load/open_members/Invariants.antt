-- The items that were given were opened.
use Rattle.std.proofs.Common.{◌-◌, length}
use Rattle.sonic_owned.proofs.Folds.{members_of}
use Rattle.sonic_owned.proofs.OpenLemmas.{HasGiven, AreFirst}
use Rattle.sonic_owned.proofs.value.load.open_members.Given as goal
use Rattle.sonic_owned.specs.Forms.{named}
use Rattle.sonic_text.specs.declared.kind.Kind.TheVariants.{Object}

abbrev pub invariant-members : goal.invariant-members
invariant-members l = record {
  going : HasGiven l.object Object l.fn.object.text l.object.given;
  first : AreFirst l.fn.object.text Object l.object.given (named (members_of l.members.items));
}

abbrev pub decreases-members : goal.decreases-members
decreases-members l = length l.fn.object.text - l.object.given
