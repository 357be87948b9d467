use Rattle.std.proofs.Common.{◌≡◌, ◌-◌, length, true}
use Rattle.std.specs.List.{flat_map}
use Rattle.sonic_lazy.specs.Iterators.{iterator_over}
use Rattle.sonic_text.specs.declared.kind.Kind.TheVariants.{Object}
use Rattle.sonic_reports.specs.Internal.Listed.{AreLinesOf}
use Rattle.sonic_reports.specs.Internal.Replies.{line_of_member}
use Rattle.sonic_reports.proofs.commands.list.members.Given as goal

-- the first items were listed
abbrev pub invariant-members : goal.invariant-members
invariant-members l = record {
  going : l.members ≡ record (iterator_over Object l.input true true) { given = l.members.given };
  lines : AreLinesOf l.input Object l.members.given (flat_map line_of_member l.listed.items);
}

abbrev pub decreases-members : goal.decreases-members
decreases-members l = length l.input - l.members.given
