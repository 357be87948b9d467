use Rattle.std.proofs.Common.{◌≡◌, ◌-◌, length, true}
use Rattle.std.specs.List.{flat_map}
use Rattle.sonic_lazy.specs.Iterators.{iterator_over}
use Rattle.sonic_text.specs.declared.kind.Kind.TheVariants.{Array}
use Rattle.sonic_reports.specs.Internal.Listed.{AreLinesOf}
use Rattle.sonic_reports.specs.Internal.Replies.{line_of_shown}
use Rattle.sonic_reports.proofs.commands.list.elements.Given as goal

-- the first items were listed
abbrev pub invariant-elements : goal.invariant-elements
invariant-elements l = record {
  going : l.elements ≡ record (iterator_over Array l.input true true) { given = l.elements.given };
  lines : AreLinesOf l.input Array l.elements.given (flat_map line_of_shown l.listed.items);
}

abbrev pub decreases-elements : goal.decreases-elements
decreases-elements l = length l.input - l.elements.given
