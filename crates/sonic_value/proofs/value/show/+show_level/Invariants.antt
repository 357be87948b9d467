-- What is written, and what is left of the container in hand and of those around it.
use Rattle.std.proofs.Common.{◌≤◌}
use Rattle.std.specs.Fmt.{IsPlainFormatter}
use Rattle.sonic_owned.specs.Writing.{IsWrittenUpTo}
use Rattle.sonic_value.specs.Internal.OpenTexts.{all_shown, all_shown_size, shown_size, shown_text}
use Rattle.sonic_value.proofs.value.show.+show_level.Given as goal

abbrev pub decreases-show_level : goal.decreases-show_level
decreases-show_level g l = shown_size l.level

abbrev pub invariant-levels : goal.invariant-levels
invariant-levels g l = record {
  written : IsPlainFormatter l.fn.f → IsWrittenUpTo g.W.Write.write_str_gives l.fn.f (shown_text l.fn.level) (all_shown l.next l.opened.items) l.f;
  less : all_shown_size l.next l.opened.items ≤ shown_size l.fn.level;
}

abbrev pub decreases-levels : goal.decreases-levels
decreases-levels g l = all_shown_size l.next l.opened.items
