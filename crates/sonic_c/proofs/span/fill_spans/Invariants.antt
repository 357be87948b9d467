use Rattle.std.proofs.Common.{◌≡◌, map, take}
use Rattle.sonic_find.specs.Spans.{pairs_of}
use Rattle.sonic_c.specs.Told.{shown_span}
use Rattle.sonic_c.proofs.span.fill_spans.Given as goal

abbrev pub invariant-loop-i : goal.invariant-loop-i
invariant-loop-i l = record {
  front : take l.i l.spans ≡ map shown_span (pairs_of (take l.i l.entries));
}
