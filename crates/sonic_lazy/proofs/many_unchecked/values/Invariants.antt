-- The values so far are shown.
use Rattle.std.proofs.Common.{take}
use Rattle.sonic_lazy.specs.Internal.Shown.{HaveTexts}
use Rattle.sonic_find.specs.Spans.{pairs_of}
use Rattle.sonic_lazy.proofs.many_unchecked.values.Given as goal

abbrev pub invariant-loop-span : goal.invariant-loop-span
invariant-loop-span g l = HaveTexts (g.I.JsonInput.content l.json) l.values.items (pairs_of (take l.span-index l.spans))
