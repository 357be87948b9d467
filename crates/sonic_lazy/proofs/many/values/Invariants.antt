-- The values so far are shown.
use Rattle.std.proofs.Common.{take}
use Rattle.sonic_find.specs.Found.{spans_of}
use Rattle.sonic_lazy.specs.Internal.Shown.{HaveTexts}
use Rattle.sonic_lazy.proofs.many.values.Given as goal

abbrev pub invariant-loop-slot : goal.invariant-loop-slot
invariant-loop-slot g l = HaveTexts (g.I.JsonInput.content l.json) l.values.items (spans_of (take l.slot-index l.found))
