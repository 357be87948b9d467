-- The outcomes so far are shown.
use Rattle.std.proofs.Common.{take}
use Rattle.sonic_find.specs.Found.{slots_of}
use Rattle.sonic_lazy.specs.Shown.{ShowEach}
use Rattle.sonic_lazy.proofs.each.outcomes.Given as goal

abbrev pub invariant-loop-slot : goal.invariant-loop-slot
invariant-loop-slot g l = ShowEach (g.I.JsonInput.content l.json) (slots_of (take l.slot-index l.found)) l.outcomes.items
