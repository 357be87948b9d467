use Rattle.std.proofs.Common.{◌≡◌, ◌++◌, map, take, drop}
use Rattle.sonic_c.specs.Indexes.{shown_entry}
use Rattle.sonic_c.proofs.index.fill_entries.Given as goal

-- the first were written, and the rest is as it was
abbrev pub invariant-loop-i : goal.invariant-loop-i
invariant-loop-i l = record { now : l.entries ≡ map shown_entry (take l.i l.index.entries) ++ drop l.i l.initial.entries }
