use Rattle.std.proofs.Common.{◌≡◌, ◌≤◌, ◌==◌, take}
use Rattle.std.specs.Prelude.{count_by}
use Rattle.sonic_blocks.proofs.count.count_slowly.Given as goal

abbrev pub invariant-loop-other : goal.invariant-loop-other
invariant-loop-other l = (l.count ≡ count_by (λ x. x == l.byte) (take l.other-index l.text)) × (l.count ≤ l.other-index)
