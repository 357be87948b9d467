use Rattle.std.proofs.Common.{◌≡◌, ◌-◌, ◌++◌, take, drop, map}
use Rattle.sonic_pointer.specs.Internal.Pieces.{raised}
use Rattle.sonic_pointer.proofs.pieces.raise.Given as goal

abbrev pub invariant-loop-k : goal.invariant-loop-k
invariant-loop-k l =
    l.pieces.items ≡ take l.from l.fn.pieces.items ++ (map (raised l.by) (take (l.k - l.from) (drop l.from l.fn.pieces.items)) ++ drop (l.k - l.from) (drop l.from l.fn.pieces.items))
