use Rattle.std.specs.Prelude.{◌+◌, IfNone, IfSome}
use Rattle.sonic_examples.proofs.viewer.value_at.Given as goal
use Rattle.sonic_examples.specs.Around.{IsAround, NoneAround}

-- what was found is the last around the place so far
abbrev pub invariant-loop-number : goal.invariant-loop-number
invariant-loop-number l = record {
  some : IfSome l.found (λ i. IsAround l.index.entries l.place i × NoneAround l.index.entries l.place (i + 1) l.number);
  none : IfNone l.found (NoneAround l.index.entries l.place 0 l.number);
}
