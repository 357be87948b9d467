use Rattle.sonic_index.specs.Internal.Members.{AreCollected}
use Rattle.sonic_index.proofs.members.collect.Given as goal

abbrev pub invariant-loop-n : goal.invariant-loop-n
invariant-loop-n l = AreCollected l.text l.cells l.n l.members.plain.items l.members.escaped.items
