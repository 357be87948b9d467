use Rattle.std.proofs.Common.{◌≡◌, map, take}
use Rattle.sonic_index.specs.Internal.Members.{Named}
use Rattle.sonic_index.proofs.members.numbers_of.Given as goal

abbrev pub invariant-loop-member : goal.invariant-loop-member
invariant-loop-member l = l.numbers.items ≡ map (λ (m : Named). m.2) (take l.member-index l.members)
