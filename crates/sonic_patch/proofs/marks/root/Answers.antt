use Rattle.sonic_patch.proofs.StackLemmas.{root_mark}
use Rattle.sonic_patch.proofs.marks.root.Goals as goal

pub returns-in-Done : goal.returns-in-Done
returns-in-Done c = λ numbers x s. root_mark c.pop.new.self.items c.in-Some.slot c.in-Done.is s c.in-Some.ensures.items
