use Rattle.sonic_patch.proofs.make.add.Goals as goal

pub returns-clause-made : goal.returns-clause-made
returns-clause-made c = c.make.ensures.made _ (rw c.as_slice.ensures.value at c.in_ok-plan.ensures)

pub returns-clause-refused : goal.returns-clause-refused
returns-clause-refused c = c.make.ensures.refused _ (rw c.as_slice.ensures.value at c.in_ok-plan.ensures)
