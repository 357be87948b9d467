use Rattle.sonic_owned.proofs.ValueLemmas.{value_sound}
use Rattle.sonic_patch.proofs.StepLemmas.{plan_made, plan_refused, plan_none}
use Rattle.sonic_patch.proofs.make.make.Goals as goal

pub returns-in_default-clause-refused : goal.returns-in_default-clause-refused
returns-in_default-clause-refused c = λ d planned. plan_none d (rw c.in_default.is at planned)

pub returns-in-Ok-true-clause-made : goal.returns-in-Ok-true-clause-made
returns-in-Ok-true-clause-made c = λ d planned.
    plan_made d c.in-Some.field-0 (value_sound c.args.value.now) (rw c.in-Some.is at planned) (rw c.as_slice.ensures.value at (c.in-Ok-true.ensures.made c.in-Ok-true.field-0-test))

pub returns-in-Ok-false-clause-refused : goal.returns-in-Ok-false-clause-refused
returns-in-Ok-false-clause-refused c = λ d planned.
    plan_refused d c.in-Some.field-0 (rw c.in-Some.is at planned) (rw c.as_slice.ensures.value at (c.in-Ok-false.ensures.refused c.in-Ok-false.field-0-test))
