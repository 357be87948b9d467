use Rattle.sonic_patch.proofs.PlanLemmas.{removal_lost, removal_planned}
use Rattle.sonic_patch.proofs.plan.removal.Goals as goal

pub returns-in_default-2 : goal.returns-in_default-2
returns-in_default-2 c = removal_lost c.in-Some.front.now c.in-Some.last.now c.in-Some.ensures.cases.0 (c.in_ok-nodes.ensures.none c.in_default-2.is)

pub returns-in-Some-3 : goal.returns-in-Some-3
returns-in-Some-3 c = λ v means. rw c.in-Some-3.is at
    (removal_planned c.in-Some.front.now c.in-Some.last.now c.in-Some.ensures.cases.0 c.in-Some-2.field-0 c.in_ok-change.field-0 (rw c.in-Some-2.is at c.in_ok-nodes.ensures.some)
    c.in_ok-change.ensures v means)

pub returns : goal.returns
returns c = λ v means. rw c.in-None.is at
    (removal_planned c.in-Some.front.now c.in-Some.last.now c.in-Some.ensures.cases.0 c.in-Some-2.field-0 c.in_ok-change.field-0 (rw c.in-Some-2.is at c.in_ok-nodes.ensures.some)
    c.in_ok-change.ensures v means)
