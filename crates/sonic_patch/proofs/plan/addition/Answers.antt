use Rattle.std.proofs.lemmas.Result.{IfOk-weaker}
use Rattle.sonic_owned.specs.Views.{form}
use Rattle.sonic_patch.proofs.PlanLemmas.{addition_lost, addition_planned}
use Rattle.sonic_patch.proofs.plan.addition.Goals as goal
use Rattle.sonic_patch.specs.Internal.Resolved.{IsLed}

pub returns-in_default-2 : goal.returns-in_default-2
returns-in_default-2 c = addition_lost c.in-Some.front.now c.in-Some.last.now c.in-Some.ensures.cases.0 (form c.args.new) (c.in_ok-led.ensures.none c.in_default-2.is)

pub returns : goal.returns
returns c =
    let is : IsLed c.in-Some.front.now (form c.args.value.now) c.in-Some-2.led = rw c.in-Some-2.is at c.in_ok-led.ensures.some in
    IfOk-weaker c.into.result _ _
    (λ plan comes. addition_planned c.in-Some.front.now c.in-Some.last.now c.in-Some.ensures.cases.0 (form c.args.new) c.in-Some-2.led plan is comes) c.into.ensures
