use Rattle.std.proofs.Common.{ap}
use Rattle.sonic_owned.specs.Views.{form}
use Rattle.sonic_patch.proofs.PlanLemmas.{object_set, object_paired}
use Rattle.sonic_patch.proofs.plan.into_object.Goals as goal
use Rattle.sonic_pointer.specs.declared.node.PointerNode.TheVariants.{Key}
use Rattle.sonic_text.specs.Paths.{key}

pub returns-in-Some : goal.returns-in-Some
returns-in-Some c = object_set c.args.led.nodes.items c.push.new.self.items (form c.args.new) c.args.last.now (Key c.as_str.result) (ap key c.as_str.ensures) c.in_ok-push.ensures.items c.in-Some.ensures.some

pub returns-in-Ok : goal.returns-in-Ok
returns-in-Ok c =
    object_paired c.args.led.nodes.items (form c.args.new) c.args.last.now c.in-Ok.key (Key c.as_str.result) (ap key c.as_str.ensures) c.in-Ok.ensures.ok (c.get.ensures.none c.in_default.is)
