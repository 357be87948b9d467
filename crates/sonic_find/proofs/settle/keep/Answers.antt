use Rattle.sonic_find.proofs.settle.keep.Goals as goal
use Rattle.std.proofs.Common.{get_or, take, arith}
use Rattle.std.proofs.lemmas.Grind.{common_steps}
use Rattle.std.proofs.lemmas.List.{take_more}
use Rattle.std.proofs.lemmas.List.Elements.{Contains-get_or}
use Rattle.sonic_find.proofs.WalkLemmas.List.{set_none, set_more, offset_fits}

pub bounds-slots-order : goal.bounds-slots-order
bounds-slots-order g c =
    let within = c.requires _ (Contains-get_or c.args.orders.now c.loop-order.order-index 0 c.loop-order-test.true) in
    let long = c.loop-order.invariant.long in
    grind (arith, common_steps)

pub offset_bounds-slots-order : goal.offset_bounds-slots-order
offset_bounds-slots-order g c =
    offset_fits _ (c.requires _ (Contains-get_or c.args.orders.now c.loop-order.order-index 0 c.loop-order-test.true)) c.well_formed.0.1

pub loop-order-init : goal.loop-order-init
loop-order-init g c = set_none c.args.slots.now c.args.x

pub loop-order-preserved : goal.loop-order-preserved
loop-order-preserved g c =
    let within = c.requires _ (Contains-get_or c.args.orders.now c.loop-order.order-index 0 c.loop-order-test.true) in
    rw (take_more c.args.orders.now c.loop-order.order-index 0 c.loop-order-test.true)
    (set_more (take c.loop-order.order-index c.args.orders.now) (get_or c.args.orders.now c.loop-order.order-index 0) c.loop-order.invariant within)
