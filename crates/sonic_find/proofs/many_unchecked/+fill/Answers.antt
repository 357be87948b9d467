use Rattle.sonic_find.proofs.many_unchecked.+fill.Goals as goal
use Rattle.std.proofs.Common.{◌≡◌, ap, length, refl, arith}
use Rattle.std.proofs.lemmas.Bool.Decides.{nat_tests}
use Rattle.std.proofs.lemmas.Option.{IfSome_then, slice_get_within}
use Rattle.sonic_find.proofs.GetLemmas.{by_whole}
use Rattle.sonic_find.proofs.MarkLemmas.Collect.{collected_up, fail_up, dead_below, dead_keeps, dead_collected, lacks_keeps, lacks_collected, one_more_collected, nearer_below, kept_collected, early_collected}
use Rattle.sonic_find.proofs.WalkLemmas.End.{value_keeps}
use Rattle.sonic_find.proofs.WalkLemmas.List.{set_mapped}
use Rattle.sonic_find.proofs.WalkLemmas.Path.{comes_down}
use Rattle.sonic_find.specs.Internal.Fill.{origin_at}
use Rattle.sonic_pointer.specs.Nodes.{node_of}
use Rattle.sonic_pointer.specs.declared.rule.KeyRule.TheVariants.{First}
use Rattle.sonic_text.proofs.Values.{items-later, head-later, value-longer}
use Rattle.sonic_text.proofs.Within.{value_within}

pub fill-loop-i-init : goal.fill-loop-i-init
fill-loop-i-init t g c = record { kept = λ k path is x. x; fails = tt; below = λ i node l is. absurd (omega (arith, l)) }

pub fill-loop-i-preserved : goal.fill-loop-i-preserved
fill-loop-i-preserved t g c =
    let point = origin_at t.S.Slot.tells c.args.origin c.args.view.now in
    let kept = c.fill_child-stop.ensures.kept in
    record {
      kept = λ k path is x. kept k path is (c.loop-i.invariant.kept k path is x);
      fails = nearer_below point c.loop-i.invariant.fails c.fill_child-stop.ensures.fails c.nearer-nearest.ensures.either;
      below = one_more_collected point c.args.view.now.children kept c.nearer-nearest.ensures.one c.nearer-nearest.ensures.other c.loop-i.invariant.below
          c.fill_child-stop.ensures.all;
    }

pub fill-returns-then-is_empty-clause-all : goal.fill-returns-then-is_empty-clause-all
fill-returns-then-is_empty-clause-all t g c =
    early_collected (origin_at t.S.Slot.tells c.args.origin c.args.view.now) c.orders-orders.ensures (grind (arith, nat_tests)) c.count-i-end.ensures.children
    (λ i node is.
    c.loop-i.invariant.below i node
    (omega (arith, slice_get_within c.args.view.now.children i node is, c.count-i-end.ensures.count, c.loop-i-test.false)) is)

pub fill-keep-requires : goal.fill-keep-requires
fill-keep-requires t g c = λ k h.
    let within = slice_get_within c.args.view.now.paths k c.args.view.now.prefix ((c.orders-orders.ensures.exact k).0 h) in
    omega (arith, within, c.loop-i.auto.slots, c.requires.long)

pub fill-returns-clause-kept : goal.fill-returns-clause-kept
fill-returns-clause-kept t g c =
    let filled = rw c.span-start.ensures.start at (rw c.found.ensures at (set_mapped t.S.Slot.told c.keep.ensures)) in
    let kept = value_keeps c.requires.comes c.span-start.ensures.value c.orders-orders.ensures filled (λ e. e) in
    λ k path is x. kept k path is (c.loop-i.invariant.kept k path is x)

pub fill-returns-clause-all : goal.fill-returns-clause-all
fill-returns-clause-all t g c =
    let point = origin_at t.S.Slot.tells c.args.origin c.args.view.now in
    let filled = rw c.span-start.ensures.start at (rw c.found.ensures at (set_mapped t.S.Slot.told c.keep.ensures)) in
    kept_collected point c.requires.comes c.span-start.ensures.value c.orders-orders.ensures filled (λ e. e) c.count-i-end.ensures.children
    (λ i node is.
    c.loop-i.invariant.below i node
    (omega (arith, slice_get_within c.args.view.now.children i node is, c.count-i-end.ensures.count, c.loop-i-test.false)) is)

pub fill_child-fill-requires : goal.fill_child-fill-requires
fill_child-fill-requires t g c = λ κs sub.
    let text = c.child.ensures.text c.in-Found.child c.in-Found.is in
    let leads = c.child.ensures.leads c.in-Found.child c.in-Found.is in
    let node = node_of c.child-below.result.0 in
    let below = c.child-below.ensures in
    let whole = by_whole First node leads c.requires.whole in
    let value = whole.1 in (
      omega (arith, c.decreases, items-later leads.before.fit, head-later leads.item.head, value-longer value, value_within value, ap length text),
      (sub, (rw text whole, (rw (text, below.paths, below.prefix) (comes_down node c.requires.comes leads), rw below.paths c.requires.long))),
    )

pub fill_child-returns-in-Found-clause-kept : goal.fill_child-returns-in-Found-clause-kept
fill_child-returns-in-Found-clause-kept t g c = rw (c.child.ensures.text c.in-Found.child c.in-Found.is, c.child-below.ensures.paths) at c.fill.ensures.kept

pub fill_child-returns-in-Found-clause-fails : goal.fill_child-returns-in-Found-clause-fails
fill_child-returns-in-Found-clause-fails t g c =
    let text = c.child.ensures.text c.in-Found.child c.in-Found.is in
    let leads = c.child.ensures.leads c.in-Found.child c.in-Found.is in
    let fails = rw (text, c.child-below.ensures.paths, c.child-below.ensures.prefix) at c.fill.ensures.fails in
    IfSome_then c.fill.result fails (λ s x. fail_up (origin_at t.S.Slot.tells c.args.origin c.args.view.now) (node_of c.child-below.result.0) c.in-Found.child.place leads x)

pub fill_child-returns-in-Found-clause-all : goal.fill_child-returns-in-Found-clause-all
fill_child-returns-in-Found-clause-all t g c = λ node is.
    let same : node_of c.child-below.result.0 ≡ node = cc (c.child-below.ensures.node, is) in
    let text = c.child.ensures.text c.in-Found.child c.in-Found.is in
    let all = rw (text, c.child-below.ensures.paths, c.child-below.ensures.prefix) at c.fill.ensures.all in
    rw (← same) (collected_up (origin_at t.S.Slot.tells c.args.origin c.args.view.now) (node_of c.child-below.result.0) c.in-Found.child.place all)

pub fill_child-settle-requires : goal.fill_child-settle-requires
fill_child-settle-requires t g c = rw c.child-below.ensures.paths c.requires.long

pub fill_child-settle-requires-in-Fails : goal.fill_child-settle-requires-in-Fails
fill_child-settle-requires-in-Fails t g c = rw c.child-below.ensures.paths c.requires.long

pub fill_child-returns-in-Missing-clause-kept : goal.fill_child-returns-in-Missing-clause-kept
fill_child-returns-in-Missing-clause-kept t g c =
    let point = origin_at t.S.Slot.tells c.args.origin c.args.view.now in
    let lack = c.child.ensures.lacks c.in-Missing.brace c.in-Missing.is in
    let filled = rw c.missing.ensures at (set_mapped t.S.Slot.told (rw (c.child-below.ensures.paths, c.child-below.ensures.prefix) at c.settle.ensures)) in
    lacks_keeps point (node_of c.child-below.result.0) c.requires.comes lack filled refl

pub fill_child-returns-in-Missing-clause-all : goal.fill_child-returns-in-Missing-clause-all
fill_child-returns-in-Missing-clause-all t g c = λ node is.
    let same : node_of c.child-below.result.0 ≡ node = cc (c.child-below.ensures.node, is) in
    let lack = c.child.ensures.lacks c.in-Missing.brace c.in-Missing.is in
    let filled = rw c.missing.ensures at (set_mapped t.S.Slot.told (rw (c.child-below.ensures.paths, c.child-below.ensures.prefix) at c.settle.ensures)) in
    rw (← same) (lacks_collected (origin_at t.S.Slot.tells c.args.origin c.args.view.now) (node_of c.child-below.result.0) c.requires.comes lack filled refl)

pub fill_child-returns-in-Fails-clause-kept : goal.fill_child-returns-in-Fails-clause-kept
fill_child-returns-in-Fails-clause-kept t g c =
    let point = origin_at t.S.Slot.tells c.args.origin c.args.view.now in
    let dead = c.child.ensures.fails c.in-Fails.stop c.in-Fails.is in
    let filled = rw c.fails.ensures at (set_mapped t.S.Slot.told (rw (c.child-below.ensures.paths, c.child-below.ensures.prefix) at c.settle-in-Fails.ensures)) in
    dead_keeps point (node_of c.child-below.result.0) c.requires.whole c.requires.comes dead filled (λ e. e)

pub fill_child-returns-in-Fails-clause-fails : goal.fill_child-returns-in-Fails-clause-fails
fill_child-returns-in-Fails-clause-fails t g c =
    let point = origin_at t.S.Slot.tells c.args.origin c.args.view.now in
    let dead = c.child.ensures.fails c.in-Fails.stop c.in-Fails.is in
    dead_below point c.args.i (node_of c.child-below.result.0) c.requires.whole c.requires.children c.child-below.ensures.node dead

pub fill_child-returns-in-Fails-clause-all : goal.fill_child-returns-in-Fails-clause-all
fill_child-returns-in-Fails-clause-all t g c = λ node is.
    let point = origin_at t.S.Slot.tells c.args.origin c.args.view.now in
    let same : node_of c.child-below.result.0 ≡ node = cc (c.child-below.ensures.node, is) in
    let dead = c.child.ensures.fails c.in-Fails.stop c.in-Fails.is in
    let filled = rw c.fails.ensures at (set_mapped t.S.Slot.told (rw (c.child-below.ensures.paths, c.child-below.ensures.prefix) at c.settle-in-Fails.ensures)) in
    rw (← same) (dead_collected point (node_of c.child-below.result.0) c.requires.whole c.requires.comes dead filled)
