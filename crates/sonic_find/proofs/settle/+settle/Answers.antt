use Rattle.sonic_find.proofs.settle.+settle.Goals as goal
use Rattle.std.proofs.Common.{arith, ap, sym, ◌∙◌, length}
use Rattle.std.proofs.lemmas.Option.{slice_get_within}
use Rattle.sonic_find.proofs.WalkLemmas.List.{set_nothing}
use Rattle.sonic_find.proofs.WalkLemmas.Settle.{less_left, one_more_set, none_set, all_set, begins_set}
use Rattle.sonic_pointer.specs.Nodes.{node_of}

pub settle-requires : goal.settle-requires
settle-requires t g c = λ κs sub.
    let view = c.args.view.now in
    let below = c.child-below.ensures in
    let node = node_of c.child-below.result.0 in
    let less = less_left c.loop-i.i node c.count-i-end.ensures.children below.node in
    (rw (below.paths, below.prefix) (omega (arith, c.decreases, less)), (sub, c.loop-i.auto.slots ∙ (c.requires ∙ sym (ap length below.paths))))

pub loop-i-init : goal.loop-i-init
loop-i-init t g c = set_nothing c.args.slots.now c.args.x (none_set c.args.view.now.paths c.args.view.now.prefix c.args.view.now.children (λ i. Unit))

pub loop-i-preserved : goal.loop-i-preserved
loop-i-preserved t g c =
    let view = c.args.view.now in
    let below = c.child-below.ensures in
    one_more_set view.paths view.prefix view.children (λ i. Unit) (node_of c.child-below.result.0) below.node tt c.loop-i.invariant
    (rw (below.paths, below.prefix) at c.settle.ensures)

pub keep-requires : goal.keep-requires
keep-requires t g c = λ k h.
    let within = slice_get_within c.args.view.now.paths k c.args.view.now.prefix ((c.orders.ensures.exact k).0 h) in
    omega (arith, within, c.loop-i.auto.slots, c.requires)

pub returns : goal.returns
returns t g c =
    let view = c.args.view.now in
    let long = c.loop-i-test.false in
    let all = all_set view.paths view.prefix view.children (λ i. Unit) (omega (arith, c.count-i-end.ensures.count, long)) c.loop-i.invariant in
    begins_set c.count-i-end.ensures.children c.orders.ensures all c.keep.ensures
