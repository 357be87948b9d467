use Rattle.sonic_find.proofs.provisional.+collect.Goals as goal
use Rattle.std.proofs.Common.{◌≡◌, ap, arith, refl}
use Rattle.std.proofs.lemmas.Option.{IfSome_then, slice_get_within}
use Rattle.sonic_find.proofs.MarkLemmas.Collect.{live_says, says_child, live_all, collected_up, fail_up, dead_below, dead_collected, dead_later, lacks_collected, lacks_later, one_more_collected, nearer_below, kept_collected}
use Rattle.sonic_find.proofs.WalkLemmas.End.{order_within, value_later}
use Rattle.sonic_find.proofs.WalkLemmas.Path.{comes_down, not_later, later_twice}
use Rattle.sonic_find.specs.Internal.View.{marked_at}
use Rattle.sonic_pointer.specs.Nodes.{node_of}
use Rattle.sonic_text.proofs.Values.{value-longer}
use Rattle.sonic_text.proofs.Within.{value_within}

pub collect-loop-i-init : goal.collect-loop-i-init
collect-loop-i-init t c = record {
  kept = refl;
  later = not_later c.requires.findings;
  fails = tt;
  below = λ i node l is. absurd (omega (arith, l));
}

pub collect-loop-i-preserved : goal.collect-loop-i-preserved
collect-loop-i-preserved t c =
    let kept = c.loop-i.invariant.kept in
    let point = marked_at c.args.walk.now c.args.view.now c.args.mark in
    let later = rw kept at c.collect_child-stop.ensures.later in
    record {
      kept = rw kept at c.collect_child-stop.ensures.kept;
      later = later_twice c.loop-i.invariant.later later;
      fails = nearer_below point c.loop-i.invariant.fails (rw kept at c.collect_child-stop.ensures.fails) c.nearer-nearest.ensures.either;
      below = one_more_collected point c.args.view.now.children later.kept c.nearer-nearest.ensures.one c.nearer-nearest.ensures.other c.loop-i.invariant.below
          (rw kept at c.collect_child-stop.ensures.all);
    }

pub collect-keep-requires-clause-known : goal.collect-keep-requires-clause-known
collect-keep-requires-clause-known t c = λ k h. order_within k c.orders.ensures c.loop-i.invariant.later.are h

pub collect-returns-clause-later : goal.collect-returns-clause-later
collect-returns-clause-later t c =
    let later = c.loop-i.invariant.later in
    rw c.keep.ensures.kept
    (later_twice later (value_later c.requires.comes c.requires.whole.value c.orders.ensures later.are c.keep.ensures.filled))

pub collect-returns-clause-all : goal.collect-returns-clause-all
collect-returns-clause-all t c =
    let point = marked_at c.args.walk.now c.args.view.now c.args.mark in
    let value = c.requires.whole.value in
    rw c.keep.ensures.kept
    (kept_collected point c.requires.comes value c.orders.ensures c.keep.ensures.filled (λ e. e) c.count-i-end.ensures.children
    (λ i node is.
    c.loop-i.invariant.below i node
    (omega (arith, slice_get_within c.args.view.now.children i node is, c.count-i-end.ensures.count, c.loop-i-test.false)) is))

pub collect_child-live_child-requires-clause-says : goal.collect_child-live_child-requires-clause-says
collect_child-live_child-requires-clause-says t c =
    let point = marked_at c.args.walk.now c.args.view.now c.args.mark in
    let below = c.child-below.ensures in
    rw (below.paths, below.prefixes, below.prefix) (says_child c.args.i (node_of c.child-below.result.0) c.requires.children below.node c.requires.says)

pub collect_child-collect-requires : goal.collect_child-collect-requires
collect_child-collect-requires t c =
    let point = marked_at c.args.walk.now c.args.view.now c.args.mark in
    let below = c.child-below.ensures in
    let node = node_of c.child-below.result.0 in
    let live = rw (below.paths, below.prefixes, below.prefix) at (c.live_child.ensures.live c.in-Found.child c.in-Found.is) in
    let leads = live_says c.requires.marks live (says_child c.args.i node c.requires.children below.node c.requires.says) in (
      omega (arith, c.decreases, live.later, value-longer leads.1.value, value_within leads.1.value),
      (
        rw (below.paths, below.prefixes, below.prefix) (live_all node c.requires.marks live c.requires.says),
        (
          leads.1,
          (
            rw (below.paths, below.prefixes) c.requires.marks,
            (rw (below.paths, below.prefix) (comes_down node c.requires.comes leads.0), rw below.paths c.requires.findings),
          ),
        ),
      ),
    )

pub collect_child-returns-in-Found-clause-fails : goal.collect_child-returns-in-Found-clause-fails
collect_child-returns-in-Found-clause-fails t c =
    let point = marked_at c.args.walk.now c.args.view.now c.args.mark in
    let below = c.child-below.ensures in
    let node = node_of c.child-below.result.0 in
    let live = rw (below.paths, below.prefixes, below.prefix) at (c.live_child.ensures.live c.in-Found.child c.in-Found.is) in
    let leads = live_says c.requires.marks live (says_child c.args.i node c.requires.children below.node c.requires.says) in
    let fails = rw (below.paths, below.prefix) at c.collect.ensures.fails in
    IfSome_then c.collect.result fails (λ s x. fail_up point node c.in-Found.child.value.start leads.0 x)

pub collect_child-returns-in-Found-clause-all : goal.collect_child-returns-in-Found-clause-all
collect_child-returns-in-Found-clause-all t c = λ node is.
    let point = marked_at c.args.walk.now c.args.view.now c.args.mark in
    let below = c.child-below.ensures in
    let same : node_of c.child-below.result.0 ≡ node = cc (below.node, is) in
    let all = rw (below.paths, below.prefix) at c.collect.ensures.all in
    rw (← same) (collected_up point (node_of c.child-below.result.0) c.in-Found.child.value.start all)

pub collect_child-lack-requires : goal.collect_child-lack-requires
collect_child-lack-requires t c = rw c.child-below.ensures.paths c.requires.findings.long

pub collect_child-returns-in-Missing-clause-later : goal.collect_child-returns-in-Missing-clause-later
collect_child-returns-in-Missing-clause-later t c =
    let point = marked_at c.args.walk.now c.args.view.now c.args.mark in
    let below = c.child-below.ensures in
    let lack = c.live_child.ensures.lacks c.in-Missing.brace c.in-Missing.is in
    let filled = rw (below.paths, below.prefix) at c.lack.ensures.filled in
    rw c.lack.ensures.kept
    (lacks_later point c.args.i (node_of c.child-below.result.0) c.requires.comes c.requires.children below.node lack filled refl c.requires.findings)

pub collect_child-returns-in-Missing-clause-all : goal.collect_child-returns-in-Missing-clause-all
collect_child-returns-in-Missing-clause-all t c = λ node is.
    let point = marked_at c.args.walk.now c.args.view.now c.args.mark in
    let below = c.child-below.ensures in
    let same : node_of c.child-below.result.0 ≡ node = cc (below.node, is) in
    let lack = rw same at (c.live_child.ensures.lacks c.in-Missing.brace c.in-Missing.is) in
    let filled = rw (below.paths, below.prefix, same) at c.lack.ensures.filled in
    lacks_collected point node c.requires.comes lack filled (ap (λ walk. walk.findings.lacking) c.lack.ensures.kept)

pub collect_child-fail-requires : goal.collect_child-fail-requires
collect_child-fail-requires t c = rw c.child-below.ensures.paths c.requires.findings.long

pub collect_child-returns-in-Fails-clause-later : goal.collect_child-returns-in-Fails-clause-later
collect_child-returns-in-Fails-clause-later t c =
    let point = marked_at c.args.walk.now c.args.view.now c.args.mark in
    let below = c.child-below.ensures in
    let dead = c.live_child.ensures.fails c.in-Fails.stop c.in-Fails.is in
    let filled = rw (below.paths, below.prefix) at c.fail.ensures.filled in
    rw c.fail.ensures.kept
    (dead_later point (node_of c.child-below.result.0) (_, c.requires.whole.value) c.requires.comes dead filled refl c.requires.findings)

pub collect_child-returns-in-Fails-clause-fails : goal.collect_child-returns-in-Fails-clause-fails
collect_child-returns-in-Fails-clause-fails t c =
    let point = marked_at c.args.walk.now c.args.view.now c.args.mark in
    dead_below point c.args.i (node_of c.child-below.result.0) (_, c.requires.whole.value) c.requires.children c.child-below.ensures.node
    (c.live_child.ensures.fails c.in-Fails.stop c.in-Fails.is)

pub collect_child-returns-in-Fails-clause-all : goal.collect_child-returns-in-Fails-clause-all
collect_child-returns-in-Fails-clause-all t c = λ node is.
    let point = marked_at c.args.walk.now c.args.view.now c.args.mark in
    let below = c.child-below.ensures in
    let same : node_of c.child-below.result.0 ≡ node = cc (below.node, is) in
    let dead = c.live_child.ensures.fails c.in-Fails.stop c.in-Fails.is in
    let filled = rw (below.paths, below.prefix) at c.fail.ensures.filled in
    rw (← same) (dead_collected point (node_of c.child-below.result.0) (_, c.requires.whole.value) c.requires.comes dead filled)
