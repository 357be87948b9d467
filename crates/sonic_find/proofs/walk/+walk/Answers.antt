use Rattle.sonic_find.proofs.walk.+walk.Goals as goal
use Rattle.std.proofs.Common.{◌≡◌, ◌∙◌, inr, ap, sym, true, length, set, arith, refl}
use Rattle.std.proofs.lemmas.Option.{slice_get_within}
use Rattle.std.proofs.lemmas.Result.{IfErr-weaker, err_from_is_err_and}
use Rattle.sonic_find.proofs.MarkLemmas.Collect.{stop_anyway}
use Rattle.sonic_find.proofs.MarkLemmas.Kept.{keeps_later}
use Rattle.sonic_find.proofs.PathLemmas.Lead.{count_below}
use Rattle.sonic_find.proofs.WalkLemmas.Child.{is_visit, child_comes, child_prefix, child_passed, child_stops, asked_or_lacks}
use Rattle.sonic_find.proofs.WalkLemmas.End.{whole_there, close_stops, close_later, close_settled, dead_later, dead_settled, done_settled, container_plain, order_within, value_later, value_settled, early_settled, asked_stops}
use Rattle.sonic_parser.proofs.FaultLemmas.{stop_weaker}
use Rattle.sonic_find.proofs.WalkLemmas.Path.{not_later, later_twice}
use Rattle.sonic_find.proofs.WalkLemmas.Start.{none_counted, leaf_settled, leaf_stops, unopened_stops, dead_stops, first_followed, first_wanted}
use Rattle.sonic_find.proofs.WalkLemmas.Step.{key_stops, skip_stops, separator_stops, next_followed, skip_passed, closed, child_within, passed_later, separated_later}
use Rattle.sonic_find.specs.Internal.View.{point_at, container_at}
use Rattle.sonic_pointer.specs.Nodes.{node_of}
use Rattle.sonic_text.proofs.Places.{after_space_later}
use Rattle.sonic_text.proofs.Values.{items-later, value-longer}
use Rattle.sonic_text.proofs.Within.{items_within}

pub follow-returns-in_err-value-clause-err : goal.follow-returns-in_err-value-clause-err
follow-returns-in_err-value-clause-err t c =
    let p = err_from_is_err_and c.from_residual.result c.from_residual.ensures.1 in
    let none = none_counted c.args.view.now.children (sym c.count.ensures.count ∙ c.if-count-eq0.true) in
    rw (p.1, p.2) (stop_weaker c.in_err-value.field-0.0
    (λ s f. leaf_stops (point_at c.args.walk.now c.args.view.now) c.count.ensures.children none c.requires.some f) c.in_err-value.ensures.err)

pub follow-keep-requires-clause-known : goal.follow-keep-requires-clause-known
follow-keep-requires-clause-known t c = λ k h. rw c.in_ok-value.ensures.moved (order_within k c.orders.ensures c.requires.are h)

pub follow-returns-then-count-eq0-clause-later : goal.follow-returns-then-count-eq0-clause-later
follow-returns-then-count-eq0-clause-later t c =
    let filled = rw (c.in_ok-value.ensures.span.0, c.in_ok-value.ensures.span.1, c.in_ok-value.ensures.moved) at c.keep.ensures.filled in
    rw (c.keep.ensures.kept, c.in_ok-value.ensures.moved)
    (value_later c.requires.comes c.in_ok-value.ensures.value c.orders.ensures c.requires.are filled)

pub follow-returns-then-count-eq0-clause-settled : goal.follow-returns-then-count-eq0-clause-settled
follow-returns-then-count-eq0-clause-settled t c =
    let filled = rw (c.in_ok-value.ensures.span.0, c.in_ok-value.ensures.span.1, c.in_ok-value.ensures.moved) at c.keep.ensures.filled in
    let point = point_at c.args.walk.now c.args.view.now in
    let later = value_later c.requires.comes c.in_ok-value.ensures.value c.orders.ensures c.requires.are filled in
    let none = none_counted c.args.view.now.children (sym c.count.ensures.count ∙ c.if-count-eq0.true) in
    let below = leaf_settled point c.count.ensures.children none in
    rw (c.keep.ensures.kept, c.in_ok-value.ensures.moved)
    (value_settled point c.requires.comes c.in_ok-value.ensures.value c.orders.ensures filled later below)

pub follow-returns-then-count-eq0-clause-marks : goal.follow-returns-then-count-eq0-clause-marks
follow-returns-then-count-eq0-clause-marks t c =
    let later = value-longer c.in_ok-value.ensures.value in
    rw (c.keep.ensures.kept, c.in_ok-value.ensures.moved) (keeps_later c.requires.marks (omega (arith, later)))

pub follow_children-returns-then-gathers-clause-err : goal.follow_children-returns-then-gathers-clause-err
follow_children-returns-then-gathers-clause-err t c =
    IfErr-weaker c.follow_whole.result _ _ (λ fault e. stop_weaker fault (λ s f. stop_anyway f) e) c.follow_whole.ensures.err

pub follow_children-returns-in_err-value-clause-err : goal.follow_children-returns-in_err-value-clause-err
follow_children-returns-in_err-value-clause-err t c =
    let p = err_from_is_err_and c.from_residual.result c.from_residual.ensures.1 in
    let e = rw c.place-start.ensures.place at c.in_err-value.ensures.err in
    rw (p.1, p.2) (stop_weaker c.in_err-value.field-0.0 (λ s f. asked_stops c.orders-orders.ensures c.is_asked.ensures.asked f) e)

pub follow_children-returns-in_default-clause-settled : goal.follow_children-returns-in_default-clause-settled
follow_children-returns-in_default-clause-settled t c =
    let unneeded = rw c.in_default.is at c.in_ok-value.ensures.unneeded in
    early_settled (point_at c.args.walk.now c.args.view.now) c.orders-orders.ensures (c.is_asked.ensures.unasked unneeded.0).1 c.in_ok-value.ensures.settled

pub follow_children-keep-requires-clause-known : goal.follow_children-keep-requires-clause-known
follow_children-keep-requires-clause-known t c = λ k h. order_within k c.orders-orders.ensures c.in_ok-value.ensures.later.are h

pub follow_children-keep-requires-clause-escaped : goal.follow_children-keep-requires-clause-escaped
follow_children-keep-requires-clause-escaped t c =
    let value = rw c.in-Some.is at c.in_ok-value.ensures.whole in
    rw c.in_ok-value.ensures.moved value.escaped

pub follow_children-returns-clause-later : goal.follow_children-returns-clause-later
follow_children-returns-clause-later t c =
    let value = rw c.in-Some.is at c.in_ok-value.ensures.whole in
    let filled = rw (value.begins, value.ends) at c.keep.ensures.filled in
    let later = c.in_ok-value.ensures.later in
    rw c.keep.ensures.kept (later_twice later (value_later c.requires.comes value.value c.orders-orders.ensures later.are filled))

pub follow_children-returns-clause-settled : goal.follow_children-returns-clause-settled
follow_children-returns-clause-settled t c =
    let value = rw c.in-Some.is at c.in_ok-value.ensures.whole in
    let filled = rw (value.begins, value.ends) at c.keep.ensures.filled in
    let point = point_at c.args.walk.now c.args.view.now in
    let later = value_later c.requires.comes value.value c.orders-orders.ensures c.in_ok-value.ensures.later.are filled in
    rw c.keep.ensures.kept (value_settled point c.requires.comes value.value c.orders-orders.ensures filled later c.in_ok-value.ensures.settled)

pub item-returns-in_err-child-clause-err : goal.item-returns-in_err-child-clause-err
item-returns-in_err-child-clause-err t c =
    let p = err_from_is_err_and c.from_residual.result c.from_residual.ensures.1 in
    let e = c.in_err-child.ensures.err in
    rw (p.1, p.2) (key_stops c.requires.before c.requires.wanted e.0 e.1)

pub item-unvisited-requires : goal.item-unvisited-requires
item-unvisited-requires t c =
    child_within (container_at c.args.walk.now c.args.level.now) c.args.visited.now _ c.in_ok-child.child c.requires.before.long c.in_ok-child.ensures.item.is

pub item-returns-in_err-skip-clause-err : goal.item-returns-in_err-skip-clause-err
item-returns-in_err-skip-clause-err t c =
    let p = err_from_is_err_and c.from_residual-in_err-skip.result c.from_residual-in_err-skip.ensures.1 in
    let x = c.in_ok-child.ensures.item in
    let container = container_at c.args.walk.now c.args.level.now in
    let other = closed container c.args.visited.now c.in_ok-child.child c.requires.before.container x.is c.in_default.ensures.none in
    let e = rw c.in_ok-child.ensures.moved at c.in_err-skip.ensures.err in
    rw (p.1, p.2) (stop_weaker c.in_err-skip.field-0.0 (λ s f. skip_stops c.requires.before c.requires.wanted x.head other f) e)

pub item-returns-in_default-clause-later : goal.item-returns-in_default-clause-later
item-returns-in_default-clause-later t c = rw (c.in_ok-skip.ensures.moved, c.in_ok-child.ensures.moved) (not_later c.requires.before.are)

pub item-returns-in_default-clause-passed : goal.item-returns-in_default-clause-passed
item-returns-in_default-clause-passed t c =
    let x = c.in_ok-child.ensures.item in
    let container = container_at c.args.walk.now c.args.level.now in
    let other = closed container c.args.visited.now c.in_ok-child.child c.requires.before.container x.is c.in_default.ensures.none in
    let value = rw c.in_ok-child.ensures.moved at c.in_ok-skip.ensures.value in
    rw (c.in_ok-skip.ensures.moved, c.in_ok-child.ensures.moved) (skip_passed c.requires.before x.head other value)

pub item-returns-in_default-clause-marks : goal.item-returns-in_default-clause-marks
item-returns-in_default-clause-marks t c =
    let value = rw c.in_ok-child.ensures.moved at c.in_ok-skip.ensures.value in
    let later = value-longer value in
    rw (c.in_ok-skip.ensures.moved, c.in_ok-child.ensures.moved) (keeps_later c.requires.marks (omega (arith, c.in_ok-child.ensures.later, later)))

pub item-child-below-requires : goal.item-child-below-requires
item-child-below-requires t c =
    let x = rw c.in-Some.ensures.some.0 at c.in_ok-child.ensures.item in
    slice_get_within c.args.level.now.view.now.children c.in-Some.unvisited x.node x.is

pub item-follow-requires : goal.item-follow-requires
item-follow-requires t c =
    let m = is_visit c.in_ok-child.child c.requires.before c.in_ok-child.ensures.item c.in-Some.ensures.some in
    let same : node_of c.child-below.result.0 ≡ m.node = cc (c.child-below.ensures.node, m.is) in
    let prefix = rw same at c.child-below.ensures.prefix in
    let long = ap (λ walk. length walk.text) c.in_ok-child.ensures.moved in (
      omega (arith, c.decreases, c.in_ok-child.ensures.later, long),
      (
        rw (c.in_ok-child.ensures.moved, c.child-below.ensures.paths, prefix) (child_comes m),
        (
          rw (c.child-below.ensures.paths, prefix) (child_prefix m),
          (
            rw (c.child-below.ensures.paths, c.in_ok-child.ensures.moved) c.requires.before.are,
            rw (c.child-below.ensures.paths, c.child-below.ensures.prefixes, c.in_ok-child.ensures.moved) (keeps_later c.requires.marks c.in_ok-child.ensures.later),
          ),
        ),
      ),
    )

pub item-returns-in_err-follow-clause-err : goal.item-returns-in_err-follow-clause-err
item-returns-in_err-follow-clause-err t c =
    let p = err_from_is_err_and c.from_residual-in_err-follow.result c.from_residual-in_err-follow.ensures.1 in
    let m = is_visit c.in_ok-child.child c.requires.before c.in_ok-child.ensures.item c.in-Some.ensures.some in
    let same : node_of c.child-below.result.0 ≡ m.node = cc (c.child-below.ensures.node, m.is) in
    let prefix = rw same at c.child-below.ensures.prefix in
    let e = rw (c.in_ok-child.ensures.moved, c.child-below.ensures.paths, prefix) at c.in_err-follow.ensures.err in
    let wants = rw (c.visit.ensures, c.in_ok-child.ensures.moved) at c.is_wanted-more.ensures.more in
    rw (p.1, p.2) (stop_weaker c.in_err-follow.field-0.0 (λ s f. child_stops m wants f) e)

pub item-returns-clause-passed : goal.item-returns-clause-passed
item-returns-clause-passed t c =
    let m = is_visit c.in_ok-child.child c.requires.before c.in_ok-child.ensures.item c.in-Some.ensures.some in
    let same : node_of c.child-below.result.0 ≡ m.node = cc (c.child-below.ensures.node, m.is) in
    let prefix = rw same at c.child-below.ensures.prefix in
    let later = rw (c.child-below.ensures.paths, c.in_ok-child.ensures.moved) at c.in_ok-follow.ensures.later in
    let settled = rw (c.in_ok-child.ensures.moved, c.child-below.ensures.paths, prefix) at c.in_ok-follow.ensures.settled in
    let value = rw c.in_ok-child.ensures.moved at c.in_ok-follow.ensures.whole in
    let done = rw c.visit.ensures at c.is_wanted-more.ensures.done in
    rw c.visit.ensures (child_passed m later settled (λ w. value (asked_or_lacks (set c.args.visited.now c.in-Some.unvisited true) c.is_wanted-more.result done w)))

pub items-returns-in_err-dead-clause-err : goal.items-returns-in_err-dead-clause-err
items-returns-in_err-dead-clause-err t c =
    let p = err_from_is_err_and c.from_residual-in_err-dead.result c.from_residual-in_err-dead.ensures.1 in
    let e = rw (← c.requires.start) at c.in_err-dead.ensures.err in
    rw (p.1, p.2) (stop_weaker c.in_err-dead.field-0.0 (λ s f. unopened_stops c.requires.container c.requires.some f) e)

pub items-returns-in_err-fail-clause-err : goal.items-returns-in_err-fail-clause-err
items-returns-in_err-fail-clause-err t c =
    let p = err_from_is_err_and c.from_residual-in_err-fail.result c.from_residual-in_err-fail.ensures.1 in
    let e = rw c.in_ok-dead.ensures.moved at c.in_err-fail.ensures.err in
    let passed = rw c.in-Some.is at c.in_ok-dead.ensures.passed in
    rw (p.1, p.2) (rw e.1 (dead_stops c.requires.container c.requires.some (rw (← c.requires.start) at passed.dead) e.0))

pub items-returns-in-Some-clause-later : goal.items-returns-in-Some-clause-later
items-returns-in-Some-clause-later t c =
    let passed = rw c.in-Some.is at c.in_ok-dead.ensures.passed in
    let filled = rw c.in_ok-dead.ensures.moved at c.in_ok-fail.ensures.filled in
    let same = ap (λ walk. walk.findings.lacking) c.in_ok-fail.ensures.kept ∙ ap (λ walk. walk.findings.lacking) c.in_ok-dead.ensures.moved in
    dead_later c.in_ok-visited.visited c.requires.container (rw (← c.requires.start) at passed.dead) filled same c.requires.are

pub items-returns-in-Some-clause-settled : goal.items-returns-in-Some-clause-settled
items-returns-in-Some-clause-settled t c =
    let passed = rw c.in-Some.is at c.in_ok-dead.ensures.passed in
    let filled = rw c.in_ok-dead.ensures.moved at c.in_ok-fail.ensures.filled in
    let none = rw c.count.ensures.count at c.in_ok-visited.ensures.none in
    let each = rw c.in_ok-dead.ensures.moved at c.in_ok-fail.ensures.goes in
    dead_settled c.in_ok-visited.visited c.requires.container (rw (← c.requires.start) at passed.dead) none filled each

pub items-returns-in-Some-clause-marks : goal.items-returns-in-Some-clause-marks
items-returns-in-Some-clause-marks t c =
    let passed = rw c.in-Some.is at c.in_ok-dead.ensures.passed in
    let later = value-longer passed.value.value in
    rw (c.in_ok-fail.ensures.kept, c.in_ok-dead.ensures.moved) (keeps_later c.requires.marks (omega (arith, later)))

pub items-items-init : goal.items-items-init
items-items-init t c =
    let fit = rw c.in_default.is at c.in_ok-dead.ensures.entered in
    let place = items-later fit in
    let within = items_within fit in
    let at_start = rw (← c.requires.start) at fit in
    let none = rw c.count.ensures.count at c.in_ok-visited.ensures.none in
    record {
      same = rw c.in_ok-dead.ensures.moved refl;
      place = place;
      within = rw c.in_ok-dead.ensures.moved (omega arith);
      before = rw c.in_ok-dead.ensures.moved
          (first_followed c.requires.container at_start c.requires.are (c.in_ok-visited.ensures.long ∙ c.count.ensures.count) none);
      wanted = inr (inr (first_wanted (container_at c.args.walk.now c.args.level.now) _ c.requires.some none));
      later = rw c.in_ok-dead.ensures.moved (not_later c.requires.are);
      marks = rw c.in_ok-dead.ensures.moved (keeps_later c.requires.marks (omega (arith, place)));
      none = λ k later less. absurd (omega (arith, less));
    }

pub items-returns-then-not-is_wanted-clause-later : goal.items-returns-then-not-is_wanted-clause-later
items-returns-then-not-is_wanted-clause-later t c = later_twice c.items.invariant.later (rw c.items.invariant.same at c.in_ok-item.ensures.later)

pub items-returns-then-not-is_wanted-clause-settled : goal.items-returns-then-not-is_wanted-clause-settled
items-returns-then-not-is_wanted-clause-settled t c =
    let same = c.items.invariant.same in
    done_settled (rw same at c.in_ok-item.ensures.passed) (c.is_wanted.ensures.done c.if-not-is_wanted.true).2

pub items-returns-in_err-next_item-clause-err : goal.items-returns-in_err-next_item-clause-err
items-returns-in_err-next_item-clause-err t c =
    let p = err_from_is_err_and c.from_residual-in_err-next_item.result c.from_residual-in_err-next_item.ensures.1 in
    let passed = rw c.items.invariant.same at c.in_ok-item.ensures.passed in
    let e = rw (c.in_ok-item.ensures.moved, c.items.invariant.same) at c.in_err-next_item.ensures.err in
    rw (p.1, p.2) (separator_stops passed (c.is_wanted.ensures.more c.if-not-is_wanted.false) e)

pub items-overflow_add-passed : goal.items-overflow_add-passed
items-overflow_add-passed t c =
    let passed = c.in_ok-item.ensures.passed in
    let later = passed_later passed (c.is_wanted.ensures.more c.if-not-is_wanted.false) in
    let next = separated_later _ _ (c.in_ok-next_item.ensures.item c.if-not-branch.false) in
    omega (arith, count_below passed.before.fit, later, next.0, c.in_ok-next_item.ensures.fits)

pub items-items-smaller : goal.items-items-smaller
items-items-smaller t c =
    let later = passed_later c.in_ok-item.ensures.passed (c.is_wanted.ensures.more c.if-not-is_wanted.false) in
    let next = separated_later _ _ (c.in_ok-next_item.ensures.item c.if-not-branch.false) in
    let same = ap (λ walk. length walk.text) c.in_ok-item.ensures.moved in
    let long = ap (λ walk. length walk.text) c.in_ok-next_item.ensures.moved in
    omega (arith, later, next.0, next.1, same, long)

pub items-items-preserved : goal.items-items-preserved
items-items-preserved t c =
    let wanted = c.is_wanted.ensures.more c.if-not-is_wanted.false in
    let passed = rw c.items.invariant.same at c.in_ok-item.ensures.passed in
    let later = passed_later passed wanted in
    let comma = rw (c.in_ok-item.ensures.moved, c.items.invariant.same) at (c.in_ok-next_item.ensures.item c.if-not-branch.false) in
    let same = ap (λ walk. length walk.text) c.in_ok-item.ensures.moved in
    let long = ap (λ walk. length walk.text) c.in_ok-next_item.ensures.moved in
    let next = separated_later _ _ comma in
    record {
      same = rw (c.in_ok-next_item.ensures.moved, c.in_ok-item.ensures.moved, c.items.invariant.same) refl;
      place = omega (arith, c.items.invariant.place, later, next.0);
      within = omega (arith, c.items.invariant.within, same, long);
      before = rw c.in_ok-next_item.ensures.moved (next_followed passed wanted comma);
      wanted = rw c.in_ok-next_item.ensures.moved wanted;
      later = rw c.in_ok-next_item.ensures.moved (later_twice c.items.invariant.later (rw c.items.invariant.same at c.in_ok-item.ensures.later));
      marks = rw c.in_ok-next_item.ensures.moved (keeps_later c.in_ok-item.ensures.marks (omega (arith, next.0)));
      none = λ k later less. c.in_ok-item.ensures.none k (omega (arith, later)) less;
    }

pub items-returns-in_err-close-clause-err : goal.items-returns-in_err-close-clause-err
items-returns-in_err-close-clause-err t c =
    let p = err_from_is_err_and c.from_residual-in_err-close.result c.from_residual-in_err-close.ensures.1 in
    let passed = rw c.items.invariant.same at c.in_ok-item.ensures.passed in
    let end = rw (c.in_ok-item.ensures.moved, c.items.invariant.same) at (c.in_ok-next_item.ensures.end c.if-not-branch.true) in
    let e = rw (c.in_ok-next_item.ensures.moved, c.in_ok-item.ensures.moved, c.items.invariant.same) at c.in_err-close.ensures.err in
    rw (p.1, p.2) (close_stops passed (c.is_wanted.ensures.more c.if-not-is_wanted.false) end e.1 e.2 e.3 e.0)

pub items-returns-clause-later : goal.items-returns-clause-later
items-returns-clause-later t c =
    let passed = rw c.items.invariant.same at c.in_ok-item.ensures.passed in
    let end = rw (c.in_ok-item.ensures.moved, c.items.invariant.same) at (c.in_ok-next_item.ensures.end c.if-not-branch.true) in
    let before = later_twice c.items.invariant.later (rw c.items.invariant.same at c.in_ok-item.ensures.later) in
    let close = rw c.in_ok-next_item.ensures.moved at c.in_ok-close.ensures in
    later_twice before (close_later passed (c.is_wanted.ensures.more c.if-not-is_wanted.false) end close.filled close.noted close.still close.lack)

pub items-returns-clause-settled : goal.items-returns-clause-settled
items-returns-clause-settled t c =
    let passed = rw c.items.invariant.same at c.in_ok-item.ensures.passed in
    let wanted = c.is_wanted.ensures.more c.if-not-is_wanted.false in
    let end = rw (c.in_ok-item.ensures.moved, c.items.invariant.same) at (c.in_ok-next_item.ensures.end c.if-not-branch.true) in
    let close = rw c.in_ok-next_item.ensures.moved at c.in_ok-close.ensures in
    let goes = rw (c.in_ok-next_item.ensures.moved, c.in_ok-item.ensures.moved, c.items.invariant.same) at c.in_ok-close.ensures.goes in
    let later = close_later passed wanted end close.filled close.noted close.still close.lack in
    close_settled passed wanted end close.filled close.noted goes later

pub items-returns-clause-whole : goal.items-returns-clause-whole
items-returns-clause-whole t c =
    let passed = rw c.items.invariant.same at c.in_ok-item.ensures.passed in
    let end = rw (c.in_ok-item.ensures.moved, c.items.invariant.same) at (c.in_ok-next_item.ensures.end c.if-not-branch.true) in
    let place = c.place.ensures.place in
    let value = rw c.requires.start at (whole_there passed (c.is_wanted.ensures.more c.if-not-is_wanted.false) end) in
    record {
      value = rw c.in_ok-close.ensures.kept value;
      begins = rw c.plain.ensures c.requires.start;
      ends = rw (c.plain.ensures, place) refl;
      escaped = rw c.plain.ensures (λ e. absurd cc, λ x. absurd (container_plain passed.before.fit x));
    }

pub items-returns-clause-marks : goal.items-returns-clause-marks
items-returns-clause-marks t c =
    let end = c.in_ok-next_item.ensures.end c.if-not-branch.true in
    let later = after_space_later c.item.new.walk.text c.item.new.walk.place in
    rw (c.in_ok-close.ensures.kept, c.in_ok-next_item.ensures.moved) (keeps_later c.in_ok-item.ensures.marks (omega (arith, end.1, later)))
