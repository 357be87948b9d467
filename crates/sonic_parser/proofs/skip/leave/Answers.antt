use Rattle.std.proofs.Common.{◌≡◌, ◌≢◌, ◌-◌, ◌<◌, ◌≤◌, length, take, arith}
use Rattle.std.proofs.lemmas.List.{length-take}
use Rattle.sonic_parser.proofs.SkippingLemmas.{next_expected, last_ended, closed_all, closed_more, last_of, top_is, top_of_first, first_of_first}
use Rattle.sonic_parser.proofs.skip.leave.Goals as goal

pub returns-in-Ok-Item-clause-reached : goal.returns-in-Ok-Item-clause-reached
returns-in-Ok-Item-clause-reached c = λ m root before.
    rw c.new.ensures (next_expected (last_of c.args.kinds.now c.containers.depth) (c.containers.invariant.ended m root before) (rw c.in-Ok-Item.field-0-is at c.in-Ok-Item.ensures.ok))

pub returns-in-Err-clause-reached : goal.returns-in-Err-clause-reached
returns-in-Err-clause-reached c = λ m root before.
    let kinds = c.args.kinds.now in
    let depth = c.containers.depth in
    let i = c.containers.invariant in
    let room : depth ≤ length kinds = omega (arith, i.fewer, c.requires.room) in
    let some : 0 < length (take depth kinds) = omega (arith, i.some, length-take depth kinds, room) in
    rw c.new-in-Err.ensures (i.ended m root before, λ kind other. rw (top_is (take depth kinds) kind (last_of kinds depth) some other (top_of_first kinds depth i.some room)) c.in-Err.ensures.err.0)

pub returns-then-depth-eq0-clause-reached : goal.returns-then-depth-eq0-clause-reached
returns-then-depth-eq0-clause-reached c = λ m root before.
    let kinds = c.args.kinds.now in
    let depth = c.containers.depth in
    let i = c.containers.invariant in
    let room : depth ≤ length kinds = omega (arith, i.fewer, c.requires.room) in
    let none : length (take (depth - 1) kinds) ≡ 0 = omega (arith, length-take (depth - 1) kinds, c.if-depth-eq0.true) in
    rw c.new-then-depth-eq0.ensures (closed_all (last_ended (i.ended m root before) (top_of_first kinds depth i.some room) (rw c.in-Ok-End.field-0-is at c.in-Ok-End.ensures.ok) (first_of_first kinds depth i.some room)) none)

pub containers-preserved : goal.containers-preserved
containers-preserved c =
    let kinds = c.args.kinds.now in
    let depth = c.containers.depth in
    let i = c.containers.invariant in
    let room : depth ≤ length kinds = omega (arith, i.fewer, c.requires.room) in
    let some : length (take (depth - 1) kinds) ≢ 0 = λ e. omega (arith, length-take (depth - 1) kinds, c.if-depth-eq0.false, room, e) in
    let closed = rw c.in-Ok-End.field-0-is at c.in-Ok-End.ensures.ok in
    record {
      within = closed.1;
      some = omega (arith, c.if-depth-eq0.false, i.some);
      fewer = omega (arith, i.fewer);
      later = omega (arith, closed.0, i.later);
      ended = λ m root before. closed_more (last_ended (i.ended m root before) (top_of_first kinds depth i.some room) closed (first_of_first kinds depth i.some room)) some;
    }
