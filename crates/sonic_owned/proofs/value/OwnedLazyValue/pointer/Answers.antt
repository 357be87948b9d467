use Rattle.std.proofs.Common.{arith}
use Rattle.std.proofs.lemmas.List.{take_rest, drop_all}
use Rattle.sonic_owned.proofs.LeadingLemmas.{alike_below, next_node, some_follows}
use Rattle.sonic_owned.proofs.value.OwnedLazyValue.pointer.Goals as goal
use Rattle.sonic_owned.specs.Leading.{leads_here}
use Rattle.sonic_owned.specs.Seen.{view_form}

pub levels-preserved : goal.levels-preserved
levels-preserved c =
    let next = next_node c.args.path.now c.levels.passed _ c.levels-test.true in
    (omega (arith, c.levels-test.true), alike_below c.levels.invariant.1 next c.in-Item.ensures)

pub returns-in-Unopened-clause-some : goal.returns-in-Unopened-clause-some
returns-in-Unopened-clause-some c =
    let rest = take_rest c.args.path.now c.levels.passed in
    some_follows c.look_into.result (λ seen l. c.levels.invariant.1.on (view_form seen) (rw (← rest, c.in-Unopened.ensures, ← c.as_lazy.ensures) l)) c.look_into.ensures.some

pub returns-in-Unopened-clause-none : goal.returns-in-Unopened-clause-none
returns-in-Unopened-clause-none c = λ e g l.
    let none = rw (take_rest c.args.path.now c.levels.passed, c.as_lazy.ensures) at (c.look_into.ensures.none e g) in
    none (rw c.in-Unopened.ensures at (c.levels.invariant.1.back g l))

pub returns-in-Nowhere-clause-none : goal.returns-in-Nowhere-clause-none
returns-in-Nowhere-clause-none c = λ _ g l.
    let next = next_node c.args.path.now c.levels.passed _ c.levels-test.true in
    c.in-Nowhere.ensures _ g (rw next at (c.levels.invariant.1.back g l))

pub returns-clause-some : goal.returns-clause-some
returns-clause-some c = c.levels.invariant.1.on _ (rw (drop_all c.levels.passed c.args.path.now c.levels-test.false) leads_here)
