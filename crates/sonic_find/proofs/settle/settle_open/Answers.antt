use Rattle.sonic_find.proofs.settle.settle_open.Goals as goal
use Rattle.sonic_find.proofs.settle.settle_open.Goals.{then-not-has, else-not-has}
use Rattle.std.proofs.Common.{◌≡◌, true, false, sym, ap, ◌∙◌, arith}
use Rattle.std.specs.Prelude.{Some}
use Rattle.sonic_find.proofs.WalkLemmas.List.{set_nothing}
use Rattle.sonic_find.proofs.WalkLemmas.Settle.{one_more_set, no_more_set, none_set, all_set}
use Rattle.sonic_find.specs.Internal.Walk.{IsOpen}

pub loop-i-init : goal.loop-i-init
loop-i-init g c = set_nothing c.args.slots.now c.args.x (none_set c.args.view.now.paths c.args.view.now.prefix c.args.view.now.children (IsOpen c.args.visited.now))

pub loop-i-preserved : goal.loop-i-preserved
loop-i-preserved g c =
    let view = c.args.view.now in
    elim c.if-not-has.branch [
      | then-not-has w ↦
          let ahead : IsOpen c.args.visited.now c.loop-i.i = c.has.ensures ∙ ap Some w.if-not-has.true in
          let below = rw (w.child-below.ensures.paths, w.child-below.ensures.prefix) at w.settle.ensures in
          rw w.slots-is (one_more_set view.paths view.prefix view.children (IsOpen c.args.visited.now) _ w.child-below.ensures.node ahead c.loop-i.invariant below)
      | else-not-has w ↦
          let visited = c.has.ensures ∙ ap Some w.if-not-has.false in
          rw w.slots-is (no_more_set view.paths view.prefix view.children (IsOpen c.args.visited.now)
          (λ ahead. (let clash : Some true ≡ Some false = sym visited ∙ ahead in absurd cc)) c.loop-i.invariant)
    ]

pub returns : goal.returns
returns g c =
    all_set c.args.view.now.paths c.args.view.now.prefix c.args.view.now.children (IsOpen c.args.visited.now) (omega (arith, c.count-i-end.ensures.count, c.loop-i-test.false)) c.loop-i.invariant
