use Rattle.std.proofs.Common.{◌≡◌, ◌∙◌, ◌+◌, true, false, length, arith, sym}
use Rattle.sonic_examples.proofs.AroundLemmas.{none_yet, stays_last, stays_none}
use Rattle.sonic_examples.proofs.viewer.value_at.Goals as goal
use Rattle.sonic_examples.proofs.viewer.value_at.Goals.{then-is_around, else-is_around}
use Rattle.sonic_examples.specs.Around.{IsAround}

pub loop-number-preserved : goal.loop-number-preserved
loop-number-preserved c =
    let es = c.args.index.now.entries in
    let place = c.args.place in
    let number = c.loop-number.number in
    let found = c.loop-number.found in
    elim c.if-is_around.branch [
      | then-is_around w ↦
          record { some = rw w.found-is (c.is_around.ensures.0 w.if-is_around.true, none_yet es place (number + 1)); none = rw w.found-is tt }
      | else-is_around w ↦
          let here : ¬ IsAround es place number = λ around. (let clash : true ≡ false = sym (c.is_around.ensures.1 around) ∙ w.if-is_around.false in absurd cc) in
          record {
            some = rw w.found-is (stays_last found c.loop-number.invariant.some here);
            none = rw w.found-is (stays_none found c.loop-number.invariant.none here);
          }
    ]

pub returns-clause-some : goal.returns-clause-some
returns-clause-some c =
    let all : c.loop-number.number ≡ length c.args.index.now.entries =
    omega (arith, c.loop-number.auto.number-end, c.loop-number-test.false, c.len-number-end.ensures) in
    rw all at c.loop-number.invariant.some

pub returns-clause-none : goal.returns-clause-none
returns-clause-none c =
    let all : c.loop-number.number ≡ length c.args.index.now.entries =
    omega (arith, c.loop-number.auto.number-end, c.loop-number-test.false, c.len-number-end.ensures) in
    rw all at c.loop-number.invariant.none
