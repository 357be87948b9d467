use Rattle.std.proofs.Common.{arith}
use Rattle.sonic_text.proofs.BracketLemmas.{value_closes}
use Rattle.sonic_text.proofs.Within.{value_within}
use Rattle.sonic_parser.proofs.BlockLemmas.{in_container, known_start}
use Rattle.sonic_parser.proofs.blocks.end_of_kind.Goals as goal

pub loop-block-init : goal.loop-block-init
loop-block-init g c = record {
  masks = c.requires.masks;
  known = known_start c.args.kind c.args.tape.now c.args.start;
  before_end = λ j h. h.later;
  from = omega arith;
  whole = omega arith;
  cost = omega arith;
}

pub end_in-requires-clause-ends : goal.end_in-requires-clause-ends
end_in-requires-clause-ends g c =
    let x = c.requires.container in
    let closes = value_closes x.0 c.args.kind c.args.tape.now c.args.start x.1 x.2 c.requires.begins in
    let i = c.loop-block.invariant in
    (c.args.tape.now, c.args.start, x.1, in_container c.requires.begins i.masks i.known closes (i.before_end x.1 closes))

pub returns-in-Some-clause-end : goal.returns-in-Some-clause-end
returns-in-Some-clause-end g c lossy j value =
    let closes = value_closes lossy c.args.kind c.args.tape.now c.args.start j value c.requires.begins in
    let i = c.loop-block.invariant in
    c.in-Some.ensures c.args.tape.now c.args.start j (in_container c.requires.begins i.masks i.known closes (i.before_end j closes))

pub returns-in-Some-clause-cost : goal.returns-in-Some-clause-cost
returns-in-Some-clause-cost g c =
    let x = c.requires.container in
    let closes = value_closes x.0 c.args.kind c.args.tape.now c.args.start x.1 x.2 c.requires.begins in
    let i = c.loop-block.invariant in
    let later = i.before_end x.1 closes in
    omega (arith, c.in-Some.ensures c.args.tape.now c.args.start x.1 (in_container c.requires.begins i.masks i.known closes later), later, i.cost)

pub masks_at-block-requires : goal.masks_at-block-requires
masks_at-block-requires g c =
    let x = c.requires.container in
    let closes = value_closes x.0 c.args.kind c.args.tape.now c.args.start x.1 x.2 c.requires.begins in
    let i = c.loop-block.invariant in
    let on = c.in_default.ensures c.args.tape.now c.args.start x.1 (in_container c.requires.begins i.masks i.known closes (i.before_end x.1 closes)) in
    omega (arith, on.1, value_within x.2)

pub loop-block-preserved : goal.loop-block-preserved
loop-block-preserved g c =
    let x = c.requires.container in
    let closes = value_closes x.0 c.args.kind c.args.tape.now c.args.start x.1 x.2 c.requires.begins in
    let i = c.loop-block.invariant in
    let on = c.in_default.ensures c.args.tape.now c.args.start in
    record {
      masks = c.masks_at-block.ensures.masks;
      known = (on x.1 (in_container c.requires.begins i.masks i.known closes (i.before_end x.1 closes))).0;
      before_end = λ j h. (on j (in_container c.requires.begins i.masks i.known h (i.before_end j h))).1;
      from = omega (arith, i.from);
      whole = omega (arith, i.from, i.whole);
      cost = omega (arith, i.from, i.whole, i.cost, c.masks_at-block.ensures.step);
    }

pub unreachable-requires : goal.unreachable-requires
unreachable-requires g c =
    let x = c.requires.container in
    let closes = value_closes x.0 c.args.kind c.args.tape.now c.args.start x.1 x.2 c.requires.begins in
    omega (arith, c.loop-block.invariant.before_end x.1 closes, value_within x.2, c.loop-block-test.false, c.len-len.ensures.value)
