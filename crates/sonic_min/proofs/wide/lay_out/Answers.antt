use Rattle.std.proofs.Common.{length, arith}
use Rattle.sonic_blocks.proofs.BlockLemmas.{IsBlock, carried_on, carried_start}
use Rattle.sonic_min.specs.Internal.Marks.{HasNoMark}
use Rattle.sonic_min.proofs.LaidLemmas.{finished, started}
use Rattle.sonic_min.proofs.MarkBits.{block_marks}
use Rattle.sonic_min.proofs.wide.lay_out.Goals as goal

pub loop-place-init : goal.loop-place-init
loop-place-init c = record {
  carried = carried_start c.args.text.now 0;
  none = λ k l m. absurd (omega arith);
  laid = started c.args.width c.requires.valid c.requires.nothing;
}

pub pass_block-requires-clause-marks : goal.pass_block-requires-clause-marks
pass_block-requires-clause-marks c =
    let are = c.block_at-block.ensures in
    let inside = c.get_string_bits-inside in
    let block : IsBlock c.args.text.now 0 c.loop-place.place c.loop-place.in_escape c.loop-place.in_string c.block_at-block.result.backslash c.block_at-block.result.quote inside.result =
    record { carried = c.loop-place.invariant.carried; backslashes = are.backslash; quotes = are.quote; small = omega arith; bits = inside.ensures.bits } in
    block_marks c.args.text.now c.block_at-block.result.structurals block are.structurals

pub loop-place-preserved : goal.loop-place-preserved
loop-place-preserved c =
    let are = c.block_at-block.ensures in
    let inside = c.get_string_bits-inside in
    let block : IsBlock c.args.text.now 0 c.loop-place.place c.loop-place.in_escape c.loop-place.in_string c.block_at-block.result.backslash c.block_at-block.result.quote inside.result =
    record { carried = c.loop-place.invariant.carried; backslashes = are.backslash; quotes = are.quote; small = omega arith; bits = inside.ensures.bits } in
    record {
      carried = carried_on block inside.ensures.escaped inside.ensures.instring;
      none = c.in_ok-so_far.ensures.none;
      laid = c.in_ok-so_far.ensures.laid;
    }

pub returns-clause-ok : goal.returns-clause-ok
returns-clause-ok c =
    let v = c.loop-place.invariant in
    let none : HasNoMark c.args.text.now c.loop-place.so_far.start (length c.args.text.now) = λ k l m. v.none k l (omega (arith, c.loop-place-test.false)) in
    finished v.laid none c.in_ok-put_token.ensures.ok
