use Rattle.std.proofs.Common.{arith}
use Rattle.sonic_blocks.proofs.BlockLemmas.{carried_on}
use Rattle.sonic_parser.proofs.BlockLemmas.{string_block, string_here, string_later}
use Rattle.sonic_parser.proofs.blocks.string_end.Goals as goal

pub returns-then-inside : goal.returns-then-inside
returns-then-inside g c s inside =
    let v = c.loop-place.invariant in
    let masks = c.masks_at-masks.ensures.masks in
    rw c.trailing_ones.ensures (string_here (string_block (v.carried s inside) masks (omega arith) c.get_string_bits-inside.ensures.bits) (v.inside s inside) v.later (omega arith))

pub loop-place-preserved : goal.loop-place-preserved
loop-place-preserved g c =
    let v = c.loop-place.invariant in
    let masks = c.masks_at-masks.ensures.masks in
    record {
      carried = λ s inside. carried_on (string_block (v.carried s inside) masks (omega arith) c.get_string_bits-inside.ensures.bits) c.get_string_bits-inside.ensures.escaped c.get_string_bits-inside.ensures.instring;
      inside = λ s inside. string_later (string_block (v.carried s inside) masks (omega arith) c.get_string_bits-inside.ensures.bits) (v.inside s inside) v.later c.if-inside.false;
      later = omega (arith, v.later);
    }
