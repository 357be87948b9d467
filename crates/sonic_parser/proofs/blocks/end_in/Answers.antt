use Rattle.std.proofs.Common.{◌+◌, arith}
use lib.Bits.{bit_and, and_le_l}
use lib.Count.{ones-le}
use Rattle.sonic_blocks.proofs.BitLemmas.{flip}
use Rattle.sonic_blocks.proofs.BlockLemmas.{carried_on, outside_few}
use Rattle.sonic_text.specs.Values.{opening}
use Rattle.sonic_parser.proofs.BlockLemmas.{bracket_block, apart, level_on, closed_on, ends_later, ends_here}
use Rattle.sonic_parser.proofs.blocks.end_in.Goals as goal

pub closing_bit-requires-clause-apart : goal.closing_bit-requires-clause-apart
closing_bit-requires-clause-apart c =
    let x = c.requires.ends.3 in
    apart (bracket_block x.known x.masks (c.brackets_of-opens.ensures _ _ x.masks) (omega arith) (omega arith) (omega arith) c.get_string_bits-inside.ensures.bits)

pub closing_bit-requires-clause-room : goal.closing_bit-requires-clause-room
closing_bit-requires-clause-room c =
    let x = c.requires.ends in
    omega (arith, x.3.known.level, outside_few x.0 x.1 c.args.block.now.place (opening c.args.kind), c.requires.room)

pub returns-in-Some : goal.returns-in-Some
returns-in-Some c t start j x =
    ends_here (bracket_block x.known x.masks (c.brackets_of-opens.ensures _ _ x.masks) (omega arith) (omega arith) (omega arith) c.get_string_bits-inside.ensures.bits)
    x.begins c.in-Some.ensures j x.closes x.later

pub overflow_add-known : goal.overflow_add-known
overflow_add-known c =
    let x = c.requires.ends in
    let opens = c.brackets_of-opens.result.0 in
    let few = ones-le 64 (bit_and opens (flip c.get_string_bits-inside.result)) (omega (arith, and_le_l opens (flip c.get_string_bits-inside.result))) in
    record { fits = omega (arith, x.3.known.level, outside_few x.0 x.1 c.args.block.now.place (opening c.args.kind), c.requires.room, few) }

pub overflow_sub-known : goal.overflow_sub-known
overflow_sub-known c =
    let x = c.requires.ends.3 in
    let h = bracket_block x.known x.masks (c.brackets_of-opens.ensures _ _ x.masks) (omega arith) (omega arith) (omega arith) c.get_string_bits-inside.ensures.bits in
    let later = ends_later h x.begins c.in_default.ensures c.requires.ends.2 x.closes x.later in
    omega (arith, x.closes.unclosed (c.args.block.now.place + 64) (omega (arith, x.known.carried.from)) later, level_on h, closed_on h)

pub returns : goal.returns
returns c t start j x =
    let h = bracket_block x.known x.masks (c.brackets_of-opens.ensures _ _ x.masks) (omega arith) (omega arith) (omega arith) c.get_string_bits-inside.ensures.bits in
    let later = ends_later h x.begins c.in_default.ensures j x.closes x.later in (
      record {
        level = omega (arith, x.closes.unclosed (c.args.block.now.place + 64) (omega (arith, x.known.carried.from)) later, level_on h, closed_on h);
        carried = carried_on h.block c.get_string_bits-inside.ensures.escaped c.get_string_bits-inside.ensures.instring;
      },
      later,
    )
