use Rattle.std.proofs.Common.{arith}
use Rattle.sonic_blocks.proofs.InsideLemmas.{inside_bits, inside_carry}
use Rattle.sonic_blocks.proofs.bits.get_string_bits.Goals as goal

pub returns-clause-bits : goal.returns-clause-bits
returns-clause-bits c =
    inside_bits c.args.backslash c.args.quote c.args.prev_escaped.now c.args.prev_instring.now c.get_escaped-escaped.result c.prefix_xor.result c.requires.instring (omega arith)
    c.get_escaped-escaped.ensures.bits c.prefix_xor.ensures

pub returns-clause-instring : goal.returns-clause-instring
returns-clause-instring c =
    inside_carry c.args.backslash c.args.quote c.args.prev_escaped.now c.args.prev_instring.now c.get_escaped-escaped.result c.prefix_xor.result c.requires.instring (omega arith)
    c.get_escaped-escaped.ensures.bits c.prefix_xor.ensures (omega arith)
