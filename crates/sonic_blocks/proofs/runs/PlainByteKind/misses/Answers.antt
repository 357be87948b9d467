use Rattle.std.proofs.Common.{not, arith}
use Rattle.std.proofs.lemmas.Simd.{zip2_splat}
use lib.Bits.{bit_or}
use Rattle.sonic_blocks.specs.Runs.{is_plain}
use Rattle.sonic_blocks.proofs.LaneLemmas.{if_equal, if_below, joined, each_byte, tested}
use Rattle.sonic_blocks.proofs.runs.PlainByteKind.misses.Goals as goal

pub returns : goal.returns
returns c =
    let v = c.args.lanes in
    let long = c.fits-lanes.0 in
    tested _ (λ b. not (is_plain b)) (each_byte _ (λ b. not (is_plain b)) tt) v _ (omega (arith, long)) c.fits-lanes.1
    (joined bit_or _ _ v (joined bit_or _ _ v (zip2_splat if_equal v 16 34 long) (zip2_splat if_equal v 16 92 long)) (zip2_splat if_below v 16 32 long))
