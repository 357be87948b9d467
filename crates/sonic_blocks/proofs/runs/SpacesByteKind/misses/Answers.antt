use Rattle.std.proofs.Common.{ℕ, not, arith}
use Rattle.std.proofs.lemmas.Simd.{zip2_splat}
use lib.Bits.{bit_and}
use Rattle.sonic_blocks.specs.Bits.{is_space}
use Rattle.sonic_blocks.proofs.LaneLemmas.{if_other, joined, each_byte, tested}
use Rattle.sonic_blocks.proofs.runs.SpacesByteKind.misses.Goals as goal

pub returns : goal.returns
returns c =
    let v = c.args.lanes in
    let long = c.fits-lanes.0 in
    let is_no = λ (byte : ℕ). zip2_splat if_other v 16 byte long in
    tested _ (λ b. not (is_space b)) (each_byte _ (λ b. not (is_space b)) tt) v _ (omega (arith, long)) c.fits-lanes.1 (joined bit_and _ _ v (joined bit_and _ _ v (joined bit_and _ _ v (is_no 32) (is_no 9)) (is_no 10)) (is_no 13))
