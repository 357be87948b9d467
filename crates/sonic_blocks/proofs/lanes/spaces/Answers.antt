use Rattle.std.proofs.Common.{ℕ, ap, ◌∙◌, arith}
use Rattle.std.proofs.lemmas.Simd.{zip2_splat}
use lib.Bits.{bit_or}
use Rattle.sonic_blocks.specs.Bits.{is_set, is_space}
use Rattle.sonic_blocks.proofs.LaneLemmas.{if_equal, joined, each_byte, tested, set_tested}
use Rattle.sonic_blocks.proofs.lanes.spaces.Goals as goal

pub returns : goal.returns
returns c k h =
    let v = c.args.lanes in
    let long = c.fits-lanes.0 in
    let is = λ (byte : ℕ). zip2_splat if_equal v 64 byte long in
    let lanes = joined bit_or _ _ v (joined bit_or _ _ v (joined bit_or _ _ v (is 32) (is 9)) (is 10)) (is 13) in
    ap (λ n. is_set n k) (tested _ is_space (each_byte _ is_space tt) v _ (omega (arith, long)) c.fits-lanes.1 lanes) ∙ set_tested is_space v k (omega (arith, long))
