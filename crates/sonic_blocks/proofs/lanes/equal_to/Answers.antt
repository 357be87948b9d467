use Rattle.std.proofs.Common.{eqb, ap, ◌∙◌, arith, w8}
use Rattle.std.proofs.lemmas.Simd.{bitmask_splat}
use Rattle.sonic_blocks.proofs.LaneLemmas.{set_tested}
use Rattle.sonic_blocks.proofs.lanes.equal_to.Goals as goal
use Rattle.sonic_blocks.specs.Bits.{is_set}

pub returns : goal.returns
returns c k h =
    let lanes = bitmask_splat w8 eqb c.args.lanes 64 c.args.byte c.fits-lanes.0 (omega arith) in
    ap (λ n. is_set n k) lanes ∙ set_tested (λ x. eqb x c.args.byte) c.args.lanes k (omega (arith, c.fits-lanes.0))
