use Rattle.std.proofs.Common.{eqb, map, false, ap, ◌∙◌, arith, w8}
use Rattle.std.proofs.lemmas.List.{get_or-map}
use Rattle.std.proofs.lemmas.Simd.{bitmask_splat}
use Rattle.sonic_blocks.proofs.BitLemmas.{set_mask}
use Rattle.sonic_blocks.specs.Bits.{is_set}
use Rattle.sonic_min.proofs.marks.equal_to.Goals as goal

pub returns : goal.returns
returns c k h =
    let long = c.fits-lanes.0 in
    let lanes = bitmask_splat w8 eqb c.args.lanes 64 c.args.byte long (omega arith) in
    ap (λ n. is_set n k) lanes ∙ set_mask (map (λ x. eqb x c.args.byte) c.args.lanes) k ∙ get_or-map (λ x. eqb x c.args.byte) c.args.lanes k 0 false (omega (arith, long))
