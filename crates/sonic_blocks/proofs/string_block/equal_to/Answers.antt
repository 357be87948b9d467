use Rattle.std.proofs.Common.{◌==◌, eqb, ◌<◌, ◌^◌, subst, sym, arith, w8}
use Rattle.std.proofs.lemmas.Simd.{bitmask_splat}
use Rattle.sonic_blocks.proofs.StringBlockLemmas.{mask_small}
use Rattle.sonic_blocks.proofs.string_block.equal_to.Goals as goal

pub overflow_cast-result : goal.overflow_cast-result
overflow_cast-result c =
    record { fits = subst (λ n. n < 2 ^ 32) (sym (bitmask_splat w8 eqb c.args.lanes 32 c.args.byte c.fits-lanes.0 (omega arith))) (mask_small (λ x. x == c.args.byte) c.args.lanes c.fits-lanes.0) }

pub returns : goal.returns
returns c = bitmask_splat w8 eqb c.args.lanes 32 c.args.byte c.fits-lanes.0 (omega arith)
