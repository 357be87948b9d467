use Rattle.std.proofs.Common.{ltb, ◌<◌, ◌^◌, subst, sym, arith, w8}
use Rattle.std.proofs.lemmas.Simd.{bitmask_splat}
use Rattle.sonic_blocks.proofs.StringBlockLemmas.{mask_small}
use Rattle.sonic_blocks.proofs.string_block.controls.Goals as goal

pub overflow_cast-result : goal.overflow_cast-result
overflow_cast-result c =
    record { fits = subst (λ n. n < 2 ^ 32) (sym (bitmask_splat w8 ltb c.args.lanes 32 32 c.fits-lanes.0 (omega arith))) (mask_small (λ x. ltb x 32) c.args.lanes c.fits-lanes.0) }

pub returns : goal.returns
returns c = bitmask_splat w8 ltb c.args.lanes 32 32 c.fits-lanes.0 (omega arith)
