use Rattle.std.proofs.Common.{not, arith}
use Rattle.std.proofs.lemmas.Simd.{zip2_splat}
use Rattle.sonic_blocks.specs.Runs.{is_no_backslash}
use Rattle.sonic_blocks.proofs.LaneLemmas.{if_equal, each_byte, tested}
use Rattle.sonic_blocks.proofs.runs.NoBackslashByteKind.misses.Goals as goal

pub returns : goal.returns
returns c =
    let v = c.args.lanes in
    let long = c.fits-lanes.0 in
    tested _ (λ b. not (is_no_backslash b)) (each_byte _ (λ b. not (is_no_backslash b)) tt) v _ (omega (arith, long)) c.fits-lanes.1 (zip2_splat if_equal v 16 92 long)
