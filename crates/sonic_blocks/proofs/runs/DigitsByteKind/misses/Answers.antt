use Rattle.std.proofs.Common.{◌+◌, ◌-◌, ◌%◌, not, arith}
use Rattle.std.specs.Char.{is_ascii_digit}
use Rattle.std.proofs.lemmas.Simd.{zip2_splat}
use Rattle.sonic_blocks.proofs.LaneLemmas.{if_at_most, from_splat, each_byte, tested}
use Rattle.sonic_blocks.proofs.runs.DigitsByteKind.misses.Goals as goal

pub returns : goal.returns
returns c =
    let v = c.args.lanes in
    let long = c.fits-lanes.0 in
    tested _ (λ b. not (is_ascii_digit b)) (each_byte _ (λ b. not (is_ascii_digit b)) tt) v _ (omega (arith, long)) c.fits-lanes.1 (from_splat if_at_most _ 10 16 v long (zip2_splat (λ a b. (a + (256 - b)) % 256) v 16 48 long))
