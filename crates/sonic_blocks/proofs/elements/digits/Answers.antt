use Rattle.std.proofs.Common.{ℕ, ◌+◌, ◌-◌, ◌%◌, ap, ◌∙◌, arith, map, replicate}
use Rattle.std.specs.Char.{is_ascii_digit}
use Rattle.std.proofs.lemmas.List.{length-map}
use Rattle.std.proofs.lemmas.Simd.{zip2_splat, map-map}
use lib.Lanes.{zip2}
use Rattle.sonic_blocks.specs.Bits.{is_set}
use Rattle.sonic_blocks.proofs.LaneLemmas.{if_below, each_byte, tested, set_tested}
use Rattle.sonic_blocks.proofs.elements.digits.Goals as goal

pub returns : goal.returns
returns c k h =
    let v = c.args.lanes in
    let long = c.fits-lanes.0 in
    let less = λ (b : ℕ). (b + (256 - 48)) % 256 in
    let lanes = ap (λ xs. zip2 if_below xs (replicate 64 10)) (zip2_splat (λ a b. (a + (256 - b)) % 256) v 64 48 long)
    ∙ zip2_splat if_below (map less v) 64 10 (length-map v less ∙ long) ∙ map-map (λ x. if_below x 10) less v in
    ap (λ n. is_set n k) (tested _ is_ascii_digit (each_byte _ is_ascii_digit tt) v _ (omega (arith, long)) c.fits-lanes.1 lanes) ∙ set_tested is_ascii_digit v k (omega (arith, long))
