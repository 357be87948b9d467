use Rattle.std.proofs.Common.{◌≡◌, ℕ, ◌||◌, Bool, true, false, not, cond, eqb, refl, arith}
use Rattle.std.proofs.lemmas.Simd.{zip2_splat}
use lib.Bits.{bit_or}
use lib.Lanes.{top}
use Rattle.sonic_blocks.specs.Firsts.{is_one_of}
use Rattle.sonic_blocks.proofs.LaneLemmas.{if_equal, joined, tested}
use Rattle.sonic_blocks.proofs.runs.OthersByteKind.misses.Goals as goal

one_of : (p q r : Bool) → top 7 (bit_or (bit_or (cond p 255 0) (cond q 255 0)) (cond r 255 0)) ≡ not (not (p || q || r))
one_of true true true = refl
one_of true true false = refl
one_of true false true = refl
one_of true false false = refl
one_of false true true = refl
one_of false true false = refl
one_of false false true = refl
one_of false false false = refl

pub returns : goal.returns
returns c =
    let v = c.args.lanes in
    let long = c.fits-lanes.0 in
    let kind = c.args.self.now in
    let misses = λ (x : ℕ). not (not (is_one_of kind.a kind.b kind.c x)) in
    tested _ misses (λ x h. one_of (eqb x kind.a) (eqb x kind.b) (eqb x kind.c)) v _ (omega (arith, long)) c.fits-lanes.1
    (joined bit_or _ _ v (joined bit_or _ _ v (zip2_splat if_equal v 16 kind.a long) (zip2_splat if_equal v 16 kind.b long)) (zip2_splat if_equal v 16 kind.c long))
